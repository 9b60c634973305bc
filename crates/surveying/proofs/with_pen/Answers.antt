-- Nothing waits in a machine that neither a segment nor a reply occupies.
use Rattle.gathering.specs.GatherLaws.{free-idle}
use Rattle.surveying.proofs.with_pen.Goals as goal

pub inked-requires : goal.inked-requires
inked-requires c = free-idle c.args.d.machine.state.work c.requires
