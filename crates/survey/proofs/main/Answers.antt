-- In a machine of fresh nothing waits.
use Rattle.plotting.specs.PlottedLaws.{started-free}
use Rattle.survey.proofs.main.Goals as goal

pub named-surveyed-requires : goal.named-surveyed-requires
named-surveyed-requires c = started-free c.fresh-started.result _ c.fresh-started.ensures
