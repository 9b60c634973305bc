-- The proof of `save`.
use Rattle.machine.proofs.Machine.save.Goals as goal

pub save-requires : goal.save-requires
save-requires c = (c.args.self.usable.valid.length, c.requires)

pub returns : goal.returns
returns c = c.save.ensures
