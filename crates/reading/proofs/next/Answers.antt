-- A pair ahead is what is told of it; else the steps tell.
use mathlib.Core.Path.{sym, ◌∙◌}
use Rattle.reading.proofs.next.Goals as goal

pub pair_ahead-requires : goal.pair_ahead-requires
pair_ahead-requires c = sym c.awaits_pair.ensures ∙ c.if-awaits_pair.true
