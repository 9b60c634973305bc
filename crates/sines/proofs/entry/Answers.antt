-- The proof of `entry`: the lent list is the table.
use Rattle.std.specs.Prelude.{ℕ, List, pos, length, get_or}
use Rattle.std.proofs.Common.{ap, ◌∙◌, arith, w64}
use Rattle.exact.specs.Fit.{got}
use Rattle.sines.specs.Table.{sine_at}
use Rattle.sines.specs.Rules.{entries}
use Rattle.sines.proofs.entry.Goals as goal

pub bounds-table-i : goal.bounds-table-i
bounds-table-i c = omega (arith, ap length c.requires.0, entries)

pub returns : goal.returns
unfolding sine_at
returns c = got w64 c.from.type_inv ∙ c.from.ensures ∙ ap (λ (l : List ℕ). pos (get_or l c.args.i 0)) c.requires.0
