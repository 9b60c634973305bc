-- The proof of `extent`: its two tests are the definition's.
use borrow.Author.Rules.{rules}
use Rattle.exact.specs.Fit.{signed64, ◌⊟◌}
use Rattle.clip.specs.Clip.{extent}
use Rattle.clipping.proofs.extent.Goals as goal

pub overflow_sub-result : goal.overflow_sub-result
overflow_sub-result c = search (rules, signed64, c.requires.1 ⊟ c.requires.0)

pub overflow_sub-result-then-q-p : goal.overflow_sub-result-then-q-p
overflow_sub-result-then-q-p c = search (rules, signed64, c.requires.0 ⊟ c.requires.1)

pub returns-then-p-q : goal.returns-then-p-q
unfolding extent
returns-then-p-q c = search (rules, signed64, c.requires.1 ⊟ c.requires.0)

pub returns-then-q-p : goal.returns-then-q-p
unfolding extent
returns-then-q-p c = search (rules, signed64, c.requires.0 ⊟ c.requires.1)

pub returns-else-q-p : goal.returns-else-q-p
unfolding extent
returns-else-q-p c = search (rules, signed64)
