-- The proof of `axis_entry`: its four tests are the definition's, in its order.
use Rattle.std.proofs.Common.{rules}
use lib.IntN.{pos}
use Rattle.exact.specs.Fit.{signed64, lit, ◌⊞◌, ◌⊟◌, ◌⊠◌}
use Rattle.clip.specs.Clip.{axis_entry}
use Rattle.clipping.proofs.axis_entry.Goals as goal

pub overflow_sub-result : goal.overflow_sub-result
overflow_sub-result c = search (rules, signed64, c.requires.0 ⊟ c.requires.2)

pub overflow_mul-result : goal.overflow_mul-result
overflow_mul-result c = search (rules, signed64, c.requires.0 ⊟ c.requires.2, (c.requires.0 ⊟ c.requires.2) ⊠ c.requires.4)

pub overflow_sub-result-then-q-p : goal.overflow_sub-result-then-q-p
overflow_sub-result-then-q-p c = search (rules, signed64, c.requires.2 ⊟ c.requires.1)

pub overflow_mul-result-then-q-p : goal.overflow_mul-result-then-q-p
overflow_mul-result-then-q-p c = search (rules, signed64, c.requires.2 ⊟ c.requires.1, (c.requires.2 ⊟ c.requires.1) ⊠ c.requires.4)

pub overflow_add-result : goal.overflow_add-result
overflow_add-result c = search (rules, signed64, c.requires.4 ⊞ lit (pos 1))

pub returns-then-p-q : goal.returns-then-p-q
unfolding axis_entry
returns-then-p-q c = search (rules, signed64, c.requires.0 ⊟ c.requires.2, (c.requires.0 ⊟ c.requires.2) ⊠ c.requires.4)

pub returns-then-q-p : goal.returns-then-q-p
unfolding axis_entry
returns-then-q-p c = search (rules, signed64, c.requires.2 ⊟ c.requires.1, (c.requires.2 ⊟ c.requires.1) ⊠ c.requires.4)

pub returns-then-hi-p : goal.returns-then-hi-p
unfolding axis_entry
returns-then-hi-p c = search (rules, signed64, c.requires.4 ⊞ lit (pos 1))

pub returns-else-hi-p : goal.returns-else-hi-p
unfolding axis_entry
returns-else-hi-p c = search (rules, signed64)
