-- The proof of `toward`: its two tests are the definition's.
use borrow.Author.Rules.{rules}
use mir.Syntax.{w64}
use Rattle.exact.specs.Fit.{signed64, val, put, fit, neg, lt?-is}
use Rattle.clip.specs.Clip.{toward}
use Rattle.clipping.proofs.toward.Goals as goal

pub overflow_sub-result : goal.overflow_sub-result
overflow_sub-result c = fit w64 (neg (val w64 c.requires.2 tt)) tt

pub returns-then-p-q : goal.returns-then-p-q
unfolding toward
returns-then-p-q c = search (rules, signed64)

pub returns-then-q-p : goal.returns-then-q-p
unfolding toward
returns-then-q-p c =
    let p = val w64 c.requires.0 tt in
    let q = val w64 c.requires.1 tt in
    rw (lt?-is p q c.if-p-q.false, lt?-is q p c.if-q-p.true) (put w64 (neg (val w64 c.requires.2 tt)) tt).is

pub returns-else-q-p : goal.returns-else-q-p
unfolding toward
returns-else-q-p c = search (rules, signed64)
