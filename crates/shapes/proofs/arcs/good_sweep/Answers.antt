-- The proof of `good_sweep`.
use mathlib.Core.Path.{◌≡◌, refl, sym, ap, ◌∙◌}
use mathlib.Core.Bool.{Bool, true, false, not, ◌&&◌}
use borrow.Author.Tests.{eqb-true, eqb-false}
use lib.Dec.{eqb}
use lib.IntN.{ℤ, pos, neg_ℤ}
use mir.Syntax.{w64}
use mir.Val.{of_z}
use Rattle.exact.specs.Whole.{◌≤?◌, ◌≡?◌}
use Rattle.exact.specs.Fit.{arg, lit, fits, eq64-t, eq64-f}
use Rattle.hpgl.specs.Rules.{good_sweep}
use Rattle.shapes.proofs.arcs.good_sweep.Goals as goal
use Rattle.shapes.proofs.arcs.good_sweep.Lts
use Rattle.shapes.proofs.arcs.good_sweep.Tie
use Rattle.shapes.proofs.arcs.good_sweep.Reads

abbrev After-from_to : Type 0
After-from_to = Lts.After-from_to Tie.the-claims Reads.Pre Reads.Post

abbrev Start : Type 0
Start = Lts.Start Tie.the-claims Reads.Pre Reads.Post

abbrev start : After-from_to → Start
start c = search

-- the test, of the swept angle itself
tested : (c : After-from_to) → let a = (start c).args.sweep in c.from_to.result ≡ ((neg_ℤ (pos 3600) ≤? a) && (a ≤? pos 3600))
tested c = c.from_to.ensures ∙ ap (λ (a : ℤ). (neg_ℤ (pos 3600) ≤? a) && (a ≤? pos 3600)) (arg w64 (start c).ranges.sweep).is

zero : (s : Start) → eqb (of_z w64 s.args.sweep) 0 ≡ (s.args.sweep ≡? pos 0)
zero s = go (eqb (of_z w64 s.args.sweep) 0) refl
  where
    go : (b : Bool) → eqb (of_z w64 s.args.sweep) 0 ≡ b → b ≡ (s.args.sweep ≡? pos 0)
    go true e = sym (eq64-t s.args.sweep (pos 0) s.ranges.sweep (fits (lit (pos 0)) tt) (eqb-true _ _ e))
    go false e = sym (eq64-f s.args.sweep (pos 0) s.ranges.sweep (fits (lit (pos 0)) tt) (eqb-false _ _ e))

pub returns-then-from_to : goal.returns-then-from_to
unfolding good_sweep
returns-then-from_to c =
    let s = c.before.before in
    let a = c.before in
    rw (sym (tested a) ∙ c.if-from_to.true) (ap not (zero s))

pub returns-else-from_to : goal.returns-else-from_to
unfolding good_sweep
returns-else-from_to c =
    let a = c.before in
    rw (sym (tested a) ∙ c.if-from_to.false) c.if-from_to.false
