-- Every length follows from the two spans, which are at most 65,535.
use borrow.Author.Rules.{rules}
use mathlib.Core.Path.{◌≡◌, ◌∙◌}
use Prim.Native.Nat.{◌≤◌}
use native.Mathlib.Omega.{arith}
use mir.Syntax.{w64}
use mir.Val.{SFits}
use Rattle.exact.specs.Fit.{arg}
use Rattle.measure.specs.Root.{across}
use Rattle.measure.specs.RootLaws.{side-small}
use Rattle.sheets.specs.Sheet.{letter_of, laid_out, sheet_of}
use Rattle.sheets.proofs.sheet_of.Goals as goal
use Rattle.sheets.proofs.sheet_of.Lts
use Rattle.sheets.proofs.sheet_of.Tie
use Rattle.sheets.proofs.sheet_of.Reads

abbrev After-side-height : Type 0
After-side-height = Lts.After-side2 Tie.the-claims Reads.Pre Reads.Post

abbrev After-side-width : Type 0
After-side-width = Lts.After-side Tie.the-claims Reads.Pre Reads.Post

abbrev Start : Type 0
Start = Lts.Start Tie.the-claims Reads.Pre Reads.Post

-- the limits fit
module _ (s : Start) where
  left : SFits w64 s.args.r.left
  left = search rules

  bottom : SFits w64 s.args.r.bottom
  bottom = search rules

  right : SFits w64 s.args.r.right
  right = search rules

  top : SFits w64 s.args.r.top
  top = search rules

wide : (c : After-side-width) → c.side-width.result ≤ 65535
wide c = rw c.side-width.ensures (side-small _ _)

high : (c : After-side-height) → c.side-height.result ≤ 65535
high c = rw c.side-height.ensures (side-small _ _)

pub overflow_add-letter : goal.overflow_add-letter
overflow_add-letter c = let w = c.before.before.before.before in let h = c.before in record { fits = omega (arith, wide w, high h) }

pub overflow_add-result-2 : goal.overflow_add-result-2
overflow_add-result-2 c = let w = c.before.before.before.before in let h = c.before in record { fits = omega (arith, wide w, high h) }

pub overflow_add-result-3 : goal.overflow_add-result-3
overflow_add-result-3 c = let w = c.before.before.before.before.before in let h = c.before.before in record { fits = omega (arith, wide w, high h, c.max.ensures) }

pub overflow_add-result-4 : goal.overflow_add-result-4
overflow_add-result-4 c = let w = c.before.before.before.before.before in let h = c.before.before in record { fits = omega (arith, wide w, high h) }

pub overflow_add-result-5 : goal.overflow_add-result-5
overflow_add-result-5 c = let w = c.before.before.before.before.before in let h = c.before.before in record { fits = omega (arith, wide w, high h) }

pub returns : goal.returns
unfolding sheet_of
returns c =
    let s = c.before.before.before.before.before.before.before.before in
    let width : c.side-width.result ≡ across s.args.r.right s.args.r.left = c.side-width.ensures ∙ (λ i. across ((arg w64 (right s)).is i) ((arg w64 (left s)).is i)) in
    let height : c.side-height.result ≡ across s.args.r.top s.args.r.bottom = c.side-height.ensures ∙ (λ i. across ((arg w64 (top s)).is i) ((arg w64 (bottom s)).is i)) in
    rw c.max.ensures (λ i. laid_out ((arg w64 (left s)).is i) ((arg w64 (bottom s)).is i) (width i) (height i) (letter_of (width i) (height i)))
