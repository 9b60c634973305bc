-- The proof of `edges_here`: the rows that are left to test decide the whole.
use mathlib.Core.Path.{◌≡◌, sym, ap, ◌∙◌}
use mathlib.Core.Bool.{Bool, true, ◌&&◌}
use mathlib.Core.List.{List}
use Prim.Native.Nat.{ℕ, suc, ◌+◌, ◌*◌, ◌-◌, ◌≤◌, ◌<◌}
use native.Mathlib.Omega.{arith}
use lib.IntN.{ℤ}
use Rattle.rows.specs.Rows.{row_at}
use Rattle.wellformed.specs.Sound.{box_sound, edges_sound}
use Rattle.soundness.proofs.edges_here.Goals as goal
use Rattle.saved.specs.Places.{edges_place}

module _ (zs : List ℤ) (i : ℕ) where
  -- a row is tested, and those after it are left
  one_more : i < 112 → edges_sound zs (edges_place + i * 5) (112 - i) ≡ box_sound (row_at zs (edges_place + i * 5)) && edges_sound zs (edges_place + (i + 1) * 5) (112 - (i + 1))
  unfolding edges_sound
  one_more h =
      let at : edges_place + i * 5 + 5 ≡ edges_place + (i + 1) * 5 = omega arith in
      let less : 112 - i ≡ suc (112 - (i + 1)) = omega arith in
      ap (edges_sound zs (edges_place + i * 5)) less ∙ ap (λ (n : ℕ). box_sound (row_at zs (edges_place + i * 5)) && edges_sound zs n (112 - (i + 1))) at

  -- no row is left
  all : 112 ≤ i → true ≡ edges_sound zs (edges_place + i * 5) (112 - i)
  unfolding edges_sound
  all h = let none : 0 ≡ 112 - i = omega arith in ap (edges_sound zs (edges_place + i * 5)) none

pub returns-then-not-box_sound : goal.returns-then-not-box_sound
returns-then-not-box_sound c =
    let zs = c.args.numbers.now in
    let no = sym (c.box_sound.ensures ∙ ap box_sound c.row_at.ensures) ∙ c.if-not-box_sound.true in
    sym (sym c.loop-i.invariant ∙ one_more zs c.loop-i.i (omega arith) ∙ ap (λ (x : Bool). x && edges_sound zs (edges_place + (c.loop-i.i + 1) * 5) (112 - (c.loop-i.i + 1))) no)

pub loop-i-preserved : goal.loop-i-preserved
loop-i-preserved c =
    let zs = c.args.numbers.now in
    let yes = sym (c.box_sound.ensures ∙ ap box_sound c.row_at.ensures) ∙ c.if-not-box_sound.false in
    sym (one_more zs c.loop-i.i (omega arith) ∙ ap (λ (x : Bool). x && edges_sound zs (edges_place + (c.loop-i.i + 1) * 5) (112 - (c.loop-i.i + 1))) yes) ∙ c.loop-i.invariant

pub returns : goal.returns
returns c =
    let l = c.loop-i in
    all c.args.numbers.now l.i (omega arith) ∙ l.invariant
