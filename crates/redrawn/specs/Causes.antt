-- What document 02's CR 6 asks of a stroke, "a stroke with another pen or end", and that the test is that. That each number is exactly where its words say stands
-- in Refused.antt (proofs/).
use Rattle.std.specs.Prelude.{true, List, [], ◌∷◌, ◌≡◌, ◌≤◌, ℤ, pos, neg_ℤ}
use Rattle.std.proofs.Math.Path.{refl}
use borrow.Author.Tests.{le-leb}
use Rattle.exact.specs.Whole.{◌≤ᶻ◌}
use Rattle.exact.specs.Int16.{int16, int16-iff}
use Rattle.hpgl.specs.declared.Stroke.{Stroke}
use Rattle.hpgl.specs.Valid.{Every, none, more}
use Rattle.redrawn.specs.Redrawn.{is_pen, writable, all_writable}
use Rattle.redrawn.specs.RedrawnLaws.{writable-is, writable-first}

-- "ends −32768 to 32767"
pub record Short (z : ℤ) : Type 0 where
  pub least : neg_ℤ (pos 32768) ≤ᶻ z
  pub most : z ≤ᶻ pos 32767

-- "Pens are 1 to 8 and ends −32768 to 32767."
pub record Fit (s : Stroke) : Type 0 where
  pub least : 1 ≤ s.pen
  pub most : s.pen ≤ 8
  pub x0 : Short s.x0
  pub y0 : Short s.y0
  pub x1 : Short s.x1
  pub y1 : Short s.y1

-- ---- the test is that

short : (z : ℤ) → int16 z ≡ true → Short z
short z h = let b = (int16-iff z).0 h in record { least = b.0; most = b.1 }

short-test : (z : ℤ) → Short z → int16 z ≡ true
short-test z h = (int16-iff z).1 (h.least, h.most)

fit : (s : Stroke) → writable s ≡ true → Fit s
fit s h =
    let w = writable-is s h in
    record { least = w.least; most = w.most; x0 = short s.x0 w.x0; y0 = short s.y0 w.y0; x1 = short s.x1 w.x1; y1 = short s.y1 w.y1 }

fit-test : (s : Stroke) → Fit s → writable s ≡ true
unfolding writable is_pen
fit-test s f =
    rw (le-leb 1 s.pen f.least, le-leb s.pen 8 f.most, short-test s.x0 f.x0, short-test s.y0 f.y0, short-test s.x1 f.x1, short-test s.y1 f.y1) refl

pub all_fit : (ss : List Stroke) → all_writable ss ≡ true → Every Fit ss
all_fit [] h = none
all_fit (s ∷ ss) h = let w = writable-first s ss h in more (fit s w.0) (all_fit ss w.1)

pub all-fit-test : (ss : List Stroke) → Every Fit ss → all_writable ss ≡ true
unfolding all_writable
all-fit-test [] none = refl
all-fit-test (s ∷ ss) (more f fs) = rw (fit-test s f, all-fit-test ss fs) refl
