-- Strokes that feed stores as numbers are the strokes that are written: what `numbers_of` lays down, `strokes_in` finds.
use mathlib.Core.List.{List, [], ◌∷◌}
use Rattle.std.specs.Prelude.{◌≡◌, pos, length, get_or}
use Rattle.std.proofs.Math.Path.{refl, ap}
use Rattle.std.proofs.Common.{◌∙◌, suc-add, arith}
use Prim.Native.Nat.{ℕ, zero, suc, ◌+◌, ◌*◌, ◌/◌, ◌≤◌}
use Rattle.rows.specs.Rows.{row_at, small_of, most_byte}
use Rattle.rows.specs.RowLaws.{small-back}
use Rattle.hpgl.specs.declared.Stroke.{Stroke}
use Rattle.hpgl.specs.Valid.{Every, more}
use Rattle.feeding.specs.Feed.{numbers_of}
use Rattle.redrawn.specs.Redrawn.{stroke_at, strokes_from, strokes_in}

module _ (s : Stroke) (ss : List Stroke) where
  -- five numbers further
  further : (k : ℕ) → get_or (numbers_of (s ∷ ss)) (suc (suc (suc (suc (suc k))))) (pos 0) ≡ get_or (numbers_of ss) k (pos 0)
  unfolding numbers_of
  further k = refl

  further-at : (i j : ℕ) → get_or (numbers_of (s ∷ ss)) (suc i * 5 + j) (pos 0) ≡ get_or (numbers_of ss) (i * 5 + j) (pos 0)
  further-at i j =
      let e : suc i * 5 + j ≡ suc (suc (suc (suc (suc (i * 5 + j))))) = omega arith in
      ap (λ (k : ℕ). get_or (numbers_of (s ∷ ss)) k (pos 0)) e ∙ further (i * 5 + j)

  further-first : (i : ℕ) → get_or (numbers_of (s ∷ ss)) (suc i * 5) (pos 0) ≡ get_or (numbers_of ss) (i * 5) (pos 0)
  further-first i =
      let e : suc i * 5 ≡ suc (suc (suc (suc (suc (i * 5))))) = omega arith in
      ap (λ (k : ℕ). get_or (numbers_of (s ∷ ss)) k (pos 0)) e ∙ further (i * 5)

  stroke-further : (i : ℕ) → stroke_at (numbers_of (s ∷ ss)) (suc i) ≡ stroke_at (numbers_of ss) i
  unfolding stroke_at row_at
  stroke-further i = λ k. record {
    pen = small_of most_byte (further-first i k);
    x0 = further-at i 1 k;
    y0 = further-at i 2 k;
    x1 = further-at i 3 k;
    y1 = further-at i 4 k;
  }

  strokes-further : (i k : ℕ) → strokes_from (numbers_of (s ∷ ss)) (suc i) k ≡ strokes_from (numbers_of ss) i k
  unfolding strokes_from
  strokes-further i zero = refl
  strokes-further i (suc k) =
      (λ j. stroke-further i j ∷ strokes_from (numbers_of (s ∷ ss)) (suc-add i 1 j) k) ∙ ap (λ (l : List Stroke). stroke_at (numbers_of ss) i ∷ l) (strokes-further (i + 1) k)

  first-stroke : s.pen ≤ most_byte → stroke_at (numbers_of (s ∷ ss)) 0 ≡ s
  unfolding stroke_at row_at numbers_of
  first-stroke h = λ k. record { pen = small-back most_byte s.pen h k; x0 = s.x0; y0 = s.y0; x1 = s.x1; y1 = s.y1 }

back : (ss : List Stroke) → Every (λ s. s.pen ≤ most_byte) ss → strokes_from (numbers_of ss) 0 (length ss) ≡ ss
unfolding strokes_from
back [] h = refl
back (s ∷ ss) (more p h) =
    (λ j. first-stroke s ss p j ∷ strokes_from (numbers_of (s ∷ ss)) 1 (length ss))
    ∙ ap (λ (l : List Stroke). s ∷ l) (strokes-further s ss 0 (length ss) ∙ back ss h)

numbers-long : (ss : List Stroke) → length (numbers_of ss) ≡ length ss * 5
unfolding numbers_of
numbers-long [] = refl
numbers-long (s ∷ ss) = omega (arith, numbers-long ss)

pub numbers-back : (ss : List Stroke) → Every (λ s. s.pen ≤ most_byte) ss → strokes_in (numbers_of ss) ≡ ss
unfolding strokes_in
numbers-back ss h = let e : length (numbers_of ss) / 5 ≡ length ss = omega (arith, numbers-long ss) in ap (strokes_from (numbers_of ss) 0) e ∙ back ss h
