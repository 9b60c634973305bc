-- Strokes out of a list of plain numbers, five for each: what `numbers_of` lays down.
--     records-back, pens-back     strokes that were laid down come back, with their pens' numbers
use Rattle.std.specs.Prelude.{◌≡◌, ℤ, pos, length, get_or, drop}
use Rattle.std.proofs.Math.Path.{refl, sym, ap}
use Rattle.std.proofs.Common.{◌∙◌, subst, length-append, length-drop, take-suc}
use mathlib.Core.List.{List, [], ◌∷◌, ◌++◌, append_assoc}
use Prim.Native.Nat.{ℕ, zero, suc, ◌+◌, ◌*◌, ◌≤◌, ◌<◌}
use native.Mathlib.Omega.{arith}
use Rattle.std.proofs.Math.IntN.{nat_abs}
use Rattle.std.proofs.Math.ListN.{take}
use Rattle.std.proofs.Math.Seq.{take-length}
use Rattle.hpgl.specs.declared.Stroke.{Stroke}
use Rattle.feeding.specs.Feed.{numbers_of, laid_numbers}
use Rattle.hpgl.specs.Numbers.{most_pen}
use Rattle.hpgl.specs.Valid.{Every, more}
use Rattle.feeding.proofs.StrokePens.{Penned}

-- what stands where there is no stroke
abbrev pub no_stroke : Stroke
no_stroke = record { pen = 0; x0 = pos 0; y0 = pos 0; x1 = pos 0; y1 = pos 0 }

-- number k of a list
abbrev pub number_at : List ℤ → ℕ → ℤ
number_at numbers k = get_or numbers k (pos 0)

-- stroke i, of which the numbers stand from place 5 i on
unfoldable pub stroke_at : List ℤ → ℕ → Stroke
stroke_at numbers i = record {
  pen = nat_abs (number_at numbers (i * 5));
  x0 = number_at numbers (i * 5 + 1);
  y0 = number_at numbers (i * 5 + 2);
  x1 = number_at numbers (i * 5 + 3);
  y1 = number_at numbers (i * 5 + 4);
}

-- the first k
unfoldable pub strokes_of : List ℤ → ℕ → List Stroke
strokes_of numbers zero = []
strokes_of numbers (suc k) = strokes_of numbers k ++ (stroke_at numbers k ∷ [])

-- stroke i has a pen's number
pub record PenAt (numbers : List ℤ) (i : ℕ) : Type 0 where
  pub pen : ℕ
  pub is : number_at numbers (i * 5) ≡ pos pen
  pub small : pen ≤ most_pen

-- and so have the first k
abbrev pub PensBefore : List ℤ → ℕ → Type 0
PensBefore numbers k = (i : ℕ) → i < k → PenAt numbers i

-- ---- what was laid down comes back

-- five numbers further
module _ (s : Stroke) (ss : List Stroke) (rest : List ℤ) (i : ℕ) where
  further-pen : number_at (numbers_of (s ∷ ss) ++ rest) (suc i * 5) ≡ number_at (numbers_of ss ++ rest) (i * 5)
  unfolding numbers_of
  further-pen = ap (number_at (numbers_of (s ∷ ss) ++ rest)) (five i)
    where
      five : (i : ℕ) → suc i * 5 ≡ suc (suc (suc (suc (suc (i * 5)))))
      five i = omega arith

  further : (j : ℕ) → number_at (numbers_of (s ∷ ss) ++ rest) (suc i * 5 + j) ≡ number_at (numbers_of ss ++ rest) (i * 5 + j)
  unfolding numbers_of
  further j = ap (number_at (numbers_of (s ∷ ss) ++ rest)) (five i)
    where
      five : (i : ℕ) → suc i * 5 + j ≡ suc (suc (suc (suc (suc (i * 5 + j)))))
      five i = omega arith

module _ (rest : List ℤ) where
  stroke-back : (ss : List Stroke) (i : ℕ) → i < length ss → stroke_at (numbers_of ss ++ rest) i ≡ get_or ss i no_stroke
  unfolding stroke_at numbers_of
  stroke-back [] i h = absurd (omega (arith, h))
  stroke-back (s ∷ ss) zero h = refl
  stroke-back (s ∷ ss) (suc i) h =
      (λ k. record {
        pen = nat_abs (further-pen s ss rest i k);
        x0 = further s ss rest i 1 k;
        y0 = further s ss rest i 2 k;
        x1 = further s ss rest i 3 k;
        y1 = further s ss rest i 4 k;
      })
      ∙ stroke-back ss i (omega (arith, h))

  strokes-back : (ss : List Stroke) (k : ℕ) → k ≤ length ss → strokes_of (numbers_of ss ++ rest) k ≡ take k ss
  unfolding strokes_of
  strokes-back ss zero h = refl
  strokes-back ss (suc k) h =
      ap (λ (l : List Stroke). l ++ (stroke_at (numbers_of ss ++ rest) k ∷ [])) (strokes-back ss k (omega (arith, h)))
      ∙ ap (λ (s : Stroke). take k ss ++ (s ∷ [])) (stroke-back ss k (omega (arith, h))) ∙ sym (take-suc ss k no_stroke (omega (arith, h)))

  pen-back : (ss : List Stroke) → Every Penned ss → (i : ℕ) → i < length ss → PenAt (numbers_of ss ++ rest) i
  unfolding numbers_of
  pen-back [] p i h = absurd (omega (arith, h))
  pen-back (s ∷ ss) (more p q) zero h = record { pen = s.pen; is = refl; small = p }
  pen-back (s ∷ ss) (more p q) (suc i) h =
      let r = pen-back ss q i (omega (arith, h)) in
      record { pen = r.pen; is = further-pen s ss rest i ∙ r.is; small = r.small }

-- five numbers for each stroke
numbers-long : (ss : List Stroke) → length (numbers_of ss) ≡ length ss * 5
unfolding numbers_of
numbers-long [] = refl
numbers-long (s ∷ ss) = omega (arith, numbers-long ss)

-- strokes laid down at the start of some numbers, with more numbers after those
module _ (ss : List Stroke) (numbers : List ℤ) where
  pub laid-long : length ss * 5 ≤ length numbers → length (laid_numbers ss numbers) ≡ length numbers
  laid-long h =
      length-append (numbers_of ss) (drop (length (numbers_of ss)) numbers) ∙ ap (λ (k : ℕ). length (numbers_of ss) + k) (length-drop (length (numbers_of ss)) numbers)
      ∙ omega (arith, numbers-long ss, h)

  module _ (more : List ℤ) where
    abbrev after : List ℤ
    after = drop (length (numbers_of ss)) numbers ++ more

    joined : laid_numbers ss numbers ++ more ≡ numbers_of ss ++ after
    joined = append_assoc (numbers_of ss) (drop (length (numbers_of ss)) numbers) more

    pub records-back : strokes_of (laid_numbers ss numbers ++ more) (length ss) ≡ ss
    records-back = ap (λ (l : List ℤ). strokes_of l (length ss)) joined ∙ strokes-back after ss (length ss) (omega arith) ∙ take-length ss

    pub pens-back : Every Penned ss → PensBefore (laid_numbers ss numbers ++ more) (length ss)
    pens-back p i h = subst (λ (l : List ℤ). PenAt l i) (sym joined) (pen-back after ss p i h)
