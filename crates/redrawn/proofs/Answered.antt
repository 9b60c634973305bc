-- The answer as two numbers.
use Rattle.std.specs.Prelude.{Bool, true, false, cond, List, ◌≡◌, refl, ℕ, eqb, length}
use Rattle.hpgl.specs.declared.Stroke.{Stroke}
use Rattle.redrawn.specs.Redrawn.{all_writable, text_of, fits_in, number_of, written_of, length_in, number_in}

module _ (ss : List Stroke) (room : ℕ) where
  answer-by : (a b : Bool) → all_writable ss ≡ a → fits_in ss room ≡ b →
      (number_in (written_of ss room) ≡ number_of ss room) × (length_in (written_of ss room) ≡ cond (eqb (number_of ss room) 0) (length (text_of ss)) 0)
  unfolding number_of written_of
  answer-by true true e f = rw (e, f) (refl, refl)
  answer-by true false e f = rw (e, f) (refl, refl)
  answer-by false b e f = rw e (refl, refl)

  -- the number of the answer, and its bytes: none where it has one
  pub answer-told : (number_in (written_of ss room) ≡ number_of ss room) × (length_in (written_of ss room) ≡ cond (eqb (number_of ss room) 0) (length (text_of ss)) 0)
  answer-told = answer-by (all_writable ss) (fits_in ss room) refl refl
