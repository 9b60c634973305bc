-- The numbers of document 02's CR 6, each exactly where its words say: "(32: a stroke with another pen or end. 33: output too short. 32 first; ..)"
use Rattle.std.specs.Prelude.{Bool, true, false, cond, List, ◌↔◌, ◌≡◌, ℕ, ◌≤◌, ◌<◌, length}
use Rattle.std.proofs.Common.{true≢false, sym, ◌∙◌, arith}
use Rattle.std.proofs.Math.Path.{refl}
use borrow.Author.Tests.{leb-true, leb-false}
use Rattle.hpgl.specs.declared.Stroke.{Stroke}
use Rattle.hpgl.specs.Valid.{Every}
use Rattle.redrawn.specs.Redrawn.{all_writable, text_of, fits_in, number_of}
use Rattle.redrawn.specs.Causes.{Fit, all_fit, all-fit-test}

module _ (ss : List Stroke) (room : ℕ) where
  by_tests : (a b : Bool) → all_writable ss ≡ a → fits_in ss room ≡ b → number_of ss room ≡ cond a (cond b 0 33) 32
  unfolding number_of
  by_tests a b e f = rw (e, f) refl

  -- what each test says
  fits : fits_in ss room ≡ true → length (text_of ss) ≤ room
  unfolding fits_in
  fits e = leb-true (length (text_of ss)) room e

  fits_not : fits_in ss room ≡ false → room < length (text_of ss)
  unfolding fits_in
  fits_not e = leb-false (length (text_of ss)) room e

  pub taken-0 : (number_of ss room ≡ 0) ↔ (Every Fit ss × (length (text_of ss) ≤ room))
  taken-0 = go (all_writable ss) (fits_in ss room) refl refl
    where
      go : (a b : Bool) → all_writable ss ≡ a → fits_in ss room ≡ b → (number_of ss room ≡ 0) ↔ (Every Fit ss × (length (text_of ss) ≤ room))
      go true true e f = ((λ h. (all_fit ss e, fits f)), (λ h. by_tests true true e f))
      go true false e f = ((λ h. absurd (omega (arith, sym (by_tests true false e f) ∙ h))), (λ h. absurd (omega (arith, fits_not f, h.1))))
      go false b e f = ((λ h. absurd (omega (arith, sym (by_tests false b e f) ∙ h))), (λ h. absurd (true≢false (sym (all-fit-test ss h.0) ∙ e))))

  pub refused-32 : (number_of ss room ≡ 32) ↔ (Every Fit ss → ⊥)
  refused-32 = go (all_writable ss) (fits_in ss room) refl refl
    where
      go : (a b : Bool) → all_writable ss ≡ a → fits_in ss room ≡ b → (number_of ss room ≡ 32) ↔ (Every Fit ss → ⊥)
      go true true e f = ((λ h. absurd (omega (arith, sym (by_tests true true e f) ∙ h))), (λ h. absurd (h (all_fit ss e))))
      go true false e f = ((λ h. absurd (omega (arith, sym (by_tests true false e f) ∙ h))), (λ h. absurd (h (all_fit ss e))))
      go false b e f = ((λ h g. true≢false (sym (all-fit-test ss g) ∙ e)), (λ h. by_tests false b e f))

  pub refused-33 : (number_of ss room ≡ 33) ↔ (Every Fit ss × (room < length (text_of ss)))
  refused-33 = go (all_writable ss) (fits_in ss room) refl refl
    where
      go : (a b : Bool) → all_writable ss ≡ a → fits_in ss room ≡ b → (number_of ss room ≡ 33) ↔ (Every Fit ss × (room < length (text_of ss)))
      go true true e f = ((λ h. absurd (omega (arith, sym (by_tests true true e f) ∙ h))), (λ h. absurd (omega (arith, fits f, h.1))))
      go true false e f = ((λ h. (all_fit ss e, fits_not f)), (λ h. by_tests true false e f))
      go false b e f = ((λ h. absurd (omega (arith, sym (by_tests false b e f) ∙ h))), (λ h. absurd (true≢false (sym (all-fit-test ss h.0) ∙ e))))
