-- The numbers of 16 bits, "−32768 to 32767". Document 01 gives this range to hard limits, to P1 and P2, to the ends of a stroke that is driven and, with decimals,
-- to the numbers of an instruction: each of them cites it from here.
use Rattle.std.specs.Prelude.{◌≡◌, refl, ◌↔◌, Bool, true, false, ◌&&◌, ℤ, pos, neg_ℤ}
use Rattle.std.proofs.Common.{sym, true≢false, arith}
use Rattle.exact.specs.Whole.{◌≤ᶻ◌, ord, ◌≤?◌, ≤?-true, le-≤?}
use Rattle.exact.specs.Fit.{Bd, abs}

abbrev pub least16 : ℤ
least16 = neg_ℤ (pos 32768)

abbrev pub most16 : ℤ
most16 = pos 32767

unfoldable pub int16 : ℤ → Bool
int16 z = (least16 ≤? z) && (z ≤? most16)

-- ---- laws

both : (a b : Bool) → (a && b) ≡ true → (a ≡ true) × (b ≡ true)
both true b h = (refl, h)
both false b h = absurd (true≢false (sym h))

-- the test is true exactly there
pub int16-iff : (z : ℤ) → (int16 z ≡ true) ↔ ((least16 ≤ᶻ z) × (z ≤ᶻ most16))
unfolding int16
int16-iff z = (
  (λ h. let b = both (least16 ≤? z) (z ≤? most16) h in (≤?-true least16 z b.0, ≤?-true z most16 b.1)),
  (λ h. simp (le-≤? {a = least16} {b = z} h.0, le-≤? {a = z} {b = most16} h.1)),
)

pub int16-size : (z : ℤ) → int16 z ≡ true → Bd z 32768
int16-size z h = let b = (int16-iff z).0 h in go z b.0 b.1
  where
    go : (z : ℤ) → least16 ≤ᶻ z → z ≤ᶻ most16 → Bd z 32768
    go z l m = record { bd = omega (arith, ord, abs z) }
