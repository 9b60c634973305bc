-- What the digits are is what those left are, after those before them.
use Rattle.std.specs.Prelude.{◌≡◌, ℕ, ◌≤◌, Bool, true, false, List, [], ◌∷◌, refl, None, Some}
use Rattle.std.proofs.Common.{sym, ap, ◌∙◌, arith, w64, inl, inr, drop, length}
use borrow.Author.Tests.{lt-ltb, le-ltb, le-leb, lt-leb, eqb-true, eqb-false}
use Rattle.std.specs.Int.{IsOutOfRange}
use Rattle.exact.specs.Fit.{got}
use Rattle.textlines.specs.Word.{is_digit, value_from, digits_of}
use Rattle.textlines.specs.WordLaws.{value-more, value-other, value-large, digits-some, value-end}
use Rattle.textlines.proofs.word.digits_of.Goals as goal
use Rattle.textlines.proofs.word.digits_of.Goals.{then-not-is_ascii_digit-via-then-not-is_ascii_digit, then-not-is_ascii_digit-via-else-not-is_ascii_digit+then-n-ge-TOO_LARGE}

-- the byte that is read is a digit, or none
one : (b : ℕ) → (48 ≤ b) × (b ≤ 57) → is_digit b ≡ true
unfolding is_digit
one b h = simp (le-ltb b 48 h.0, le-leb b 57 h.1) refl

none : (b : ℕ) → IsOutOfRange 48 57 b → is_digit b ≡ false
unfolding is_digit
none b (inl h) = rw (lt-ltb b 48 h) refl
none b (inr h) = rw (le-ltb b 48 (omega arith), lt-leb b 57 h) refl

empty : (minus : Bool) (digits : List ℕ) → length digits ≡ 0 → digits_of minus digits ≡ None
unfolding digits_of
empty minus [] e = refl
empty minus (b ∷ bs) e = absurd (omega arith)

pub returns-then-is_empty : goal.returns-then-is_empty
returns-then-is_empty c = sym (empty _ _ (eqb-true _ 0 (sym c.if-is_empty.ensures)))

pub loop-byte-init : goal.loop-byte-init
loop-byte-init c = (omega arith, digits-some c.args.minus c.args.digits.now 0 0 (let some : length c.args.digits.now ≡ 0 → ⊥ = eqb-false _ 0 (sym c.if-is_empty.ensures) in omega (arith, some)))

pub returns-then-not-is_ascii_digit : goal.returns-then-not-is_ascii_digit
returns-then-not-is_ascii_digit c =
    let l = c.loop-byte in
    elim c.then-not-is_ascii_digit.branch [
      | then-not-is_ascii_digit-via-then-not-is_ascii_digit w ↦ sym (l.invariant.1 ∙ value-other _ _ l.n l.byte-index c.loop-byte-test.true (none _ w.if-not-is_ascii_digit.ensures.cases))
      | then-not-is_ascii_digit-via-else-not-is_ascii_digit+then-n-ge-TOO_LARGE w ↦ sym (l.invariant.1 ∙ value-large _ _ l.n l.byte-index c.loop-byte-test.true w.if-n-ge-TOO_LARGE.true (one _ w.if-not-is_ascii_digit.ensures.cases))
    ]

pub loop-byte-preserved : goal.loop-byte-preserved
loop-byte-preserved c =
    let l = c.loop-byte in
    let d = c.if-not-is_ascii_digit.ensures.cases in
    (omega (arith, c.from.ensures), rw c.from.ensures (l.invariant.1 ∙ value-more _ _ l.n l.byte-index c.loop-byte-test.true (one _ d) c.if-n-ge-TOO_LARGE.false))

pub returns : goal.returns
returns c =
    let a = c.args in
    let l = c.loop-byte in
    let e : l.byte-index ≡ length a.digits.now = omega arith in
    sym
    (l.invariant.1 ∙ ap (λ (k : ℕ). value_from a.minus l.n (drop k a.digits.now)) e ∙ value-end a.minus a.digits.now l.n
    ∙ ap Some (sym (got w64 c.signed.type_inv ∙ c.signed.ensures)))
