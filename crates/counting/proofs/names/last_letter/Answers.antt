-- No letter stands between n and the place.
use Rattle.std.proofs.Common.{Some, None, ◌≡◌, refl, sym, ap, ◌∙◌, ℕ, zero, suc, ◌+◌, ◌-◌, ◌<◌, List, arith, eq-eqb, ne_eqb}
use Rattle.counting.specs.Laws.{some-seen, none-seen}
use Rattle.counting.specs.Names.{seen, letter_before, last_letter}
use Rattle.counting.proofs.names.last_letter.Goals as goal

module _ (bytes : List ℕ) where
  here : (n k : ℕ) → 0 < n → letter_before bytes n ≡ k → (letter_before bytes n ≡ 0 → ⊥) → last_letter bytes n ≡ Some (n - 1, k)
  unfolding last_letter
  here zero k h e s = absurd (omega arith)
  here (suc n) k h e s = let p : suc n - 1 ≡ n = omega arith in rw (ne_eqb (letter_before bytes (suc n)) 0 s, p, e) refl

  later : (n : ℕ) → 0 < n → letter_before bytes n ≡ 0 → last_letter bytes n ≡ last_letter bytes (n - 1)
  unfolding last_letter
  later zero h e = absurd (omega arith)
  later (suc n) h e = let p : suc n - 1 ≡ n = omega arith in rw (eq-eqb (letter_before bytes (suc n)) 0 e, p) refl

  none-left : (n : ℕ) → n ≡ 0 → last_letter bytes n ≡ None
  unfolding last_letter
  none-left zero e = refl
  none-left (suc n) e = absurd (omega arith)

  at-one : (n : ℕ) → 0 < n → letter_before bytes (n - 1 + 1) ≡ letter_before bytes n
  at-one n h = let p : n - 1 + 1 ≡ n = omega arith in ap (letter_before bytes) p

pub returns-in-Some : goal.returns-in-Some
returns-in-Some c =
    let b = c.args.bytes.now in
    let n = c.loop-n.n in
    let s = some-seen (letter_before b n) c.in-Some.found (ap seen (sym (at-one b n c.loop-n-test.true)) ∙ sym c.letter_before.ensures ∙ c.in-Some.is) in
    sym (c.loop-n.invariant ∙ here b n c.in-Some.found c.loop-n-test.true s.0 s.1)

pub loop-n-preserved : goal.loop-n-preserved
loop-n-preserved c =
    let b = c.args.bytes.now in
    let n = c.loop-n.n in
    c.loop-n.invariant ∙ later b n c.loop-n-test.true (none-seen (letter_before b n) (ap seen (sym (at-one b n c.loop-n-test.true)) ∙ sym c.letter_before.ensures ∙ c.in_default.is))

pub returns : goal.returns
returns c = sym (c.loop-n.invariant ∙ none-left c.args.bytes.now c.loop-n.n (omega arith))
