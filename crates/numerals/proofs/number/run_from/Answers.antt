-- What the digits from `from` on come to is what those from `at` on come to, for the magnitude of the ones between them.
use mathlib.Core.Path.{◌≡◌, refl, sym, ◌∙◌, subst}
use Prim.Native.Nat.{ℕ, ◌≤◌, ◌<◌}
use native.Mathlib.Omega.{arith}
use borrow.Author.Tests.{lt-ltb, le-ltb}
use Rattle.numerals.specs.RunLaws.{zero-digit, zero-other, run_end, run-stop, run_past, run_on}
use Rattle.numerals.proofs.number.run_from.Goals as goal
use Rattle.numerals.proofs.number.run_from.Goals.{then-digit-gt9-via-then-digit-gt9, then-digit-gt9-via-else-digit-gt9+then-magnitude-gt-PAST}

pub loop-at-init : goal.loop-at-init
loop-at-init c = (refl, omega arith)

pub returns-then-digit-gt9 : goal.returns-then-digit-gt9
returns-then-digit-gt9 c =
    let l = c.loop-at in
    elim c.then-digit-gt9.branch [
      | then-digit-gt9-via-then-digit-gt9 w ↦ sym (l.invariant.0 ∙ run-stop l.magnitude _ l.at c.loop-at-test.true (zero-other _ (subst (λ (n : ℕ). 9 < n) c.from_zero-digit.ensures w.if-digit-gt9.true)))
      | then-digit-gt9-via-else-digit-gt9+then-magnitude-gt-PAST w ↦
          let z = zero-digit _ (subst (λ (n : ℕ). n ≤ 9) c.from_zero-digit.ensures w.if-digit-gt9.false) in
          sym (l.invariant.0 ∙ run_past l.magnitude _ l.at c.loop-at-test.true z.0 (lt-ltb _ _ w.if-magnitude-gt-PAST.true))
    ]

pub loop-at-preserved : goal.loop-at-preserved
loop-at-preserved c =
    let l = c.loop-at in
    let z = zero-digit _ (subst (λ (n : ℕ). n ≤ 9) c.from_zero-digit.ensures c.if-digit-gt9.false) in
    (rw (c.from_zero-digit.ensures ∙ z.1) (l.invariant.0 ∙ run_on l.magnitude _ l.at c.loop-at-test.true z.0 (le-ltb _ _ c.if-magnitude-gt-PAST.false)), omega arith)

pub returns : goal.returns
returns c =
    let l = c.loop-at in
    let e : c.max.result ≡ l.at = omega (arith, c.max.ensures) in
    rw e (sym (l.invariant.0 ∙ run_end l.magnitude _ l.at c.loop-at-test.false))
