-- What the digits from `from` on come to is what those from `at` on come to, for the number with the ones between them. A digit past the fourth decimal, one that
-- counts, and one of a number out of range meet after the branch.
use mathlib.Core.Path.{◌≡◌, refl, sym, ap, ◌∙◌}
use Prim.Native.Nat.{◌+◌}
use native.Mathlib.Omega.{arith}
use lib.ListN.{drop}
use borrow.Author.Rules.{rules}
use Rattle.numerals.specs.Number.{so_far_of}
use Rattle.numerals.specs.Run.{digits_from}
use Rattle.numerals.specs.RunLaws.{digit-class, digits-end, digits-stop, digits-on, digit-past, digit-kept, digit-counts}
use Rattle.numerals.specs.declared.number.Number.{Number}
use Rattle.numerals.specs.declared.number.Scanned.{Scanned}
use Rattle.numerals.proofs.number.digits_from.Goals as goal
use Rattle.numerals.proofs.number.digits_from.Goals.{then-decimals-ge-PLACES, else-decimals-ge-PLACES+then-magnitude-le-PAST, else-decimals-ge-PLACES+else-magnitude-le-PAST}

pub loop-at-init : goal.loop-at-init
loop-at-init c = (refl, omega arith)

pub returns-then-not-is_digit : goal.returns-then-not-is_digit
returns-then-not-is_digit c =
    let l = c.loop-at in
    rw c.so_far.ensures (sym (l.invariant.0 ∙ digits-stop _ _ l.at c.loop-at-test.true (sym c.is_digit.ensures ∙ c.if-not-is_digit.true)))

pub overflow_sub-digit : goal.overflow_sub-digit
overflow_sub-digit c =
    (digit-class _ (sym c.is_digit.ensures ∙ c.if-not-is_digit.false)).0

pub overflow_add-magnitude : goal.overflow_add-magnitude
overflow_add-magnitude c =
    let b = digit-class _ (sym c.is_digit.ensures ∙ c.if-not-is_digit.false) in
    search (rules, b.1)

pub loop-at-preserved : goal.loop-at-preserved
loop-at-preserved c =
    let l = c.loop-at in
    let n = c.args.start in
    let bytes = c.args.bytes.now in
    let at = l.at in
    let more = l.invariant.0 ∙ digits-on (so_far_of n l.filled l.decimals l.magnitude) bytes at c.loop-at-test.true (sym c.is_digit.ensures ∙ c.if-not-is_digit.false) in
    let next : Number → Scanned = λ k. digits_from k (drop (at + 1) bytes) (at + 1) in
    elim c.if-decimals-ge-PLACES.branch [
      | then-decimals-ge-PLACES w ↦ (rw (w.decimals-is, w.magnitude-is, w.past-decimals.ensures) (more ∙ ap next (digit-past n l.filled l.decimals l.magnitude _ c.requires w.if-decimals-ge-PLACES.true)), omega arith)
      | else-decimals-ge-PLACES+then-magnitude-le-PAST w ↦ (rw (w.decimals-is, w.magnitude-is, w.from.ensures) (more ∙ ap next (digit-counts n l.filled l.decimals l.magnitude _ c.requires w.if-decimals-ge-PLACES.false w.if-magnitude-le-PAST.true)), omega arith)
      | else-decimals-ge-PLACES+else-magnitude-le-PAST w ↦ (rw (w.decimals-is, w.magnitude-is) (more ∙ ap next (digit-kept n l.filled l.decimals l.magnitude _ c.requires w.if-decimals-ge-PLACES.false w.if-magnitude-le-PAST.false)), omega arith)
    ]

pub returns : goal.returns
returns c =
    let l = c.loop-at in
    let e : c.max.result ≡ l.at = omega (arith, c.max.ensures) in
    rw (e, c.so_far-2.ensures) (sym (l.invariant.0 ∙ digits-end _ _ l.at c.loop-at-test.false))
