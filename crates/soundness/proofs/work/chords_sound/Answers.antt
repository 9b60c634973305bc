-- The proof of `chords_sound`.
use borrow.Author.Rules.{rules}
use mathlib.Core.Path.{◌≡◌, refl, sym, ap, ◌∙◌}
use mathlib.Core.Bool.{true, false}
use lib.IntN.{pos, ◌+ℤ◌}
use mir.Syntax.{w64}
use Rattle.exact.specs.Fit.{arg}
use Rattle.rows.specs.Rows.{small_of, most_short}
use Rattle.exact.specs.Whole.{◌≤?◌}
use native.Mathlib.Omega.{arith}
use Rattle.wellformed.specs.RowTests.{between-true, bd-nat}
use Rattle.wellformed.proofs.WorkLaws.{ring-true}
use Rattle.wellformed.specs.Sound.{between_of, five_of, round_of, ring_sound, chords_sound}
use Rattle.soundness.proofs.work.chords_sound.Goals as goal
use Rattle.soundness.proofs.work.chords_sound.Lts
use Rattle.soundness.proofs.work.chords_sound.Tie
use Rattle.soundness.proofs.work.chords_sound.Reads

abbrev After-short_of-2 : Type 0
After-short_of-2 = Lts.After-short_of2 Tie.the-claims Reads.Pre Reads.Post

abbrev Else-not-sum_below : Type 0
Else-not-sum_below = Lts.Else2 Tie.the-claims Reads.Pre Reads.Post

pub returns-then-not-between : goal.returns-then-not-between
unfolding chords_sound
returns-then-not-between c =
    let e1 : between_of (five_of 0 0 5 0 2) c.args.r (five_of 720 720 1200 0 2) ≡ false = sym c.between.ensures ∙ c.if-not-between.true in
    rw (e1) refl

pub sum_below-requires : goal.sum_below-requires
sum_below-requires c =
    let b = between-true (five_of 0 0 5 0 2) c.args.r (five_of 720 720 1200 0 2) (sym c.between.ensures ∙ c.if-not-between.false) in
    (bd-nat c.args.r.a b.low.a b.high.a (omega arith), bd-nat c.args.r.b b.low.b b.high.b (omega arith))

pub returns-then-not-sum_below : goal.returns-then-not-sum_below
unfolding chords_sound
returns-then-not-sum_below c =
    let e1 : between_of (five_of 0 0 5 0 2) c.args.r (five_of 720 720 1200 0 2) ≡ true = sym c.between.ensures ∙ c.if-not-between.false in
    let e2 : (c.args.r.a +ℤ c.args.r.b ≤? pos 720) ≡ false = sym c.sum_below.ensures ∙ c.if-not-sum_below.true in
    rw (e1, e2) refl

-- the first two tests, passed
first : (e : Else-not-sum_below) → between_of (five_of 0 0 5 0 2) e.args.r (five_of 720 720 1200 0 2) ≡ true
first e = sym e.between.ensures ∙ e.if-not-between.false

second : (e : Else-not-sum_below) → (e.args.r.a +ℤ e.args.r.b ≤? pos 720) ≡ true
second e = sym e.sum_below.ensures ∙ e.if-not-sum_below.false

pub returns-then-not-ring_sound : goal.returns-then-not-ring_sound
unfolding chords_sound
returns-then-not-ring_sound c =
    let e = c.before.before in
    let e3 : ring_sound c.args.across c.args.along c.args.start ≡ false = sym c.ring_sound.ensures ∙ c.if-not-ring_sound.true in
    rw (first e, second e, e3) refl

-- the chords that wait, as they are read
waits : (c : After-short_of-2) → let s = c.before.before.before.before.before.before.before.before.before.before.before in let i = c.before.before in
    (c.short_of.result ≡ small_of most_short c.args.r.a) × (c.short_of-2.result ≡ small_of most_short c.args.r.b)
waits c =
    let r = c.args.r in (
      c.short_of.ensures ∙ ap (small_of most_short) (arg w64 {z = r.a} (search rules)).is,
      c.short_of-2.ensures ∙ ap (small_of most_short) (arg w64 {z = r.b} (search rules)).is,
    )

pub round-requires : goal.round-requires
round-requires c =
    let e = c.before.before.before.before.before.before.before in
    let n = c in
    rw (c.circle_of.ensures, (waits n).0, (waits n).1) (ring-true c.args.r c.args.across c.args.along c.args.start (first e) (sym c.ring_sound.ensures ∙ c.if-not-ring_sound.false))

pub returns : goal.returns
unfolding chords_sound
returns c =
    let e = c.before.before.before.before.before.before.before.before in
    let e3 : ring_sound c.args.across c.args.along c.args.start ≡ true = sym c.ring_sound.ensures ∙ c.if-not-ring_sound.false in
    let n = c.before in
    rw (first e, second e, e3) (c.round.ensures ∙ (λ j. round_of (c.circle_of.ensures j) ((waits n).0 j) ((waits n).1 j)))
