-- The proof of `work_sound`.
use borrow.Author.Rules.{rules}
use mathlib.Core.Path.{◌≡◌, refl, sym, ap, ◌∙◌}
use mathlib.Core.Bool.{Bool, true, false, ◌&&◌}
use lib.IntN.{pos}
use mir.Syntax.{w64}
use mir.Val.{SFits}
use Rattle.exact.specs.Fit.{eq64-t, eq64-f}
use Rattle.wellformed.specs.Sound.{blank_sound, blanks_sound, work_sound}
use Rattle.soundness.proofs.work.work_sound.Goals as goal
use Rattle.soundness.proofs.work.work_sound.Lts
use Rattle.soundness.proofs.work.work_sound.Tie
use Rattle.soundness.proofs.work.work_sound.Reads

abbrev Else-r-eq1 : Type 0
Else-r-eq1 = Lts.Else1 Tie.the-claims Reads.Pre Reads.Post

abbrev Else-r-eq2 : Type 0
Else-r-eq2 = Lts.Else2 Tie.the-claims Reads.Pre Reads.Post

abbrev Else-r-eq3 : Type 0
Else-r-eq3 = Lts.Else3 Tie.the-claims Reads.Pre Reads.Post

abbrev Else-r-eq4 : Type 0
Else-r-eq4 = Lts.Else4 Tie.the-claims Reads.Pre Reads.Post

abbrev Start : Type 0
Start = Lts.Start Tie.the-claims Reads.Pre Reads.Post

fre : (s : Start) → SFits w64 s.args.r.e
fre s = search rules

f1 : (s : Start) → SFits w64 (pos 1)
f1 s = search rules

f2 : (s : Start) → SFits w64 (pos 2)
f2 s = search rules

f3 : (s : Start) → SFits w64 (pos 3)
f3 s = search rules

f4 : (s : Start) → SFits w64 (pos 4)
f4 s = search rules

pub returns-then-r-eq1 : goal.returns-then-r-eq1
unfolding work_sound
returns-then-r-eq1 c =
    let s = c.before.before.before.before in
    rw (eq64-t s.args.r.e (pos 1) (fre s) (f1 s) c.if-r-eq1.true) c.line_sound.ensures

pub returns-then-r-eq2 : goal.returns-then-r-eq2
unfolding work_sound
returns-then-r-eq2 c =
    let s = c.before.before.before.before.before.before.before in
    rw (eq64-f s.args.r.e (pos 1) (fre s) (f1 s) c.if-r-eq1.false, eq64-t s.args.r.e (pos 2) (fre s) (f2 s) c.if-r-eq2.true) c.chords_sound.ensures

pub returns-then-r-eq3 : goal.returns-then-r-eq3
unfolding work_sound
returns-then-r-eq3 c =
    let s = c.before.before.before.before.before.before.before.before.before.before in
    rw (eq64-f s.args.r.e (pos 1) (fre s) (f1 s) c.if-r-eq1.false, eq64-f s.args.r.e (pos 2) (fre s) (f2 s) c.if-r-eq2.false, eq64-t s.args.r.e (pos 3) (fre s) (f3 s) c.if-r-eq3.true) c.outline_sound.ensures

pub returns-then-r-eq4 : goal.returns-then-r-eq4
unfolding work_sound
returns-then-r-eq4 c =
    let s = c.before.before.before.before.before.before.before.before.before.before.before.before.before in
    rw (eq64-f s.args.r.e (pos 1) (fre s) (f1 s) c.if-r-eq1.false, eq64-f s.args.r.e (pos 2) (fre s) (f2 s) c.if-r-eq2.false, eq64-f s.args.r.e (pos 3) (fre s) (f3 s) c.if-r-eq3.false, eq64-t s.args.r.e (pos 4) (fre s) (f4 s) c.if-r-eq4.true) c.reply_sound.ensures

-- where it is none of the four
module _ (t : Else-r-eq4) where
  abbrev S : Start
  S = t.before.before.before.before.before.before.before.before.before.before.before.before

  none : work_sound S.args.r S.args.across S.args.along S.args.start ≡ blank_sound S.args.r && blanks_sound S.args.across S.args.along S.args.start
  unfolding work_sound
  none =
      let t1 : Else-r-eq1 = search in
      let t2 : Else-r-eq2 = search in
      let t3 : Else-r-eq3 = search in
      rw (eq64-f S.args.r.e (pos 1) (fre S) (f1 S) t1.if-r-eq1.false, eq64-f S.args.r.e (pos 2) (fre S) (f2 S) t2.if-r-eq2.false, eq64-f S.args.r.e (pos 3) (fre S) (f3 S) t3.if-r-eq3.false, eq64-f S.args.r.e (pos 4) (fre S) (f4 S) t.if-r-eq4.false) refl

pub returns-then-blank : goal.returns-then-blank
returns-then-blank c =
    let t = c.before.before.before in
    let e : blank_sound (S t).args.r ≡ true = sym c.blank.ensures ∙ c.if-blank.true in
    c.blanks.ensures ∙ sym (none t ∙ ap (λ (b : Bool). b && blanks_sound (S t).args.across (S t).args.along (S t).args.start) e)

pub returns-else-blank : goal.returns-else-blank
returns-else-blank c =
    let t = c.before.before in
    let e : blank_sound (S t).args.r ≡ false = sym c.blank.ensures ∙ c.if-blank.false in
    c.if-blank.false ∙ sym (none t ∙ ap (λ (b : Bool). b && blanks_sound (S t).args.across (S t).args.along (S t).args.start) e)
