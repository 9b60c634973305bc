-- The proof of `inked_sound`.
use borrow.Author.Rules.{rules}
use mathlib.Core.Path.{◌≡◌, refl}
use lib.IntN.{ℤ, pos}
use mir.Syntax.{w64}
use mir.Val.{SFits, of_z}
use Rattle.exact.specs.Whole.{◌≡?◌}
use Rattle.exact.specs.Fit.{arg, num, le?-is, eq64-t, eq64-f, eq-bits, fits, lit}
use lib.Dec.{eqb}
use Rattle.wellformed.specs.Sound.{inked_sound}
use Rattle.soundness.proofs.work.inked_sound.Goals as goal
use Rattle.soundness.proofs.work.inked_sound.Lts
use Rattle.soundness.proofs.work.inked_sound.Reads

abbrev Start : Type 0
Start = Lts.Start Reads.Pre Reads.Post

fits-b : (s : Start) → SFits w64 s.args.work.b
fits-b s = search rules

zero_test : (z : ℤ) → SFits w64 z → eqb (of_z w64 z) 0 ≡ (z ≡? pos 0)
unfolding ◌≡?◌
zero_test z f = eq-bits {w = w64} {a = z} {b = pos 0} f (fits (lit (pos 0)) tt)

fpena : (s : Start) → SFits w64 s.args.pen.a
fpena s = search rules

fworke : (s : Start) → SFits w64 s.args.work.e
fworke s = search rules

f0 : (s : Start) → SFits w64 (pos 0)
f0 s = search rules

f1 : (s : Start) → SFits w64 (pos 1)
f1 s = search rules

f4 : (s : Start) → SFits w64 (pos 4)
f4 s = search rules

pub returns-then-pen-ge1 : goal.returns-then-pen-ge1
unfolding inked_sound
returns-then-pen-ge1 c =
    let s = c.before.before.before in
    rw (le?-is (num (pos 1)) (arg w64 (fpena s)) c.if-pen-ge1.true) refl

pub returns-then-work-eq0 : goal.returns-then-work-eq0
unfolding inked_sound
returns-then-work-eq0 c =
    let s = c.before.before.before.before.before.before in
    rw (le?-is (num (pos 1)) (arg w64 (fpena s)) c.if-pen-ge1.false, eq64-t s.args.work.e (pos 0) (fworke s) (f0 s) c.if-work-eq0.true) refl

pub returns-then-work-eq4 : goal.returns-then-work-eq4
unfolding inked_sound
returns-then-work-eq4 c =
    let s = c.before.before.before.before.before.before.before.before.before in
    rw (le?-is (num (pos 1)) (arg w64 (fpena s)) c.if-pen-ge1.false, eq64-f s.args.work.e (pos 0) (fworke s) (f0 s) c.if-work-eq0.false, eq64-t s.args.work.e (pos 4) (fworke s) (f4 s) c.if-work-eq4.true) refl

pub returns-then-work-eq1 : goal.returns-then-work-eq1
unfolding inked_sound
returns-then-work-eq1 c =
    let s = c.before.before.before.before.before.before.before.before.before.before.before.before in
    rw (le?-is (num (pos 1)) (arg w64 (fpena s)) c.if-pen-ge1.false, eq64-f s.args.work.e (pos 0) (fworke s) (f0 s) c.if-work-eq0.false, eq64-f s.args.work.e (pos 4) (fworke s) (f4 s) c.if-work-eq4.false, eq64-t s.args.work.e (pos 1) (fworke s) (f1 s) c.if-work-eq1.true) refl

pub returns : goal.returns
unfolding inked_sound
returns c =
    let s = c.before.before.before.before.before.before.before.before.before.before.before.before.before.before in
    rw (le?-is (num (pos 1)) (arg w64 (fpena s)) c.if-pen-ge1.false, eq64-f s.args.work.e (pos 0) (fworke s) (f0 s) c.if-work-eq0.false, eq64-f s.args.work.e (pos 4) (fworke s) (f4 s) c.if-work-eq4.false, eq64-f s.args.work.e (pos 1) (fworke s) (f1 s) c.if-work-eq1.false) (zero_test s.args.work.b (fits-b s))
