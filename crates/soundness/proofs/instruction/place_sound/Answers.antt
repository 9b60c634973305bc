-- The proof of `place_sound`.
use borrow.Author.Rules.{rules}
use lib.IntN.{pos}
use mir.Syntax.{w64}
use mir.Val.{SFits}
use Rattle.exact.specs.Fit.{eq64-t, eq64-f}
use Rattle.wellformed.specs.Sound.{place_sound}
use Rattle.soundness.proofs.instruction.place_sound.Goals as goal
use Rattle.soundness.proofs.instruction.place_sound.Lts
use Rattle.soundness.proofs.instruction.place_sound.Tie
use Rattle.soundness.proofs.instruction.place_sound.Reads

abbrev Start : Type 0
Start = Lts.Start Tie.the-claims Reads.Pre Reads.Post

fra : (s : Start) → SFits w64 s.args.r.a
fra s = search rules

f1 : (s : Start) → SFits w64 (pos 1)
f1 s = search rules

pub returns-then-r-eq1 : goal.returns-then-r-eq1
unfolding place_sound
returns-then-r-eq1 c =
    let s = c.before.before.before.before in
    rw (eq64-t s.args.r.a (pos 1) (fra s) (f1 s) c.if-r-eq1.true) c.between.ensures

pub returns : goal.returns
unfolding place_sound
returns c =
    let s = c.before.before.before.before in
    rw (eq64-f s.args.r.a (pos 1) (fra s) (f1 s) c.if-r-eq1.false) c.between-2.ensures
