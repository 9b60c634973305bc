-- The proof of `turn_to`: the search of the table, and whether it found a turn.
use Rattle.std.proofs.Common.{rules, w64, arith, ◌≡◌, sym, ap, ◌∙◌, Option, ℕ, ℤ}
use Rattle.std.proofs.lemmas.Bool.{ltb-true}
use mir.Val.{SFits}
use Rattle.exact.specs.Fit.{arg}
use Rattle.turns.specs.Turn.{turn_count, find_turn, found_of}
use Rattle.turns.proofs.TurnsSaid.{found-some, found-none}
use Rattle.hpgl.specs.Rules.{turn_to}
use Rattle.settings.proofs.turn_to.Goals as goal

told : {d z : ℤ} {o : Option ℕ} → d ≡ z → o ≡ found_of (find_turn d) → found_of (find_turn z) ≡ o
told e f = sym (f ∙ ap (λ (x : ℤ). found_of (find_turn x)) e)

pub set_turn-requires : goal.set_turn-requires
set_turn-requires c =
    let f : SFits w64 c.args.degrees = search rules in
    let k = found-some (find_turn c.args.degrees) (told (arg w64 f).is c.find_turn.ensures ∙ c.in-Some.is) in
    (c.requires, omega (arith, k.0, ltb-true _ _ k.1))

pub returns-in-Some : goal.returns-in-Some
unfolding turn_to
returns-in-Some c =
    let f : SFits w64 c.args.degrees = search rules in
    let k = found-some (find_turn c.args.degrees) (told (arg w64 f).is c.find_turn.ensures ∙ c.in-Some.is) in
    rw (k.1, k.0) c.set_turn.ensures

pub returns-in-None : goal.returns-in-None
unfolding turn_to
returns-in-None c =
    let f : SFits w64 c.args.degrees = search rules in
    rw (found-none (find_turn c.args.degrees) (told (arg w64 f).is c.find_turn.ensures ∙ c.in-None.is)) c.refuse.ensures
