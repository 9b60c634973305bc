-- The proof of `find_turn`: the constant has the definition's numbers, and the first place that has a number is the one that the search of the whole table gives,
-- for a table of any length.
use Rattle.std.proofs.Common.{rules, arith, w64, sym, ap, ◌≡◌, refl, ◌∙◌, ℕ, suc, ◌+◌, ℤ, Bool, true, false, not, cond, pos, List, [], ◌∷◌, map, length, get_or, int_eq}
use Rattle.std.specs.Prelude.{position}
use Rattle.std.specs.List.{position_or_len}
use Rattle.std.proofs.lemmas.Bool.Decides.{same_from_decides, Decides-int_eq}
use mir.Val.{SFits}
use Rattle.exact.specs.Fit.{arg}
use Rattle.exact.specs.Whole.{◌≡?◌, ≡?-true, eq-eq_z}
use Rattle.turns.specs.Turn as def
use Rattle.turns.specs.Turn.{turns, degrees_of, turn_from, find_turn, found_of}
use Rattle.turns.specs.declared.turn.Turn.{Turn}
use Rattle.turns.specs.declared.turn.TheConstants.{TURNS}
use Rattle.turns.proofs.turn.find_turn.Goals as goal

-- the code's test of two numbers is the definition's
same : (a b : ℤ) → int_eq a b ≡ (a ≡? b)
unfolding ◌≡?◌
same a b = same_from_decides (int_eq a b) (a ≡? b) (Decides-int_eq a b) (≡?-true a b, eq-eq_z)

-- the numbers of the code's turns are those of the definition's
numbers : map (λ (u : Turn). u.degrees) TURNS ≡ map (λ (r : def.Turn). r.angle) turns
unfolding turns
numbers = refl

-- the search of turns whose numbers are those from turn t on
search-from : (z : ℤ) (us : List Turn) (t : ℕ) → ((i : ℕ) → degrees_of (t + i) ≡ get_or (map (λ (u : Turn). u.degrees) us) i (pos 0)) →
    turn_from z t (length us) ≡ t + position_or_len (λ (u : Turn). int_eq u.degrees z) us
unfolding turn_from
search-from z [] t h = omega arith
search-from z (u ∷ us) t h = rw test (go (degrees_of t ≡? z) (search-from z us (t + 1) (λ i. ap degrees_of (omega arith) ∙ h (suc i))))
  where
    rest : ℕ
    rest = position_or_len (λ (u : Turn). int_eq u.degrees z) us

    test : int_eq u.degrees z ≡ (degrees_of t ≡? z)
    test = same u.degrees z ∙ ap (λ (a : ℤ). a ≡? z) (sym (h 0) ∙ ap degrees_of (omega arith))

    go : (b : Bool) → turn_from z (t + 1) (length us) ≡ t + 1 + rest → cond b t (turn_from z (t + 1) (length us)) ≡ t + cond (not b) (1 + rest) 0
    go true e = omega arith
    go false e = e ∙ omega arith

whole : (z : ℤ) → find_turn z ≡ position_or_len (λ (u : Turn). int_eq u.degrees z) TURNS
unfolding find_turn degrees_of
whole z = search-from z TURNS 0 (λ i. ap degrees_of (omega arith) ∙ ap (λ (l : List ℤ). get_or l i (pos 0)) (sym numbers)) ∙ omega arith

first : (z : ℤ) → position (λ (u : Turn). int_eq u.degrees z) TURNS ≡ found_of (find_turn z)
first z = sym (ap found_of (whole z))

pub returns : goal.returns
returns c =
    let f : SFits w64 c.args.degrees = search rules in
    c.first_with.ensures ∙ first _ ∙ ap (λ (z : ℤ). found_of (find_turn z)) (arg w64 f).is
