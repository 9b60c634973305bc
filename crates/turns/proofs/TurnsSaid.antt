-- The documents' own sentences on the turns, written out a second time beside the table: which numbers RO knows, and where each sends a point. What is looked up
-- in the table is what they say, by computation.
use Rattle.std.specs.Prelude.{◌≡◌, refl, ◌↔◌, ◌⊎◌, Bool, true, false, cond, ℕ, zero, suc, ◌+◌, ◌/◌, ◌<◌, ℤ, pos, neg_ℤ, nat_abs, ltb, Some, None}
use Rattle.std.proofs.Common.{sym, subst, inl, inr, arith, ltb→lt}
use Rattle.std.proofs.lemmas.Option.{none-some}
use Rattle.exact.specs.Whole.{◌≡?◌, ≡?-true}
use Rattle.exact.specs.Fit.{Bd, bd-lit}
use Rattle.clip.specs.declared.Point.{Point}
use Rattle.turns.specs.Turn.{turn_count, turns, upright, degrees_of, turn_from, find_turn, found_of, turn_of, turned_of}
use Rattle.turns.proofs.TurnLaws.{east, north, west, south, coord-is}

-- ---- what 01 says, and 02

-- "RO: 0 or 90", "RO180 and RO270"
abbrev pub Said : ℤ → Type 0
Said z = (z ≡ pos 0) ⊎ (z ≡ pos 90) ⊎ (z ≡ pos 180) ⊎ (z ≡ pos 270)

-- "point (x, y) goes to page (−y, x)"; "Page point (−x, −y) and (y, −x) are the new images"
pub record Images (p : Point) : Type 0 where
  pub none : turned_of p (find_turn (pos 0)) ≡ p
  pub quarter : turned_of p (find_turn (pos 90)) ≡ record { x = neg_ℤ p.y; y = p.x }
  pub half : turned_of p (find_turn (pos 180)) ≡ record { x = neg_ℤ p.x; y = neg_ℤ p.y }
  pub three_quarters : turned_of p (find_turn (pos 270)) ≡ record { x = p.y; y = neg_ℤ p.x }

-- ---- what is looked up

pub turned_none : (p : Point) → turned_of p upright ≡ p
unfolding turned_of turn_of turns
turned_none p = λ i. record { x = coord-is east p.x p.y i; y = coord-is north p.x p.y i }

pub images : (p : Point) → Images p
unfolding find_turn turn_from degrees_of turned_of turn_of turns ◌≡?◌
images p = record {
  none = turned_none p;
  quarter = λ i. record { x = coord-is south p.x p.y i; y = coord-is east p.x p.y i };
  half = λ i. record { x = coord-is west p.x p.y i; y = coord-is south p.x p.y i };
  three_quarters = λ i. record { x = coord-is north p.x p.y i; y = coord-is west p.x p.y i };
}

-- a turn that is found has the number that was looked for
found_from : (z : ℤ) (t n : ℕ) → turn_from z t n < t + n → degrees_of (turn_from z t n) ≡ z
unfolding turn_from
found_from z t zero h = absurd (omega (arith, h))
found_from z t (suc n) h = go (degrees_of t ≡? z) refl h (found_from z (t + 1) n)
  where
    go : (b : Bool) → (degrees_of t ≡? z) ≡ b → cond b t (turn_from z (t + 1) n) < t + suc n → (turn_from z (t + 1) n < t + 1 + n → degrees_of (turn_from z (t + 1) n) ≡ z) →
        degrees_of (cond b t (turn_from z (t + 1) n)) ≡ z
    go true e k later = ≡?-true (degrees_of t) z e
    go false e k later = later (omega (arith, k))

found : (z : ℤ) → find_turn z < turn_count → degrees_of (find_turn z) ≡ z
unfolding find_turn
found z h = found_from z 0 turn_count h

-- the test of the table: each number is one that is said, stands at its count of quarters, and is no larger than a number may be
record Listed (t : ℕ) : Type 0 where
  said : Said (degrees_of t)
  place : nat_abs (degrees_of t) / 90 ≡ t
  size : Bd (degrees_of t) 32768

listed : (t : ℕ) → t < turn_count → Listed t
unfolding degrees_of turns
listed zero h = record { said = inl refl; place = refl; size = bd-lit tt }
listed (suc zero) h = record { said = inr (inl refl); place = refl; size = bd-lit tt }
listed (suc (suc zero)) h = record { said = inr (inr (inl refl)); place = refl; size = bd-lit tt }
listed (suc (suc (suc zero))) h = record { said = inr (inr (inr refl)); place = refl; size = bd-lit tt }
listed (suc (suc (suc (suc t)))) h = absurd (omega (arith, h))

-- RO knows a number exactly if it is said
pub said-found : (z : ℤ) → Said z ↔ (find_turn z < turn_count)
unfolding find_turn turn_from degrees_of turns ◌≡?◌
said-found z = (known, (λ h. subst Said (found z h) (listed (find_turn z) h).said))
  where
    at : (y : ℤ) → z ≡ y → find_turn y < turn_count → find_turn z < turn_count
    at y e h = subst (λ (x : ℤ). find_turn x < turn_count) (sym e) h

    known : Said z → find_turn z < turn_count
    known (inl e) = at (pos 0) e (ltb→lt (find_turn (pos 0)) turn_count tt)
    known (inr (inl e)) = at (pos 90) e (ltb→lt (find_turn (pos 90)) turn_count tt)
    known (inr (inr (inl e))) = at (pos 180) e (ltb→lt (find_turn (pos 180)) turn_count tt)
    known (inr (inr (inr e))) = at (pos 270) e (ltb→lt (find_turn (pos 270)) turn_count tt)

-- and its turn is so many quarters
pub quarters-found : (z : ℤ) → find_turn z < turn_count → nat_abs z / 90 ≡ find_turn z
quarters-found z h = subst (λ (y : ℤ). nat_abs y / 90 ≡ find_turn z) (found z h) (listed (find_turn z) h).place

pub degrees-size : (t : ℕ) → t < turn_count → Bd (degrees_of t) 32768
degrees-size t h = (listed t h).size

-- ---- what the code's answer tells: the turn that was found, or that there is none
pub found-some : (t : ℕ) {u : ℕ} → found_of t ≡ Some u → (t ≡ u) × (ltb t turn_count ≡ true)
found-some t {u} e = go (ltb t turn_count) refl e
  where
    go : (b : Bool) → ltb t turn_count ≡ b → cond b (Some t) None ≡ Some u → (t ≡ u) × (ltb t turn_count ≡ true)
    go true h k = (cc, h)
    go false h k = absurd (none-some u k)

pub found-none : (t : ℕ) → found_of t ≡ None → ltb t turn_count ≡ false
found-none t e = go (ltb t turn_count) refl e
  where
    go : (b : Bool) → ltb t turn_count ≡ b → cond b (Some t) None ≡ None → ltb t turn_count ≡ false
    go true h k = absurd (none-some t (sym k))
    go false h k = h
