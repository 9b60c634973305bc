-- In polygon mode an instruction that is being read is known there, and so only such an instruction ends there.
-- Why: a name that is not known there is refused and passed over, pairs neither enter nor leave the mode, and where PM enters it no instruction is being read.
use Rattle.std.specs.Prelude.{◌≡◌, refl, Bool, true, false, cond, not, ◌&&◌, ℕ, zero, suc, ◌+◌, eqb, leb}
use Rattle.std.proofs.Common.{sym, ap, ◌∙◌, arith}
use Rattle.std.proofs.Math.Dec.{eqb-suc-zero}
use Rattle.reader.specs.declared.Coordinates.{Coordinates}
use Rattle.reader.specs.declared.Numbers.{Numbers}
use Rattle.reader.specs.declared.Event.{Event}
use Rattle.reader.specs.declared.Event.TheVariants.{Nothing, Named, Pair, Ended, Refused}
use Rattle.reader.specs.declared.Reader.{Reader}
use Rattle.reader.specs.Step.{passed_over}
use Rattle.mnemonics.specs.Table.{PU, PD, PA, PR, known_in_polygon}
use Rattle.reader.specs.Inside.{inside}
use Rattle.reader.specs.InsideLaws.{Leads, passed-outside}
use Rattle.hpgl.proofs.Cases.{never, pick}
use Rattle.hpgl.specs.declared.Carriage.{Carriage}
use Rattle.hpgl.specs.declared.Polygon.{Polygon}
use Rattle.hpgl.specs.declared.Core.{Core}
use Rattle.hpgl.specs.declared.Action.TheVariants as action
use Rattle.hpgl.specs.declared.Acted.{Acted}
use Rattle.hpgl.specs.Rules.{done, refuse, letters, name_rule, point_cost, store_point, move_to, aimed, go_to, pair_rule, longer, act_on}
use Rattle.hpgl.specs.Numbers.{polygon_bytes}
use Rattle.hpgl.specs.Place.{location, in_range}
use Rattle.hpgl.specs.Machine.{reader_after}
use Rattle.hpgl.specs.Valid.{Knows}

letters-polygon : (k : Carriage) (op : ℕ) → (letters k op).polygon ≡ k.polygon
unfolding letters
letters-polygon k op =
    let P : Carriage → Type 0 = λ x. x.polygon ≡ k.polygon in
    pick P (eqb op PU) refl (pick P (eqb op PD) refl (pick P (eqb op PA) refl (pick P (eqb op PR) refl refl)))

name-known : (c : Core) (op : ℕ) → (name_rule c op).number ≡ 0 → (name_rule c op).core.carriage.polygon.mode ≡ true → known_in_polygon op ≡ true
unfolding name_rule done refuse
name-known c op = go c.carriage.polygon.mode (known_in_polygon op) refl
  where
    go : (m k : Bool) → c.carriage.polygon.mode ≡ m →
        (cond (m && not k) (refuse c 1) (done (record { settings = c.settings; carriage = letters c.carriage op }) action.Keep)).number ≡ 0 →
        (cond (m && not k) (refuse c 1) (done (record { settings = c.settings; carriage = letters c.carriage op }) action.Keep)).core.carriage.polygon.mode ≡ true → k ≡ true
    go true true e z h = refl
    go true false e z h = absurd (omega arith)
    go false true e z h = refl
    go false false e z h = never (ap (λ (x : Polygon). x.mode) (letters-polygon c.carriage op) ∙ e) h

-- a pair neither enters nor leaves polygon mode
record SameMode (c : Core) (t : Acted) : Type 0 where
  same : t.core.carriage.polygon.mode ≡ c.carriage.polygon.mode

pair-mode : (c : Core) (n : Coordinates) → SameMode c (pair_rule c n)
unfolding pair_rule go_to store_point move_to longer done refuse
pair-mode c n =
    pick (SameMode c) (in_range (location c.settings (aimed c n)))
    (pick (SameMode c) c.carriage.polygon.mode
    (pick (SameMode c) (leb (c.carriage.polygon.bytes + point_cost c.carriage.pen) polygon_bytes) (record { same = refl }) (record { same = refl }))
    (record { same = refl }))
    (record { same = refl })

-- an event that is not refused
knows-done : (c : Core) (r s : Reader) (e : Event) → Leads r s e → Knows c r → (act_on c e).number ≡ 0 → Knows (act_on c e).core s
unfolding Knows Leads act_on done refuse
knows-done c r s Nothing t k z = λ m i. rw t.op (k m (t.within i))
knows-done c r s (Named op) t k z = λ m i. rw t (name-known c op z m)
knows-done c r s (Pair n) t k z = λ m i. rw t.op (k (sym (pair-mode c n).same ∙ m) (t.within i))
knows-done c r s (Ended op n) t k z = λ m i. never t.out i
knows-done c r s (Refused j) t k z = λ m i. never t.1 i

reader-refused : (s : Reader) (n : ℕ) → reader_after s (suc n) ≡ passed_over s
unfolding reader_after
reader-refused s n = rw (eqb-suc-zero n) refl

pub knows_after : (c : Core) (r s : Reader) (e : Event) → Leads r s e → Knows c r → Knows (act_on c e).core (reader_after s (act_on c e).number)
unfolding Knows reader_after
knows_after c r s e t k = go (act_on c e).number refl
  where
    go : (n : ℕ) → (act_on c e).number ≡ n → (act_on c e).core.carriage.polygon.mode ≡ true → inside (reader_after s n).mode ≡ true → known_in_polygon (reader_after s n).op ≡ true
    go zero z = knows-done c r s e t k z
    go (suc n) z = λ m i. never (ap (λ (x : Reader). inside x.mode) (reader-refused s n) ∙ passed-outside s) i

-- an instruction that ends was being read
pub ends-known : (c : Core) (r s : Reader) (e : Event) → Leads r s e → Knows c r → (op : ℕ) (n : Numbers) → e ≡ Ended op n → c.carriage.polygon.mode ≡ true → known_in_polygon op ≡ true
unfolding Knows Leads
ends-known c r s e t k op n q m =
    let u : Leads r s (Ended op n) = rw q at t in
    rw (← u.op) (k m u.within)
