-- Whether a byte may be taken: a machine is free where neither a segment nor a reply waits, and else it is occupied.
use Rattle.std.specs.Prelude.{◌≡◌, refl, Bool, true, false, not, ◌||◌, eqb}
use Rattle.std.proofs.Common.{eq-eqb, eqb-true}
use Rattle.hpgl.specs.declared.State.{State}
use Rattle.hpgl.specs.Machine.{waiting, replied, replying, occupied}

-- neither a segment nor a reply waits
pub record Free (m : State) : Type 0 where
  pub segment : waiting m.work ≡ 0
  pub reply : (replied m.work).count ≡ 0

pub free-is : {m : State} → Free m → occupied m.work ≡ false
unfolding occupied replying
free-is {m} h = rw (eq-eqb (waiting m.work) 0 h.segment, eq-eqb (replied m.work).count 0 h.reply) refl

-- either it is free, or it is occupied
pub taken-or : (m : State) → (Free m → ⊥) → occupied m.work ≡ true
unfolding occupied replying
taken-or m h = go (eqb (waiting m.work) 0) (eqb (replied m.work).count 0) refl refl
  where
    go : (s t : Bool) → eqb (waiting m.work) 0 ≡ s → eqb (replied m.work).count 0 ≡ t → (not s || not t) ≡ true
    go true true p q = absurd (h (record { segment = eqb-true (waiting m.work) 0 p; reply = eqb-true (replied m.work).count 0 q }))
    go true false p q = refl
    go false t p q = refl
