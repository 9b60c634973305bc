-- What a run of bytes leaves: a place within the input, and why it ended there; that it is a feed with no room, and so a machine that may be used and comes from the calls.
-- Why: each by the bytes that are taken, one after the other.
use Rattle.std.specs.Prelude.{◌≡◌, refl, Bool, true, false, cond, List, [], ◌∷◌, ℕ, zero, suc, ◌+◌, ◌≤◌, ◌<◌, eqb, length, get_or}
use Rattle.std.proofs.Common.{sym, ap, ◌∙◌, arith, eq-eqb, ne_eqb, eqb-true}
use Rattle.std.proofs.lemmas.Bool.{eqb-false}
use Rattle.hpgl.specs.declared.State.{State}
use Rattle.hpgl.specs.Machine.{waiting, occupied, take_state, take_number}
use Rattle.feeding.specs.DrawOff.{list_full}
use Rattle.feeding.specs.Feed.{Feed, counted, feed_from}
use Rattle.feeding.proofs.FeedLaws.{at-end, at_byte, at-refused, at-full, counted_next, feed-usable, feed-made}
use Rattle.feeding.proofs.DrawOffLaws.{free-taken}
use Rattle.gathering.specs.GatherLaws.{free-idle}
use Rattle.feeding.proofs.PartsOfFeed.{take-not-full}
use Rattle.hpgl.specs.Made.{Made}
use Rattle.hpgl.specs.Valid.{Usable}
use Rattle.machine.specs.Run.{Run, ran_of, run_of}

-- no byte is taken twice, and none past the end
pub run-place : (m : State) (bs : List ℕ) (at : ℕ) → (at ≤ (run_of m bs at).at) × ((run_of m bs at).at ≤ at + length bs)
unfolding run_of
run-place m [] at = (omega arith, omega arith)
run-place m (b ∷ bs) at = go (eqb (waiting m.work) 0) (eqb (take_number m b) 0) (run-place (take_state m b) bs (at + 1))
  where
    go : (s t : Bool) → (at + 1 ≤ (run_of (take_state m b) bs (at + 1)).at) × ((run_of (take_state m b) bs (at + 1)).at ≤ at + 1 + length bs) →
        let r = cond s (cond t (run_of (take_state m b) bs (at + 1)) (ran_of (take_state m b) (counted (take_number m b) at) (take_number m b))) (ran_of m at 0) in
        (at ≤ r.at) × (r.at ≤ at + suc (length bs))
    go true true h = (omega (arith, h.0), omega (arith, h.1))
    go true false h = let k = counted_next (take_number m b) at in (omega (arith, k.0), omega (arith, k.1))
    go false t h = (omega arith, omega arith)

-- where neither a segment nor a reply waits, a run takes a byte
pub run-takes : (m : State) (bs : List ℕ) (at : ℕ) → occupied m.work ≡ false → 0 < length bs → at < (run_of m bs at).at
unfolding run_of counted
run-takes m [] at h k = absurd (omega arith)
run-takes m (b ∷ bs) at h k =
    rw (eq-eqb (waiting m.work) 0 (free-idle m.work h)) (rw (free-taken m b h) (go (eqb (take_number m b) 0) (run-place (take_state m b) bs (at + 1)).0))
  where
    go : (t : Bool) → at + 1 ≤ (run_of (take_state m b) bs (at + 1)).at → at < (cond t (run_of (take_state m b) bs (at + 1)) (ran_of (take_state m b) (at + 1) (take_number m b))).at
    go true h = omega (arith, h)
    go false h = omega arith

-- where bytes are left, the last one was refused, or a segment waits
pub run-rest : (m : State) (bs : List ℕ) (at : ℕ) → let r = run_of m bs at in r.at < at + length bs → r.number ≡ 0 → waiting r.state.work ≡ 0 → ⊥
unfolding run_of
run-rest m [] at = λ h k l. omega (arith, h)
run-rest m (b ∷ bs) at = go (eqb (waiting m.work) 0) (eqb (take_number m b) 0) refl refl (run-rest (take_state m b) bs (at + 1))
  where
    go : (s t : Bool) → eqb (waiting m.work) 0 ≡ s → eqb (take_number m b) 0 ≡ t →
        (let r = run_of (take_state m b) bs (at + 1) in r.at < at + 1 + length bs → r.number ≡ 0 → waiting r.state.work ≡ 0 → ⊥) →
        let r = cond s (cond t (run_of (take_state m b) bs (at + 1)) (ran_of (take_state m b) (counted (take_number m b) at) (take_number m b))) (ran_of m at 0) in
        r.at < at + suc (length bs) → r.number ≡ 0 → waiting r.state.work ≡ 0 → ⊥
    go true true e f g h k l = g (omega (arith, h)) k l
    go true false e f g h k l = eqb-false (take_number m b) 0 f k
    go false t e f g h k l = eqb-false (waiting m.work) 0 e l

-- ---- a run is a feed with no room for a stroke

-- "list full" is no refusal of a run: a segment waits
abbrev pub fed_run : Feed → Run
fed_run f = ran_of f.state f.taken (cond (eqb f.number list_full) 0 f.number)

waits-run : (m : State) (bs : List ℕ) (at : ℕ) → 0 < waiting m.work → run_of m bs at ≡ ran_of m at 0
unfolding run_of
waits-run m [] at h = refl
waits-run m (b ∷ bs) at h = rw (ne_eqb (waiting m.work) 0 (λ e. omega (arith, e, h))) refl

pub run-feeds : (m : State) (bs : List ℕ) (at : ℕ) → run_of m bs at ≡ fed_run (feed_from m bs at 0)
unfolding run_of
run-feeds m [] at = by (waiting m.work) refl
  where
    by : (k : ℕ) → waiting m.work ≡ k → ran_of m at 0 ≡ fed_run (feed_from m [] at 0)
    by zero e = rw (at-end m at 0 e) refl
    by (suc k) e = rw (at-full m [] at (omega (arith, e))) refl
run-feeds m (b ∷ bs) at = by (waiting m.work) refl (run-feeds (take_state m b) bs (at + 1))
  where
    taken : (t : Bool) → eqb (take_number m b) 0 ≡ t → waiting m.work ≡ 0 → run_of (take_state m b) bs (at + 1) ≡ fed_run (feed_from (take_state m b) bs (at + 1) 0) →
        cond t (run_of (take_state m b) bs (at + 1)) (ran_of (take_state m b) (counted (take_number m b) at) (take_number m b)) ≡ fed_run (feed_from m (b ∷ bs) at 0)
    taken true e z h = h ∙ ap fed_run (sym (at_byte m at 0 z b bs (eqb-true (take_number m b) 0 e)))
    taken false e z h =
        let f = ne_eqb (take_number m b) list_full (take-not-full m b) in
        rw (at-refused m at 0 z b bs (eqb-false (take_number m b) 0 e)) (rw f refl)

    by : (k : ℕ) → waiting m.work ≡ k → run_of (take_state m b) bs (at + 1) ≡ fed_run (feed_from (take_state m b) bs (at + 1) 0) → run_of m (b ∷ bs) at ≡ fed_run (feed_from m (b ∷ bs) at 0)
    by zero e h = rw (eq-eqb (waiting m.work) 0 e) (taken (eqb (take_number m b) 0) refl e h)
    by (suc k) e h =
        let w : 0 < waiting m.work = omega (arith, e) in
        waits-run m (b ∷ bs) at w ∙ rw (at-full m (b ∷ bs) at w) refl

-- so the machine after it may be drawn, looked at and run again, and comes from the calls if the one before it does
pub run-usable : (m : State) (bs : List ℕ) (at : ℕ) → Usable m → Usable (run_of m bs at).state
run-usable m bs at w = rw (run-feeds m bs at) (feed-usable m bs at 0 w)

pub run-made : (m : State) (bs : List ℕ) (at : ℕ) → ((k : ℕ) → get_or bs k 0 < 256) → Made m → Made (run_of m bs at).state
run-made m bs at h w = rw (run-feeds m bs at) (feed-made m bs at 0 h w)

-- ---- a byte is a run of one

pub run-one : (m : State) (b : ℕ) → waiting m.work ≡ 0 → let r = run_of m (b ∷ []) 0 in (r.state ≡ take_state m b) × (r.number ≡ take_number m b)
unfolding run_of
run-one m b h = rw (eq-eqb (waiting m.work) 0 h) (go (eqb (take_number m b) 0) refl)
  where
    go : (t : Bool) → eqb (take_number m b) 0 ≡ t → let r = cond t (ran_of (take_state m b) 1 0) (ran_of (take_state m b) (counted (take_number m b) 0) (take_number m b)) in
        (r.state ≡ take_state m b) × (r.number ≡ take_number m b)
    go true e = (refl, sym (eqb-true (take_number m b) 0 e))
    go false e = (refl, refl)
