-- What "fit to paint" says of a drawing, and that it is said of each of which that holds.
use Rattle.std.specs.Prelude.{Bool, List, [], ◌∷◌, ◌≡◌, ℕ, ◌+◌, ◌-◌, ◌≤◌}
use Rattle.std.proofs.Math.Bool.{true, false, cond}
use Rattle.std.proofs.lemmas.Bool.{false≢true}
use Rattle.std.proofs.Math.Path.{refl}
use Rattle.std.proofs.Common.{arith}
use borrow.Author.Tests.{ltb-false, le-ltb}
use Rattle.std.proofs.Math.Dec.{ltb}
use Rattle.std.specs.Option.{is_some}
use Rattle.counting.specs.declared.refusals.Group.{Group}
use Rattle.console.specs.Sums.{largest, added}
use Rattle.counting.specs.declared.refusals.Refusals.{Refusals}
use Rattle.counting.specs.declared.tally.Tally.{Tally}
use Rattle.counting.specs.Refusals.{harm_of, harm_in}
use Rattle.counting.specs.Verdict.{cut_off, harms_of, fit_of, Fit}

-- ---- a sum is 0 where both of its parts are

sum-parts : (a b : ℕ) → added a b ≡ 0 → (a ≡ 0) × (b ≡ 0)
unfolding added
sum-parts a b = go (ltb (largest - a) b)
  where
    go : (t : Bool) → cond t largest (a + b) ≡ 0 → (a ≡ 0) × (b ≡ 0)
    go true e = absurd (omega (arith, e))
    go false e = (omega (arith, e), omega (arith, e))

sum-none : (a : ℕ) → added a 0 ≡ a
unfolding added
sum-none a = rw (le-ltb (largest - a) 0 (omega arith)) (omega arith)

harm-parts : (list : List Group) (others broken : ℕ) → harm_in list (added others broken) ≡ 0 → (harm_in list others ≡ 0) × (broken ≡ 0)
unfolding harm_in
harm-parts [] others broken e = sum-parts others broken e
harm-parts (g ∷ list) others broken e =
    let p = sum-parts (harm_of g.key g.count) (harm_in list (added others broken)) e in
    let q = harm-parts list others broken p.1 in
    (rw (p.0, q.0) (sum-none 0), q.1)

module _ (t : Tally) (r : Refusals) (broken types lost : ℕ) (unended unread : Bool) where
  pub fit-says : fit_of t r broken types lost unended unread ≡ true → Fit t r broken types lost unended unread
  unfolding fit_of harms_of
  fit-says = go (ltb 0 (harms_of r broken)) (ltb 0 types) (ltb 0 lost) (ltb 0 (cut_off t)) unended unread refl refl refl refl refl refl
    where
      go : (a b c d u q : Bool) → ltb 0 (harms_of r broken) ≡ a → ltb 0 types ≡ b → ltb 0 lost ≡ c → ltb 0 (cut_off t) ≡ d → unended ≡ u → unread ≡ q
          → cond a false (cond b false (cond c false (cond d false (cond u false (cond q false (is_some t.paint.end)))))) ≡ true
          → Fit t r broken types lost unended unread
      go true b c d u q x y z w v o e = absurd (false≢true e)
      go false true c d u q x y z w v o e = absurd (false≢true e)
      go false false true d u q x y z w v o e = absurd (false≢true e)
      go false false false true u q x y z w v o e = absurd (false≢true e)
      go false false false false true q x y z w v o e = absurd (false≢true e)
      go false false false false false true x y z w v o e = absurd (false≢true e)
      go false false false false false false x y z w v o e =
          let a : harms_of r broken ≤ 0 = ltb-false 0 (harms_of r broken) x in
          let b : types ≤ 0 = ltb-false 0 types y in
          let c : lost ≤ 0 = ltb-false 0 lost z in
          let d : cut_off t ≤ 0 = ltb-false 0 (cut_off t) w in
          let n : harms_of r broken ≡ 0 = omega (arith, a) in
          let h = harm-parts r.groups r.others broken n in
          record { harmless = h.0; unbroken = h.1; whole-lines = omega arith; inked = omega arith; uncut = omega arith; ended = v; read = o; painted = e }

  pub says-fit : Fit t r broken types lost unended unread → fit_of t r broken types lost unended unread ≡ true
  unfolding fit_of harms_of
  says-fit h = rw (h.unbroken, sum-none r.others, h.harmless, h.whole-lines, h.inked, h.uncut, h.ended, h.read) h.painted
