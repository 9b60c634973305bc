-- With fewer records than strokes the text gives the first strokes, as many as there are records, and stops with 21. Why: with more records feed goes on where it was full
-- (`feed-room`), and with enough of them it stores them all.
use Rattle.std.specs.Prelude.{Bool, true, false, cond, List, ◌++◌, ◌≡◌, refl, ℕ, ◌+◌, ◌-◌, ◌<◌, eqb, length, take, drop}
use Rattle.std.proofs.Common.{sym, ap, ◌∙◌, arith, eqb-true}
use Rattle.std.proofs.Math.Seq.{take-append_seam}
use Rattle.clip.specs.declared.Rect.{Rect}
use Rattle.hpgl.specs.declared.State.{State}
use Rattle.hpgl.specs.declared.Stroke.{Stroke}
use Rattle.hpgl.specs.Machine.{hard_limits, fresh_state}
use Rattle.hpgl.specs.Valid.{Every}
use Rattle.feeding.specs.DrawOff.{list_full}
use Rattle.feeding.specs.Feed.{Feed, feed_from, feed_of}
use Rattle.feeding.proofs.FeedLaws.{feed-stored}
use Rattle.feeding.proofs.PartsOfFeed.{store_all, feed-room}
use Rattle.redrawn.specs.Redrawn.{text_of}
use Rattle.redrawn.specs.Causes.{Fit}
use Rattle.redrawn.specs.RoundTrip.{EndsIn}
use Rattle.redrawn.proofs.RoundTripProof.{round_trip}

-- of any bytes of which feed with q records more stores the strokes ss, more than r
module _ (m : State) (bs : List ℕ) (r q : ℕ) (ss : List Stroke) (l : r < length ss) (all : (feed_from m bs 0 (r + q)).strokes ≡ ss) where
  abbrev f : Feed
  f = feed_from m bs 0 r

  first-strokes : (t : Bool) → eqb f.number list_full ≡ t
      → feed_from m bs 0 (r + q) ≡ cond t (store_all f.strokes (feed_from f.state (drop (f.taken - 0) bs) f.taken q)) f
      → (f.strokes ≡ take r ss) × (f.number ≡ 21)
  first-strokes true e on =
      let full = eqb-true f.number list_full e in
      let rest = (feed_from f.state (drop (f.taken - 0) bs) f.taken q).strokes in
      let parts : ss ≡ f.strokes ++ rest = sym all ∙ ap (λ (g : Feed). g.strokes) on in
      let filled : length f.strokes ≡ r = (feed-room m bs 0 r q).filled full in
      (sym (take-append_seam f.strokes rest) ∙ (λ i. take (filled i) (sym parts i)), full)
  first-strokes false e on =
      let same : length f.strokes ≡ length ss = ap (λ (g : Feed). length g.strokes) (sym on) ∙ ap length all in
      absurd (omega (arith, same, feed-stored m bs 0 r, l))

  stops : (f.strokes ≡ take r ss) × (f.number ≡ 21)
  stops = first-strokes (eqb f.number list_full) refl (feed-room m bs 0 r q).on

pub few-records : (r : Rect) (ss : List Stroke) → Every Fit ss → Every (EndsIn (hard_limits r)) ss → (room : ℕ) → room < length ss →
    let f = feed_of (fresh_state r) (text_of ss) room in (f.strokes ≡ take room ss) × (f.number ≡ 21)
few-records r ss h e room l =
    let q = length ss - room in
    let enough : room + q ≡ length ss = omega (arith, l) in
    stops (fresh_state r) (text_of ss) room q ss l (round_trip r ss h e (room + q) (omega (arith, enough))).0
