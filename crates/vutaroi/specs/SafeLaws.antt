-- What a list that passes paints: strokes within its limits, with a pen of 1 to 8.
-- Why: clipping answers what lies in the box (clip's `clip-inside`), and a machine with a pen of 0 has no segment that waits.
use Rattle.std.specs.Prelude.{◌≡◌, refl, List, ℕ, zero, suc, ◌≤◌, ◌<◌, ℤ, Option, Some, None}
use Rattle.std.proofs.Common.{sym, ap, ◌∙◌, subst, arith}
use Rattle.clip.specs.declared.Point.{Point}
use Rattle.clip.specs.declared.Rect.{Rect}
use Rattle.clip.specs.Line.{exactly, Within}
use Rattle.clip.specs.Clip.{clip}
use Rattle.clip.proofs.Nearness.{clip-inside}
use Rattle.hpgl.specs.declared.State.{State}
use Rattle.hpgl.specs.declared.Stroke.{Stroke}
use Rattle.hpgl.specs.declared.Drawn.{Drawn}
use Rattle.hpgl.specs.declared.Drawn.TheVariants as drawn
use Rattle.hpgl.specs.declared.Segment.{Segment}
use Rattle.hpgl.specs.declared.Segment.TheVariants as segment
use Rattle.hpgl.specs.declared.Work.{Work}
use Rattle.hpgl.specs.declared.Work.TheVariants as work
use Rattle.hpgl.specs.Place.{point, limits}
use Rattle.hpgl.specs.Machine.{stroke_of, waiting, draw_answer}
use Rattle.hpgl.specs.Segment.{work_segment, segment_of, drawn_of}
use Rattle.hpgl.proofs.SegmentLaws.{segment-drawn}
use Rattle.hpgl.specs.Valid.{Usable}
use Rattle.answers.specs.Answers.{drawn_kind}
use Rattle.readiness.specs.Ready.{machine_in, ready_of}
use Rattle.readiness.specs.ReadyLaws.{ready-goes, goes-usable}

pub record Painted (m : State) (k : Stroke) : Type 0 where
  pub least : 1 ≤ k.pen
  pub most : k.pen ≤ 8
  pub start : Within (limits m.core.settings) 0 (exactly (point k.x0 k.y0))
  pub stop : Within (limits m.core.settings) 0 (exactly (point k.x1 k.y1))

-- what is drawn is a stroke, or is none
idle≢ : {k : Stroke} → drawn.Idle ≡ drawn.Stroke k → ⊥
unfolding drawn_kind
idle≢ h = let e : ◌≡◌ {A = ℕ} 0 2 = ap drawn_kind h in omega (arith, e)

hidden≢ : {k : Stroke} → drawn.Hidden ≡ drawn.Stroke k → ⊥
unfolding drawn_kind
hidden≢ h = let e : ◌≡◌ {A = ℕ} 1 2 = ap drawn_kind h in omega (arith, e)

abbrev stroke_in : Stroke → Drawn → Stroke
stroke_in d drawn.Idle = d
stroke_in d drawn.Hidden = d
stroke_in d (drawn.Stroke s) = s

same-stroke : {j k : Stroke} → drawn.Stroke j ≡ drawn.Stroke k → j ≡ k
same-stroke {j} h = ap (stroke_in j) h

clipped-within : (r : Rect) (a b : Point) (pen : ℕ) (c : Option (Point × Point)) → clip r a b ≡ c → (k : Stroke) → stroke_of pen c ≡ drawn.Stroke k →
    (k.pen ≡ pen) × Within r 0 (exactly (point k.x0 k.y0)) × Within r 0 (exactly (point k.x1 k.y1))
unfolding stroke_of
clipped-within r a b pen None e k h = absurd (hidden≢ h)
clipped-within r a b pen (Some (s, t)) e k h =
    let w = clip-inside r a b s t e in
    let q = same-stroke h in (
      sym (ap (λ (j : Stroke). j.pen) q),
      subst (λ (j : Stroke). Within r 0 (exactly (point j.x0 j.y0))) q w.0,
      subst (λ (j : Stroke). Within r 0 (exactly (point j.x1 j.y1))) q w.1,
    )

segment-within : (r : Rect) (pen : ℕ) (g : Segment) (k : Stroke) → drawn_of r pen g ≡ drawn.Stroke k →
    (k.pen ≡ pen) × Within r 0 (exactly (point k.x0 k.y0)) × Within r 0 (exactly (point k.x1 k.y1))
unfolding drawn_of
segment-within r pen segment.Nothing k h = absurd (idle≢ h)
segment-within r pen segment.PenUp k h = absurd (hidden≢ h)
segment-within r pen (segment.Line a b) k h = clipped-within r a b pen (clip r a b) refl k h

-- where a stroke is drawn, a segment waits
stroke-waits : (m : State) (w : Work) (r : Rect) (pen : ℕ) (k : Stroke) → drawn_of r pen (work_segment m w) ≡ drawn.Stroke k → 0 < waiting w
unfolding drawn_of work_segment waiting
stroke-waits m work.Nothing r pen k h = absurd (idle≢ h)
stroke-waits m (work.Line a b) r pen k h = omega arith
stroke-waits m (work.Chords o i zero) r pen k h = absurd (idle≢ h)
stroke-waits m (work.Chords o i (suc n)) r pen k h = omega arith
stroke-waits m (work.Edges i zero) r pen k h = absurd (idle≢ h)
stroke-waits m (work.Edges i (suc n)) r pen k h = omega arith
stroke-waits m (work.Answer a) r pen k h = absurd (idle≢ h)

-- a draw of any machine that may be used
pub usable-painted : {m : State} → Usable m → (k : Stroke) → draw_answer m ≡ drawn.Stroke k → Painted m k
unfolding segment_of
usable-painted {m} u k h =
    let e = sym (segment-drawn m) ∙ h in
    let w = segment-within (limits m.core.settings) m.core.carriage.pen.number (segment_of m) k e in
    let inked = u.inked.pen (stroke-waits m m.work (limits m.core.settings) m.core.carriage.pen.number k e) in
    let v = u.valid.core.pen in
    record { least = some k.pen (λ z. inked (sym w.0 ∙ z)); most = omega (arith, w.0, v); start = w.1; stop = w.2 }
  where
    some : (n : ℕ) → (n ≡ 0 → ⊥) → 1 ≤ n
    some zero h = absurd (h refl)
    some (suc n) h = omega arith

-- so of any list that passes
pub ready-painted : (zs : List ℤ) (needed lent : ℕ) → ready_of zs needed lent ≡ 0 → (k : Stroke) → draw_answer (machine_in zs) ≡ drawn.Stroke k → Painted (machine_in zs) k
ready-painted zs needed lent goes = usable-painted (goes-usable (ready-goes zs needed lent goes))
