-- A located segment keeps its promise: what draw answers for it is what Condition3.antt asks. Why: clip's three theorems hold for any whole points within a half of
-- the exact ends, and a point is within the limits exactly when it is within the hard limits and the turned window, if set.
use Rattle.std.proofs.Math.Path.{◌≡◌, refl, sym}
use Rattle.std.proofs.Common.{ap, ◌∙◌}
use Rattle.std.proofs.Math.Bool.{Bool, true, false}
use Rattle.std.specs.Prelude.{cond, List, ◌∷◌, ℕ, ◌<◌, Option, Some, None}
use Rattle.clip.specs.Clip.{clip}
use Rattle.clip.specs.Line.{Exact, exactly, at, HasClose, Within}
use Rattle.clip.proofs.Nearness.{clip-near, clip-covers}
use Rattle.clip.proofs.ExactnessLaws.{of_some}
use Rattle.clip.proofs.NearnessHidden.{clip-hides}
use Rattle.clip.specs.declared.Point.{Point}
use Rattle.clip.specs.declared.Rect.{Rect}
use Rattle.turns.specs.Turn.{turned_box_of}
use Rattle.turns.specs.Limits.{limits_of}
use Rattle.turns.proofs.LimitsLaws.{intersection-within}
use Rattle.hpgl.proofs.Cases.{never}
use Rattle.hpgl.specs.declared.Settings.{Settings}
use Rattle.hpgl.specs.declared.Core.{Core}
use Rattle.hpgl.specs.declared.Drawn.TheVariants as drawn
use Rattle.hpgl.specs.Place.{limits}
use Rattle.hpgl.specs.Machine.{stroke_of, shown}
use Rattle.hpgl.specs.ExactModel.{ExactSegment}
use Rattle.hpgl.specs.Condition3.{InLimits, HasNear, Painted, Holds}
use Rattle.hpgl.specs.Related.{Located}

-- ---- the limits

-- a point is within the limits exactly when it is within the hard limits and, if set, the turned window
module _ (s : Settings) (c : ℕ) (e : Exact) where
  pub limits-within : (Within (limits s) c e → InLimits s c e) × (InLimits s c e → Within (limits s) c e)
  unfolding limits limits_of
  limits-within =
      (λ w. let k = (go s.window.set).0 w in record { hard = k.0; window = k.1 }, λ h. (go s.window.set).1 (h.hard, h.window))
    where
      InBoth : Bool → Type 0
      InBoth t = Within s.hard c e × (t ≡ true → Within (turned_box_of s.window.area s.turn) c e)

      go : (t : Bool) →
          (Within (limits_of s.hard t s.window.area s.turn) c e → InBoth t) × (InBoth t → Within (limits_of s.hard t s.window.area s.turn) c e)
      go true =
          let both = intersection-within s.hard (turned_box_of s.window.area s.turn) c e in
          (λ w. ((both.0 w).0, λ p. (both.0 w).1), λ w. both.1 (w.0, w.1 refl))
      go false = (λ w. (w, λ p. never refl p), λ w. w.0)

-- ---- a draw

has-near : {e g h : Exact} → HasClose g h e → HasNear e g h
has-near c = (c.k, c.n, c.upto, (c.some, c.close))

module _ (d : Core) (g : ExactSegment) (l : Located d.carriage.pen.number g) where
  painted : (s t : Point) → g.owed ≡ true → clip (limits d.settings) g.start g.end ≡ Some (s, t) →
      Painted d.settings g (record { pen = d.carriage.pen.number; x0 = s.x; y0 = s.y; x1 = t.x; y1 = t.y })
  unfolding stroke_of
  painted s t o h =
      let r : Rect = limits d.settings in
      record {
        owed = o;
        pen = sym l.number;
        clipped = λ i. stroke_of (sym l.number i) (sym h i);
        within = λ k n u p. (limits-within d.settings 0 _).0 (clip-near r g.from g.to g.start g.end s t l.from l.to h k n u p).0;
        near = λ k n u p. has-near (clip-near r g.from g.to g.start g.end s t l.from l.to h k n u p).1;
        covers = λ k n u p w. covered k n p (clip-covers r g.from g.to g.start g.end l.from l.to k n u p ((limits-within d.settings 1 _).1 w));
      }
    where
      covered : (k n : ℕ) (p : 0 < n) →
          ((s' : Point) × (t' : Point) × (clip (limits d.settings) g.start g.end ≡ Some (s', t')) ×
          HasClose (exactly s') (exactly t') (at g.from g.to k n p)) → HasNear (at g.from g.to k n p) (exactly s) (exactly t)
      covered k n p (s', t', e, near) =
          let q : ◌≡◌ {A = Point × Point} (s', t') (s, t) = of_some (sym e ∙ h) in
          let es = ap (λ (z : Point × Point). z.0) q in
          let et = ap (λ (z : Point × Point). z.1) q in
          has-near (rw (es, et) at near)

  -- the answer for a segment that waits
  pub keeps-promise : (gs : List ExactSegment) → Holds d.settings (g ∷ gs) (cond g.owed (shown d g.start g.end) drawn.Hidden)
  unfolding shown stroke_of Holds
  keeps-promise gs = go g.owed refl (clip (limits d.settings) g.start g.end) refl
    where
      go : (t : Bool) → g.owed ≡ t → (k : Option (Point × Point)) → clip (limits d.settings) g.start g.end ≡ k →
          Holds d.settings (g ∷ gs) (cond t (stroke_of d.carriage.pen.number k) drawn.Hidden)
      go true o None h = record {
        clipped = λ u. h;
        none = λ u k n v p w.
            clip-hides (limits d.settings) g.from g.to g.start g.end l.from l.to h k n v p ((limits-within d.settings 1 _).1 w);
      }
      go true o (Some (s, t)) h = painted s t o h
      go false o k h = record { clipped = λ u. never o u; none = λ u. never o u }
