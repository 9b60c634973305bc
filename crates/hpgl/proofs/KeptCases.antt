-- How the proof is put together that a rule keeps the core valid: it is the rule's definition with each leaf replaced, and each `cond` by `whether`, or by
-- `pick` of Cases.antt where the test does not matter.
use Rattle.std.specs.Prelude.{◌≡◌, Bool, true, false, cond, ◌&&◌, List, ℕ, ◌≤◌, ◌<◌}
use Rattle.std.proofs.Common.{arith, eq-eqb}
use Rattle.clip.specs.declared.Point.{Point}
use Rattle.hpgl.specs.declared.Settings.{Settings}
use Rattle.hpgl.specs.declared.Polygon.{Polygon}
use Rattle.hpgl.specs.declared.Core.{Core}
use Rattle.hpgl.specs.declared.Edge.{Edge}
use Rattle.hpgl.specs.declared.Action.{Action}
use Rattle.hpgl.specs.declared.Action.TheVariants.{Keep, Join, Rectangle}
use Rattle.hpgl.specs.Numbers.{polygon_bytes, most_pen, most_edges}
use Rattle.hpgl.specs.Rules.{done, refuse, inked}
use Rattle.hpgl.specs.Machine.{waiting, queued}
use Rattle.hpgl.specs.Valid.{ValidSettings, Placed, KeptPosition, ValidPolygon, Recalled, ValidCore, ValidAction, Inked, ValidActed}
use Rattle.hpgl.proofs.Cases.{never}

-- a core, by the parts of which something is asked
pub valid-core : {d : Core} → ValidSettings d.settings → Placed d.settings d.carriage.position → d.carriage.pen.number ≤ most_pen →
    ValidPolygon d.settings d.carriage.polygon → Recalled d.carriage.memory.refusal → ValidCore d
valid-core s p n g m = record { settings = s; position = p; pen = n; polygon = g; memory = m }

-- outside polygon mode the stored positions need not be placed under the settings
pub closed-polygon : {s : Settings} {g : Polygon} → g.mode ≡ false → g.bytes ≤ polygon_bytes → g.edges ≤ most_edges → KeptPosition g.first → KeptPosition g.saved.position
    → ValidPolygon s g
closed-polygon o b e f g = record { bytes = b; edges = e; room = λ h. never o h; first = λ h. never o h; saved = λ h. never o h; first-kept = f; saved-kept = g }

-- ---- an action queues nothing, or only with a pen that is not 0

abbrev pub Inks : Core → Action → Type 0
Inks d a = (turn : ℕ) (es : List Edge) (k : ℕ) → Inked d (queued turn es k a)

pub quiet : (d : Core) → Inks d Keep
unfolding queued waiting
quiet d t es k = record { pen = λ h e. omega (arith, h) }

pub joins : (d : Core) (e : Edge) → Inks d (Join e)
unfolding queued waiting
joins d e t es k = record { pen = λ h z. omega (arith, h) }

-- what the test of the pen's number lets through, with another one before it too
pub with-ink : (d : Core) (a : Action) → Inks d (cond (inked d) a Keep)
unfolding inked queued waiting
with-ink d a t es k = record { pen = λ h e. absurd (omega (arith, rw (eq-eqb d.carriage.pen.number 0 e) at h)) }

pub down-with-ink : (d : Core) (down : Bool) (a : Action) → Inks d (cond (down && inked d) a Keep)
down-with-ink d true a = with-ink d a
down-with-ink d false a = quiet d

pub rectangle-with-ink : (d : Core) (p q : Point) → Inks d (Rectangle p q (inked d))
unfolding inked queued waiting
rectangle-with-ink d p q t es k = record { pen = λ h e. absurd (omega (arith, rw (eq-eqb d.carriage.pen.number 0 e) at h)) }

-- the leaves: from the core c to d
module _ (c d : Core) where
  pub refuses : (k : ℕ) → k < 256 → ValidCore d → ValidActed c (refuse d k)
  unfolding refuse
  refuses k h w = record { core = w; action = tt; number = h; inked = quiet d }

  pub acts : (a : Action) → ValidAction c.carriage.polygon.edges a → ValidCore d → Inks d a → ValidActed c (done d a)
  unfolding done
  acts a h w i = record { core = w; action = h; number = omega arith; inked = i }

  pub keeps : ValidCore d → ValidActed c (done d Keep)
  keeps w = acts Keep tt w (quiet d)
