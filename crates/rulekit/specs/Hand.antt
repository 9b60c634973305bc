-- The parts of a core that a loop over bytes keeps apart: settings, hand and polygon, and the frame that is made of the settings once. What a name or
-- a pair does is said by Rules.antt of hpgl alone; here are the parts, put together, and what follows for them.
use Rattle.std.specs.Prelude.{◌≡◌, refl, Bool, true, false, cond, not, ◌&&◌, ℕ, eqb}
use Rattle.std.proofs.Common.{ap, ◌∙◌}
use Rattle.clip.specs.declared.Point.{Point}
use Rattle.mnemonics.specs.Table.{known_in_polygon}
use Rattle.plane.specs.Position.{location_of}
use Rattle.turns.specs.Turn.{rows_of, turned_by}
use Rattle.turns.proofs.TurnLaws.{by_rows}
use Rattle.hpgl.specs.declared.Position.{Position}
use Rattle.hpgl.specs.declared.Settings.{Settings}
use Rattle.hpgl.specs.declared.Polygon.{Polygon}
use Rattle.hpgl.specs.declared.Carriage.{Carriage}
use Rattle.hpgl.specs.declared.Core.{Core}
use Rattle.hpgl.specs.declared.Acted.{Acted}
use Rattle.hpgl.specs.declared.Action.{Action}
use Rattle.hpgl.specs.declared.Action.TheVariants.{Keep, Line, Join}
use Rattle.hpgl.specs.declared.Segment.{Segment}
use Rattle.hpgl.specs.declared.Segment.TheVariants as segment
use Rattle.hpgl.specs.Numbers.{unknown}
use Rattle.hpgl.specs.Place.{point, axis_x, axis_y, location, page_point, limits}
use Rattle.hpgl.specs.Replies.{remembering}
use Rattle.hpgl.specs.Rules.{done, refuse, letters, spent, name_rule, longer, noting}
use Rattle.hpgl.specs.Valid.{ValidCore}
use Rattle.rulekit.specs.declared.places.Frame.{Frame}
use Rattle.rulekit.specs.declared.hand.Hand.{Hand}
use Rattle.rulekit.specs.declared.hand.Pointed.{Pointed}
use Rattle.rulekit.specs.declared.hand.Shifted.{Shifted}

-- ---- the parts

-- what the settings make of a pair
unfoldable pub frame_of : Settings → Frame
frame_of s = record { x = axis_x s; y = axis_y s; rows = rows_of s.turn; limits = limits s }

abbrev pub hand_of : Carriage → Hand
hand_of k = record { position = k.position; pen = k.pen; relative = k.relative; memory = k.memory }

abbrev pub carriage_of : Hand → Polygon → Carriage
carriage_of h g = record { position = h.position; pen = h.pen; relative = h.relative; polygon = g; memory = h.memory }

abbrev pub core_of : Settings → Hand → Polygon → Core
core_of s h g = record { settings = s; carriage = carriage_of h g }

-- the hand after a pair: elsewhere, and the mark of its pen is spent
abbrev pub moved_to : Hand → Position → Hand
moved_to h p = record { position = p; pen = spent h.pen; relative = h.relative; memory = h.memory }

-- the hand that remembers the number k
unfoldable pub noted_hand : ℕ → Hand → Hand
noted_hand k h = record { position = h.position; pen = h.pen; relative = h.relative; memory = remembering k h.memory }

-- a line to draw waits as one
unfoldable pub line_of : Segment → Action
line_of segment.Nothing = Keep
line_of segment.PenUp = Keep
line_of (segment.Line a b) = Line a b

-- outside polygon mode, beside a polygon
abbrev pub shifted_of : Settings → Polygon → Shifted → Acted
shifted_of s g t = record { core = core_of s t.hand g; action = line_of t.segment; number = t.number }

-- in polygon mode, of this polygon: a point more, and an edge to it but from the first of a subpolygon on; or the number
unfoldable pub pointed_of : Settings → Hand → Polygon → Pointed → Acted
pointed_of s h g t =
    cond (eqb t.number 0) (done (core_of s t.hand (longer g t.cost t.hand.position)) (cond g.empty Keep (Join t.edge)))
    (refuse (core_of s h g) t.number)

-- the location of a position, by the frame
abbrev pub location_in : Frame → Position → Point
location_in f p = point (location_of f.x p.x) (location_of f.y p.y)

-- parts that are those of a valid core
pub record ValidParts (f : Frame) (h : Hand) (g : Polygon) : Type 0 where
  pub settings : Settings
  pub frame : f ≡ frame_of settings
  pub core : ValidCore (core_of settings h g)

-- and without the polygon
pub record ValidHand (f : Frame) (h : Hand) : Type 0 where
  pub polygon : Polygon
  pub parts : ValidParts f h polygon

-- nothing is lost
pub core-parts : (c : Core) → core_of c.settings (hand_of c.carriage) c.carriage.polygon ≡ c
core-parts c = refl

-- a number is remembered in the hand
pub noted-parts : (s : Settings) (h : Hand) (g : Polygon) (k : ℕ) → core_of s (noted_hand k h) g ≡ noting k (core_of s h g)
unfolding noted_hand noting
noted-parts s h g k = refl

-- ---- places

pub location-in : {f : Frame} (s : Settings) (p : Position) → f ≡ frame_of s → location_in f p ≡ location s p
unfolding frame_of location
location-in s p e = ap (λ (f : Frame). location_in f p) e

pub page-in : {f : Frame} (s : Settings) (p : Position) → f ≡ frame_of s → turned_by f.rows (location s p) ≡ page_point s p
unfolding frame_of page_point
page-in s p e = ap (λ (f : Frame). turned_by f.rows (location s p)) e ∙ by_rows (location s p) s.turn

-- ---- names

-- 01's number of a name, by polygon mode
unfoldable pub name_number : Bool → ℕ → ℕ
name_number mode op = cond (mode && not (known_in_polygon op)) unknown 0

-- a name without one is carried out; the letters do not look at the polygon
pub name-parts : (s : Settings) (h : Hand) (g : Polygon) (op : ℕ) →
    name_rule (core_of s h g) op ≡
    cond (eqb (name_number g.mode op) 0) (done (record { settings = s; carriage = letters (carriage_of h g) op }) Keep)
    (refuse (core_of s h g) (name_number g.mode op))
unfolding name_rule name_number
name-parts s h g op = go (g.mode && not (known_in_polygon op)) (done (record { settings = s; carriage = letters (carriage_of h g) op }) Keep)
  where
    go : (t : Bool) (r : Acted) → cond t (refuse (core_of s h g) unknown) r ≡ cond (eqb (cond t unknown 0) 0) r (refuse (core_of s h g) (cond t unknown 0))
    go true r = refl
    go false r = refl

-- ---- ends
