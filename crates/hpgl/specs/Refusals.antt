-- When each event is carried out, and with which number it is refused if not (document 01, "Causes and numbers", and the sentences of 01 and 02 that say what must be so). A line is the
-- list of what an event needs, in 01's order for one byte, each with the number that it gives where it is not met; where all is met the number is 0.
-- Nothing here calls a rule; RefusalsProof.antt proves that the rules answer just these numbers.
use Rattle.std.specs.Prelude.{◌≡◌, Bool, true, false, ℕ, ◌+◌, ◌≤◌, ℤ, pos, neg_ℤ, nat_abs, ◌+ℤ◌, ◌-ℤ◌, ◌*ℤ◌}
use Rattle.exact.specs.Whole.{◌≤ᶻ◌, ◌<ᶻ◌}
use Rattle.clip.specs.declared.Point.{Point}
use Rattle.clip.specs.declared.Rect.{Rect}
use Rattle.reader.specs.declared.Numbers.{Numbers}
use Rattle.reader.specs.declared.Event.{Event}
use Rattle.mnemonics.specs.Table as code
use Rattle.plane.specs.declared.circle.Way.{Way}
use Rattle.plane.specs.Circle.{vertex_point_of}
use Rattle.plane.specs.Arc.{exact_way, parts_of, bend_of}
use Rattle.turns.proofs.TurnsSaid.{Said}
use Rattle.hpgl.specs.declared.Position.{Position}
use Rattle.hpgl.specs.declared.Core.{Core}
use Rattle.hpgl.specs.Place.{axis_x, axis_y, location, absolute_position, relative_position}
use Rattle.hpgl.specs.Instruction.{Instruction, IN, DF, EP, IP, SC, IW, RO, SP, PM, CI, EA, ER, AA, AR, OA, OP, OW, OH, OE, PU, PD, PA, PR}
use Rattle.hpgl.specs.Effects.{target, new_p1, new_p2, first_corner, second_corner, centre_aa, centre_ar, pair_bytes, closing_bytes, bytes, Happens, nothing, name, pair, end, refused}

-- where P is met, what follows is so; where it is not, the number t is k
pub record Needs (P : Type 0) (k t : ℕ) (rest : Type 0) : Type 0 where
  pub met : P → rest
  pub unmet : (P → ⊥) → t ≡ k

-- ---- ranges

abbrev pub Between : ℤ → ℤ → ℤ → Type 0
Between least z most = (least ≤ᶻ z) × (z ≤ᶻ most)

-- "must be within ±1,000,000"
abbrev pub InRange : Point → Type 0
InRange p = Between (neg_ℤ (pos 1000000)) p.x (pos 1000000) × Between (neg_ℤ (pos 1000000)) p.y (pos 1000000)

-- "within −32768 to 32767"
abbrev pub Short : Point → Type 0
Short p = Between (neg_ℤ (pos 32768)) p.x (pos 32767) × Between (neg_ℤ (pos 32768)) p.y (pos 32767)

-- ---- rounding

-- "to the nearest whole; a half goes to the larger number, also below zero": k − 1/2 ≤ n / w < k + 1/2
pub record IsNearest (n : ℤ) (w : ℕ) (k : ℤ) : Type 0 where
  pub least : pos w *ℤ (pos 2 *ℤ k -ℤ pos 1) ≤ᶻ pos 2 *ℤ n
  pub most : pos 2 *ℤ n <ᶻ pos w *ℤ (pos 2 *ℤ k +ℤ pos 1)

-- "SP, RO, PM .. numbers are rounded first"; none is 0
pub record Asked (n : Numbers) (k : ℤ) : Type 0 where
  pub none : n.count ≡ 0 → k ≡ pos 0
  pub some : (n.count ≡ 0 → ⊥) → IsNearest n.first 10000 k

-- a chord angle: "in tenths of a degree, rounded, .. default 50". It is the number z, if there are more than k
pub record Angle (n : Numbers) (k : ℕ) (z a : ℤ) : Type 0 where
  pub default : n.count ≡ k → a ≡ pos 50
  pub some : (n.count ≡ k → ⊥) → IsNearest z 1000 a

-- ---- what instructions need

-- "There only PU, PD, PA, PR, PM, IN are known"; of OA, OP, OW, OH and OE each "works in polygon mode too"
pub data Known : ℕ → Type 0 where
  up : Known code.PU
  down : Known code.PD
  absolute : Known code.PA
  relative : Known code.PR
  polygon : Known code.PM
  initialize : Known code.IN
  place : Known code.OA
  corners : Known code.OP
  window : Known code.OW
  limits : Known code.OH
  refusal : Known code.OE

abbrev pub PolygonMode : Core → Type 0
PolygonMode c = c.carriage.polygon.mode ≡ true

-- "P1 and P2 must be within −32768 to 32767 and differ in x and in y"
pub record GoodCorners (p q : Point) : Type 0 where
  pub p1 : Short p
  pub p2 : Short q
  pub x : p.x ≡ q.x → ⊥
  pub y : p.y ≡ q.y → ⊥

-- "PM1 or PM2 outside, PM0 inside: 3", and so is any other number
pub data Allows (on : Bool) : ℤ → Type 0 where
  begins : on ≡ false → Allows on (pos 0)
  ends : on ≡ true → Allows on (pos 1)
  leaves : on ≡ true → Allows on (pos 2)

-- "first adding its first point if the last differs in location .. (to an empty one nothing is added)": what `closes` decides
pub record Closing (c : Core) : Type 0 where
  pub some : c.carriage.polygon.empty ≡ false
  pub apart : location c.settings c.carriage.position ≡ location c.settings c.carriage.polygon.first → ⊥

-- "Bytes, at most 1024: 2 for PM0 and PM1, 9 for each point"; "PM1 with its added point is refused together"
pub record Fits (c : Core) (k : ℤ) : Type 0 where
  pub one : k ≡ pos 1 → bytes c + (2 + closing_bytes c) ≤ 1024
  pub two : k ≡ pos 2 → Closing c → bytes c + 9 ≤ 1024

-- "The four points at 0, 90, 180, 270 degrees must be in range"
abbrev pub point_at : Core → ℤ → ℕ → Point
point_at c r angle = vertex_point_of (axis_x c.settings) (axis_y c.settings) c.carriage.position.x c.carriage.position.y (record { u = r; v = pos 0 }) (pos angle)

abbrev pub FourPoints : Core → ℤ → Type 0
FourPoints c r = InRange (point_at c r 0) × InRange (point_at c r 900) × InRange (point_at c r 1800) × InRange (point_at c r 2700)

-- "The way from centre to current point .. per axis in current units, rounded to ten-thousandths": from the centre q
pub record WayFrom (c : Core) (q : Position) (w : Way) : Type 0 where
  pub u : let z = exact_way (axis_x c.settings) c.carriage.position.x q.x in IsNearest z.num z.den w.u
  pub v : let z = exact_way (axis_y c.settings) c.carriage.position.y q.y in IsNearest z.num z.den w.v

-- "more than 32768 units either way"
abbrev pub Near : Way → Type 0
Near w = Between (neg_ℤ (pos 327680000)) w.u (pos 327680000) × Between (neg_ℤ (pos 327680000)) w.v (pos 327680000)

-- "Each later vertex is the centre plus that way turned, by whole chord angles and at the last by the swept angle itself", and is in range
abbrev pub Vertices : Core → Position → Way → ℤ → ℕ → Type 0
Vertices c q w s a = (i : ℕ) → 1 ≤ i → i ≤ parts_of s a → InRange (vertex_point_of (axis_x c.settings) (axis_y c.settings) q.x q.y w (bend_of s a i))

-- AA and AR, about q: "−3600 to 3600 without 0, else 3", the chord angle "as for CI"
abbrev pub Arc : Core → Position → Numbers → ℕ → Type 0
Arc c q n t =
    (s : ℤ) → IsNearest n.third 1000 s → (a : ℤ) → Angle n 3 n.fourth a → (w : Way) → WayFrom c q w →
    Needs (Between (neg_ℤ (pos 3600)) s (pos 3600) × (s ≡ pos 0 → ⊥)) 3 t
    (Needs (Between (pos 5) a (pos 1200)) 3 t
    (Needs (Near w) 3 t
    (Needs (Vertices c q w s (nat_abs a)) 6 t
    (t ≡ 0))))

-- ---- the numbers of an instruction that ends. RO's are those that 01 and 02 say, 0, 90, 180 and 270: `Said` in TurnsSaid.antt of turns

abbrev pub Judged : {op : ℕ} → Instruction op → Core → Numbers → ℕ → Type 0
Judged IN c n t = t ≡ 0
Judged DF c n t = t ≡ 0
Judged EP c n t = t ≡ 0
Judged IP c n t = Needs (GoodCorners (new_p1 c n) (new_p2 c n)) 3 t (t ≡ 0)
Judged SC c n t = Needs ((n.count ≡ 0 → ⊥) → (n.first ≡ n.second → ⊥) × (n.third ≡ n.fourth → ⊥)) 3 t (t ≡ 0)
Judged IW c n t = Needs ((n.count ≡ 0 → ⊥) → InRange (first_corner c n) × InRange (second_corner c n)) 3 t (t ≡ 0)
Judged RO c n t = (k : ℤ) → Asked n k → Needs (Said k) 3 t (t ≡ 0)
Judged SP c n t = (k : ℤ) → Asked n k → Needs (Between (pos 0) k (pos 8)) 3 t (t ≡ 0)
Judged PM c n t = (k : ℤ) → Asked n k → Needs (Allows c.carriage.polygon.mode k) 3 t (Needs (Fits c k) 7 t (t ≡ 0))
Judged CI c n t = (a : ℤ) → Angle n 1 n.second a → Needs (Between (pos 5) a (pos 1200)) 3 t (Needs (FourPoints c n.first) 6 t (t ≡ 0))
Judged EA c n t = Needs (InRange (location c.settings (absolute_position c.settings (record { x = n.first; y = n.second })))) 6 t (t ≡ 0)
Judged ER c n t = Needs (InRange (location c.settings (relative_position c.carriage.position (record { x = n.first; y = n.second })))) 6 t (t ≡ 0)
Judged AA c n t = Arc c (centre_aa c n) n t
Judged AR c n t = Arc c (centre_ar c n) n t
Judged OA c n t = t ≡ 0
Judged OP c n t = t ≡ 0
Judged OW c n t = t ≡ 0
Judged OH c n t = t ≡ 0
Judged OE c n t = t ≡ 0
Judged PU c n t = t ≡ 0
Judged PD c n t = t ≡ 0
Judged PA c n t = t ≡ 0
Judged PR c n t = t ≡ 0

-- ---- the number t of any event

abbrev pub Numbered : {e : Event} → Happens e → Core → ℕ → Type 0
Numbered nothing c t = t ≡ 0
Numbered (name {op} i) c t = Needs (PolygonMode c → Known op) 1 t (t ≡ 0)
Numbered (pair n) c t = Needs (InRange (location c.settings (target c n))) 6 t (Needs (PolygonMode c → bytes c + pair_bytes c ≤ 1024) 7 t (t ≡ 0))
Numbered (end i n) c t = Judged i c n t
Numbered (refused k) c t = t ≡ k

-- ---- fresh

-- "hard limits left, bottom, right, top, each −32768 to 32767, left < right, bottom < top"
pub record GoodLimits (r : Rect) : Type 0 where
  pub left : Between (neg_ℤ (pos 32768)) r.left (pos 32767)
  pub bottom : Between (neg_ℤ (pos 32768)) r.bottom (pos 32767)
  pub right : Between (neg_ℤ (pos 32768)) r.right (pos 32767)
  pub top : Between (neg_ℤ (pos 32768)) r.top (pos 32767)
  pub wide : r.left <ᶻ r.right
  pub high : r.bottom <ᶻ r.top
