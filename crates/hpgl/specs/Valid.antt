-- What holds of every machine that the calls make, so that no number of the code leaves its width and no index its array. Definitions only:
-- What the calls need is `Usable`, which a machine of the crate machine holds; Made.antt says which machines the calls make, and ValidKept.antt proves that each of them is usable. ValidFacts.antt has what
-- follows for the code.
use Rattle.std.specs.Prelude.{◌≡◌, Bool, true, List, [], ◌∷◌, ℕ, ◌+◌, ◌*◌, ◌≤◌, ◌<◌, pos, length}
use Rattle.exact.specs.Whole.{◌<ᶻ◌}
use Rattle.exact.specs.Fit.{Bd}
use Rattle.clip.specs.declared.Point.{Point}
use Rattle.clip.specs.declared.Rect.{Rect}
use Rattle.clip.specs.Reach.{reach, SmallPoint, SmallRect}
use Rattle.reader.specs.declared.Event.{Event}
use Rattle.reader.specs.declared.Event.TheVariants.{Nothing, Named, Pair, Ended, Refused}
use Rattle.reader.specs.declared.Reader.{Reader}
use Rattle.mnemonics.specs.Table.{rows, known_in_polygon}
use Rattle.reader.specs.Inside.{inside}
use Rattle.reader.specs.Sizes.{Readable, SmallPair, Fitting}
use Rattle.turns.specs.Turn.{turn_count}
use Rattle.plane.specs.Bounds.{most_number, most_point, most_angle, most_sweep, most_product, Locatable, Storable, WayBounds, CentreBounds}
use Rattle.plane.specs.Arc.{parts_of}
use Rattle.hpgl.specs.declared.Position.{Position}
use Rattle.hpgl.specs.declared.Range.{Range}
use Rattle.hpgl.specs.declared.Settings.{Settings}
use Rattle.hpgl.specs.declared.Polygon.{Polygon}
use Rattle.hpgl.specs.declared.Core.{Core}
use Rattle.hpgl.specs.declared.Edge.{Edge}
use Rattle.hpgl.specs.declared.Circle.{Circle}
use Rattle.hpgl.specs.declared.Action.{Action}
use Rattle.hpgl.specs.declared.Action.TheVariants as action
use Rattle.hpgl.specs.declared.Acted.{Acted}
use Rattle.hpgl.specs.declared.Reply.{Reply}
use Rattle.hpgl.specs.declared.Work.{Work}
use Rattle.hpgl.specs.declared.Work.TheVariants as work
use Rattle.hpgl.specs.declared.State.{State}
use Rattle.hpgl.specs.Numbers.{polygon_bytes, mode_bytes, point_bytes, most_edges, most_pen, least_angle}
use Rattle.hpgl.specs.Place.{axis_x, axis_y, location}
use Rattle.hpgl.specs.Replies.{remembered}
use Rattle.hpgl.specs.Machine.{waiting, queued, vertex_in}

-- the chord angle is at least 5 tenths of a degree: so a circle has at most 3600 / 5 chords
abbrev pub most_chords : ℕ
most_chords = 720

-- ---- settings

-- P1 or P2
pub record ShortPoint (p : Point) : Type 0 where
  pub x : Bd p.x most_point
  pub y : Bd p.y most_point

-- the hard limits
pub record ShortRect (r : Rect) : Type 0 where
  pub left : Bd r.left most_point
  pub bottom : Bd r.bottom most_point
  pub right : Bd r.right most_point
  pub top : Bd r.top most_point

-- the numbers of SC for one axis; where scaling is on they differ
pub record ValidRange (on : Bool) (r : Range) : Type 0 where
  pub min : Bd r.min most_number
  pub max : Bd r.max most_number
  pub differ : on ≡ true → r.min ≡ r.max → ⊥

-- P1 and P2 "differ in x and in y"; the hard limits are in order, so their corners, which IN makes P1 and P2, differ too
pub record ValidSettings (s : Settings) : Type 0 where
  pub hard : ShortRect s.hard
  pub hard-x : s.hard.left <ᶻ s.hard.right
  pub hard-y : s.hard.bottom <ᶻ s.hard.top
  pub p1 : ShortPoint s.p1
  pub p2 : ShortPoint s.p2
  pub apart-x : s.p1.x ≡ s.p2.x → ⊥
  pub apart-y : s.p1.y ≡ s.p2.y → ⊥
  pub x : ValidRange s.scale.on s.scale.x
  pub y : ValidRange s.scale.on s.scale.y
  pub turn : s.turn < turn_count
  pub window : SmallRect s.window.area

-- ---- positions

-- a position that may be located: what a pair gives, before its location is judged
pub record LocatablePosition (s : Settings) (p : Position) : Type 0 where
  pub x : Locatable (axis_x s) p.x
  pub y : Locatable (axis_y s) p.y

-- a position that may be kept: its location is in range
pub record Placed (s : Settings) (p : Position) : Type 0 where
  pub x : Storable (axis_x s) p.x
  pub y : Storable (axis_y s) p.y
  pub near : SmallPoint (location s p)

-- a position that was kept under some settings: its numbers are small, whatever the settings are now
pub record KeptPosition (p : Position) : Type 0 where
  pub x-base : Bd p.x.base reach
  pub x-offset : Bd p.x.offset most_product
  pub y-base : Bd p.y.base reach
  pub y-offset : Bd p.y.offset most_product

-- ---- the core

-- in polygon mode the bytes of PM0 and of all edges are counted, and the first point and the saved position may be gone to
pub record ValidPolygon (s : Settings) (g : Polygon) : Type 0 where
  pub bytes : g.bytes ≤ polygon_bytes
  pub edges : g.edges ≤ most_edges
  pub room : g.mode ≡ true → mode_bytes + point_bytes + point_bytes * g.edges ≤ g.bytes
  pub first : g.mode ≡ true → Placed s g.first
  pub saved : g.mode ≡ true → Placed s g.saved.position
  pub first-kept : KeptPosition g.first
  pub saved-kept : KeptPosition g.saved.position

-- what OE may tell: "1, 2, 3, 6 or 7 .., 0 if none"
pub data Recalled : ℕ → Type 0 where
  clear : Recalled 0
  given : {k : ℕ} → remembered k ≡ true → Recalled k

pub record ValidCore (c : Core) : Type 0 where
  pub settings : ValidSettings c.settings
  pub position : Placed c.settings c.carriage.position
  pub pen : c.carriage.pen.number ≤ most_pen
  pub polygon : ValidPolygon c.settings c.carriage.polygon
  pub memory : Recalled c.carriage.memory.refusal

-- an event that a core may be handed: in polygon mode an instruction that ends was known there
abbrev pub ValidEvent : Core → Event → Type 0
ValidEvent c Nothing = Unit {0}
ValidEvent c (Named op) = op < rows
ValidEvent c (Pair n) = SmallPair n
ValidEvent c (Ended op n) = Fitting op n × (c.carriage.polygon.mode ≡ true → known_in_polygon op ≡ true)
ValidEvent c (Refused k) = k < 256

-- ---- what waits

pub record SmallEdge (e : Edge) : Type 0 where
  pub from : SmallPoint e.from
  pub to : SmallPoint e.to

-- a circle whose vertices i to i + n are in range: those that n chords from i on join
pub record ValidCircle (o : Circle) (i n : ℕ) : Type 0 where
  pub x : CentreBounds o.x
  pub y : CentreBounds o.y
  pub radius : WayBounds o.radius
  pub least : least_angle ≤ o.angle
  pub most : o.angle ≤ most_angle
  pub start : SmallPoint o.start
  pub sweep : Bd o.sweep most_sweep
  pub some : o.sweep ≡ pos 0 → ⊥
  pub fits : (j : ℕ) → i ≤ j → j ≤ i + n → SmallPoint (vertex_in o j)

-- one whose vertices are all in range
abbrev pub WholeCircle : Circle → Type 0
WholeCircle o = ValidCircle o 0 (parts_of o.sweep o.angle)

-- a reply of one, three or four numbers, none larger than a location
pub data ReplyCount : ℕ → Type 0 where
  one : ReplyCount 1
  three : ReplyCount 3
  four : ReplyCount 4

pub record ValidReply (r : Reply) : Type 0 where
  pub count : ReplyCount r.count
  pub first : Bd r.first reach
  pub second : Bd r.second reach
  pub third : Bd r.third reach
  pub fourth : Bd r.fourth reach

-- an action that a core may hand on; k is how many edges its polygon had, and an edge that joins them finds a place in the store
abbrev pub ValidAction : ℕ → Action → Type 0
ValidAction k action.Keep = Unit {0}
ValidAction k (action.Line a b) = SmallPoint a × SmallPoint b
ValidAction k (action.Chords o) = WholeCircle o
ValidAction k (action.Join e) = SmallEdge e × (k < most_edges)
ValidAction k action.Outline = Unit {0}
ValidAction k (action.Rectangle p q shown) = SmallPoint p × SmallPoint q
ValidAction k (action.Answer r) = ValidReply r

-- where a segment waits, the pen is not 0
pub record Inked (c : Core) (w : Work) : Type 0 where
  pub pen : 0 < waiting w → c.carriage.pen.number ≡ 0 → ⊥

-- what an event may do to the core c
pub record ValidActed (c : Core) (t : Acted) : Type 0 where
  pub core : ValidCore t.core
  pub action : ValidAction c.carriage.polygon.edges t.action
  pub number : t.number < 256
  pub inked : (turn : ℕ) (es : List Edge) (k : ℕ) → Inked t.core (queued turn es k t.action)

-- the waiting segments end within the circle, or within the store; of a circle's vertices those that were drawn already are not asked for
abbrev pub ValidWork : Work → Type 0
ValidWork work.Nothing = Unit {0}
ValidWork (work.Line a b) = SmallPoint a × SmallPoint b
ValidWork (work.Chords o i n) = ValidCircle o i n × (i + n ≤ most_chords)
ValidWork (work.Edges i n) = i + n ≤ most_edges
ValidWork (work.Answer r) = ValidReply r

pub data Every {A : Type 0} (P : A → Type 0) : List A → Type 0 where
  none : Every P []
  more : {x : A} {xs : List A} → P x → Every P xs → Every P (x ∷ xs)

-- ---- the machine

-- in polygon mode an instruction that is being read is known there
unfoldable pub Knows : Core → Reader → Type 0
Knows c r = c.carriage.polygon.mode ≡ true → inside r.mode ≡ true → known_in_polygon r.op ≡ true

pub record Valid (m : State) : Type 0 where
  pub reader : Readable m.reader
  pub known : Knows m.core m.reader
  pub core : ValidCore m.core
  pub edges : Every SmallEdge m.store.edges
  pub length : length m.store.edges ≡ most_edges
  pub work : ValidWork m.work

-- what each call needs of the machine that it is handed, and nothing else: no history, so a machine that is read back may be used as one that comes from the calls
pub record Usable (m : State) : Type 0 where
  pub valid : Valid m
  pub inked : Inked m.core m.work
