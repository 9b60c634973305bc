-- The turns of the loop of `gather`: a name, a pair with its stroke or its edge, EP, and a refusal, by whatever it was given.
-- Why: each is a turn that takes a byte (Gathers.antt), and a line is worked off at once where there is a record for it.
use mathlib.Core.Path.{◌≡◌, refl, sym, ap, subst, ◌∙◌}
use mathlib.Core.Bool.{Bool, true, false, true≢false, cond, not}
use mathlib.Core.List.{List}
use Prim.Native.Nat.{ℕ, ◌+◌, ◌*◌, ◌/◌, ◌≤◌, ◌<◌}
use native.Mathlib.Nat.{mul-div-le}
use native.Mathlib.Omega.{arith}
use lib.Dec.{T, eqb}
use borrow.Author.Tests.{eq-eqb, eqb-true}
use Rattle.clip.specs.declared.Rect.{Rect}
use lib.IntN.{ℤ}
use lib.ListN.{length, get_or}
use lib.ListN as list
use Rattle.reader.specs.declared.Event.TheVariants as event
use Rattle.reader.specs.declared.Reader.{Reader}
use Rattle.reader.specs.declared.Step.{Step}
use Rattle.reader.specs.declared.Next.{Next}
use Rattle.reader.specs.Step.{passed_over}
use Rattle.reader.specs.Stream.{◌telling◌}
use Rattle.mnemonics.specs.Table.{EP, PU, PD, PA, PR}
use Rattle.reader.specs.Sizes.{is_cause, Caused}
use Rattle.reader.proofs.Laws.{cause-law}
use Rattle.reader.specs.declared.Numbers.{Numbers}
use Rattle.hpgl.specs.declared.Polygon.{Polygon}
use Rattle.hpgl.specs.declared.Carriage.{Carriage}
use Rattle.hpgl.specs.declared.Edge.{Edge}
use Rattle.hpgl.specs.declared.Core.{Core}
use Rattle.hpgl.specs.declared.Acted.{Acted}
use Rattle.hpgl.specs.declared.Action.TheVariants.{Keep, Join, Outline}
use Rattle.hpgl.specs.declared.Store.{Store}
use Rattle.hpgl.specs.declared.Work.{Work}
use Rattle.hpgl.specs.declared.Work.TheVariants.{Nothing, Edges}
use Rattle.hpgl.specs.declared.State.{State}
use Rattle.hpgl.specs.declared.Stroke.{Stroke}
use Rattle.hpgl.specs.declared.Drawn.{Drawn}
use Rattle.hpgl.specs.declared.Segment.{Segment}
use Rattle.hpgl.specs.declared.Segment.TheVariants as segment
use Rattle.hpgl.proofs.Cases.{pick}
use Rattle.hpgl.proofs.Pins.{pinned}
use Rattle.hpgl.specs.Place.{limits}
use Rattle.hpgl.specs.Rules.{done, letters, inked, longer, ep_rule, end_rule, act_on, noting}
use Rattle.hpgl.specs.Replies.{remembering, remembered}
use Rattle.hpgl.specs.Machine.{waiting, stored, queued, reader_after, work_after}
use Rattle.hpgl.specs.Segment.{work_segment, segment_of, drawn_of, SmallSegment}
use Rattle.hpgl.proofs.SegmentLaws.{segment-drawn, segment-small}
use Rattle.feeding.specs.DrawOff.{list_full}
use Rattle.feeding.specs.Plot.{Plot, refusal}
use Rattle.rulekit.specs.declared.hand.Pointed.{Pointed}
use Rattle.rulekit.specs.Hand.{hand_of, core_of, line_of, pointed_of}
use Rattle.gathering.specs.Gather.{whole, stopped_as, Gathers, count_after, with_stroke, record_of, put_of, outline_of, overflows_of}
use Rattle.gathering.specs.Far.{Far, Reached}
use Rattle.gathering.proofs.Turns.{leaves, Turn, reader-off, turn-valid}
use Rattle.gathering.proofs.Gathers.{put-fits, far-filled, far-draw, far-turn, far-refusal, far-refused}

-- a name leaves the carriage where it is
pub letters-position : (k : Carriage) (op : ℕ) → (letters k op).position ≡ k.position
unfolding letters
letters-position k op =
    let P : Carriage → Type 0 = λ x. x.position ≡ k.position in
    pick P (eqb op PU) refl (pick P (eqb op PD) refl (pick P (eqb op PA) refl (pick P (eqb op PR) refl refl)))

-- EP changes no edge, and what it leaves waiting is said by the pen alone
outline-kept : (es : List Edge) (k : ℕ) (b : Bool) → es ≡ stored es k (cond b Outline Keep)
unfolding stored
outline-kept es k true = refl
outline-kept es k false = refl

outline-waits : (c : Core) (es : List Edge) → outline_of c.carriage.pen c.carriage.polygon.edges ≡ leaves es c.carriage.polygon.edges c (cond (inked c) Outline Keep)
unfolding outline_of queued inked
outline-waits c es = go (eqb c.carriage.pen.number 0)
  where
    go : (b : Bool) → cond b Nothing (Edges 0 c.carriage.polygon.edges) ≡ leaves es c.carriage.polygon.edges c (cond (not b) Outline Keep)
    go true = refl
    go false = refl

-- whether there is a record for a segment
not_full : (k n : ℕ) → eqb k n ≡ false → k ≡ n → ⊥
not_full k n h e = true≢false (sym (eq-eqb k n e) ∙ h)

overflow-waits : (g : Segment) (k room : ℕ) (es : List Edge) (edges : ℕ) (c : Core) → overflows_of g k room ≡ true → (0 < waiting (leaves es edges c (line_of g))) × (k ≡ room)
unfolding overflows_of queued line_of waiting
overflow-waits segment.Nothing k room es edges c h = absurd (true≢false (sym h))
overflow-waits segment.PenUp k room es edges c h = absurd (true≢false (sym h))
overflow-waits (segment.Line a b) k room es edges c h = (omega arith, eqb-true k room h)

drawn-fits : (g : Segment) (l : Rect) (p k room n : ℕ) → overflows_of g k room ≡ false → k ≤ room → room * 5 ≤ n → count_after (drawn_of l p g) k * 5 ≤ n
unfolding overflows_of drawn_of count_after
drawn-fits segment.Nothing l p k room n h a b = omega (arith, a, b)
drawn-fits segment.PenUp l p k room n h a b = omega (arith, a, b)
drawn-fits (segment.Line x y) l p k room n h a b = put-fits (drawn_of l p (segment.Line x y)) k n (omega (arith, not_full k room h, a, b))

-- a line that is drawn, or nothing
abbrev pub doing : Core → Segment → Acted
doing c g = record { core = c; action = line_of g; number = 0 }

module _ {on : Bool} {all : Plot} {s : List ℕ} {entry now : List ℤ} {m : State} {at count : ℕ} {q : Next} (r : Reached on all s entry now m at count q) where
  abbrev last : State
  last = whole r.reader m.core m.store r.work

  abbrev byte : ℕ
  byte = get_or s r.place 0

  at_next : {numbers : List ℤ} {i : State} {k : ℕ} → Far on all s entry numbers i (r.place + 1) k → Far on all s entry numbers i q.at k
  at_next {numbers} {i} {k} f = subst (λ (t : ℕ). Far on all s entry numbers i t k) (sym r.ends) f

  -- a turn that nothing is stored in
  pub next-turned : {t : Acted} {next : State} → Turn last byte (q.reader telling q.event) t next → t.number ≡ 0 → (on ≡ true → count < length entry / 5) →
      Far on all s entry now next q.at count
  next-turned turn z free = at_next (far-turn r.far turn r.free r.within free z)

  -- there is room for a segment that has a record
  pub next_fits : (g : Segment) → overflows_of g count (length entry / 5) ≡ false → (l : Rect) (p : ℕ) {d : Drawn} → d ≡ drawn_of l p g → count_after d count * 5 ≤ length now
  next_fits g o l p e = rw e (drawn-fits g _ _ _ _ _ o r.far.room (omega (arith, mul-div-le (length entry) 5, r.far.long)))

  module _ (c : Core) where
    abbrev pub next : Segment → State
    next g = whole q.reader c m.store (leaves m.store.edges m.core.carriage.polygon.edges c (line_of g))

    moved-turn : (g : Segment) → doing c g ≡ act_on m.core q.event → Turn last byte (q.reader telling q.event) (doing c g) (next g)
    unfolding reader_after stored queued line_of noting remembering remembered
    moved-turn segment.Nothing e = record { step = r.step; act = e; reader = refl; core = refl; edges = refl; work = refl }
    moved-turn segment.PenUp e = record { step = r.step; act = e; reader = refl; core = refl; edges = refl; work = refl }
    moved-turn (segment.Line a b) e = record { step = r.step; act = e; reader = refl; core = refl; edges = refl; work = refl }

    -- what it leaves waits
    next-waits : (g : Segment) → doing c g ≡ act_on m.core q.event → (on ≡ true → count < length entry / 5) → Far on all s entry now (next g) q.at count
    next-waits g e free = at_next (far-turn r.far (moved-turn g e) r.free r.within free refl)

    -- a segment for which there is no record ends it
    pub next-full : (g : Segment) → overflows_of g count (length entry / 5) ≡ true → doing c g ≡ act_on m.core q.event → (on ≡ true → count < length entry / 5) →
        {w : Work} → w ≡ (next g).work → Gathers all entry now (stopped_as (whole q.reader c m.store w) q.at count list_full)
    next-full g h e free f = let k = overflow-waits g count _ m.store.edges m.core.carriage.polygon.edges c h in rw f (far-filled (next-waits g e free) k.0 k.1)

    -- nothing is drawn
    pub next-kept : doing c segment.Nothing ≡ act_on m.core q.event → (on ≡ true → count < length entry / 5) → Far on all s entry now (whole q.reader c m.store Nothing) q.at count
    unfolding queued line_of
    next-kept e free = next-waits segment.Nothing e free

    -- a segment may be clipped
    pub next_small : (g : Segment) → doing c g ≡ act_on m.core q.event → SmallSegment g
    unfolding queued line_of segment_of work_segment
    next_small segment.Nothing e = tt
    next_small segment.PenUp e = tt
    next_small (segment.Line a b) e =
        segment-small {m = next (segment.Line a b)} (turn-valid last (next (segment.Line a b)) byte _ _ (moved-turn (segment.Line a b) e) r.free r.far.valid)

    -- and is drawn
    module _ (free : on ≡ true → count < length entry / 5) where
      turned : (g : Segment) → doing c g ≡ act_on m.core q.event → Far on all s entry now (next g) (r.place + 1) count
      turned g e = far-turn r.far (moved-turn g e) r.free r.within free refl

      abbrev drawn_by : Segment → Drawn
      drawn_by g = drawn_of (limits c.settings) c.carriage.pen.number g

      worked : (g : Segment) → overflows_of g count (length entry / 5) ≡ false → doing c g ≡ act_on m.core q.event →
          Far on all s entry (put_of (drawn_by g) (count * 5) now) (whole q.reader c m.store Nothing) (r.place + 1) (count_after (drawn_by g) count)
      unfolding overflows_of drawn_of put_of count_after queued line_of segment_of work_segment waiting work_after
      worked segment.Nothing h e = turned segment.Nothing e
      worked segment.PenUp h e = turned segment.PenUp e
      worked (segment.Line a b) h e =
          let i = next (segment.Line a b) in
          far-draw (turned (segment.Line a b) e) (omega arith) (omega (arith, not_full count (length entry / 5) h, r.far.room)) (sym (segment-drawn i)) refl refl refl

      pub next_drawn : (g : Segment) → overflows_of g count (length entry / 5) ≡ false → doing c g ≡ act_on m.core q.event → {d : Drawn} {numbers : List ℤ} {k : ℕ} → d ≡ drawn_by g → numbers ≡ put_of d (count * 5) now → k ≡ count_after d count →
          Far on all s entry numbers (whole q.reader c m.store Nothing) q.at k
      next_drawn g o e f h k = rw (h, k, f) (at_next (worked g o e))

  -- a point of a polygon: an edge more, unless it is the first of a subpolygon
  module _ (t : Pointed) (free : on ≡ true → count < length entry / 5) (z : t.number ≡ 0) (acts : pointed_of m.core.settings (hand_of m.core.carriage) m.core.carriage.polygon t ≡ act_on m.core q.event) where
    abbrev was : Polygon
    was = m.core.carriage.polygon

    abbrev grown : Bool → Store
    grown b = record { edges = cond b m.store.edges (list.set m.store.edges was.edges t.edge) }

    points : {b : Bool} → was.empty ≡ b → done (core_of m.core.settings t.hand (longer was t.cost t.hand.position)) (cond b Keep (Join t.edge)) ≡ act_on m.core q.event
    unfolding pointed_of
    points e = sym (rw (z, e) refl) ∙ acts

    pub next-point : (b : Bool) → was.empty ≡ b → {g : Polygon} → g ≡ longer was t.cost t.hand.position → Far on all s entry now (whole q.reader (core_of m.core.settings t.hand g) (grown b) Nothing) q.at count
    unfolding reader_after stored queued done noting remembering remembered
    next-point true e f = next-turned (record { step = r.step; act = points e; reader = refl; core = ap (core_of m.core.settings t.hand) f; edges = refl; work = refl }) refl free
    next-point false e f = next-turned (record { step = r.step; act = points e; reader = refl; core = ap (core_of m.core.settings t.hand) f; edges = refl; work = refl }) refl free

  -- EP: the stored edges wait
  pub next-outline : {k : ℕ} {n : Numbers} → q.event ≡ event.Ended k n → k ≡ EP → {w : Work} → w ≡ outline_of m.core.carriage.pen m.core.carriage.polygon.edges →
      (on ≡ true → count < length entry / 5) → Far on all s entry now (whole q.reader m.core m.store w) q.at count
  unfolding reader_after done act_on end_rule ep_rule noting remembering remembered
  next-outline {n = n} told e f free =
      let acts = ap (act_on m.core) (told ∙ ap (λ (k : ℕ). event.Ended k n) e) in
      let b = inked m.core in
      next-turned (record { step = r.step; act = sym acts; reader = refl; core = refl; edges = outline-kept m.store.edges _ b; work = f ∙ outline-waits m.core m.store.edges }) refl free

  -- a refusal of the reader's own has a number
  pub refusal-some : {k : ℕ} → q.event ≡ event.Refused k → k ≡ 0 → ⊥
  refusal-some told l =
      let caused = subst Caused (sym (ap (λ (x : Step). x.event) r.step) ∙ told) (cause-law r.reader byte) in
      subst (λ (n : ℕ). T (is_cause n)) l caused

  -- a refusal: the reader passes over the rest, its number is remembered, and nothing is stored or queued
  module _ {t : Acted} {x : Reader} {c : Core} (act : t ≡ act_on m.core q.event) (some : t.number ≡ 0 → ⊥) (off : x ≡ passed_over q.reader) (left : c ≡ noting t.number t.core) where
    keeps : t.action ≡ Keep
    keeps = subst (λ (t : Acted). (t.number ≡ 0 → ⊥) → t.action ≡ Keep) (sym act) (λ f. ((pinned m.core q.event).refused f).0) some

    refused-turn : Turn last byte (q.reader telling q.event) t (whole x c m.store Nothing)
    unfolding stored queued
    refused-turn =
        let es = m.store.edges in
        let k = m.core.carriage.polygon.edges in
        record { step = r.step; act = act; reader = off ∙ reader-off _ some; core = left; edges = ap (stored es k) (sym keeps); work = ap (leaves es k t.core) (sym keeps) }

    -- it is stored
    pub next-refusal : on ≡ true → count < length entry / 5 → {numbers : List ℤ} {d : Stroke} {n : ℕ} →
        d ≡ record_of (refusal t.number q.at) → numbers ≡ with_stroke d (count * 5) now → n ≡ count + 1 → Far on all s entry numbers (whole x c m.store Nothing) q.at n
    next-refusal o free e f h =
        at_next
        (far-refusal r.far refused-turn r.free r.within some o free (f ∙ (λ i. with_stroke ((e ∙ ap (λ (k : ℕ). record_of (refusal t.number k)) r.ends) i) (count * 5) now)) h)

    -- or ends the feed
    pub next-refused : on ≡ false → Gathers all entry now (stopped_as (whole x c m.store Nothing) q.at count t.number)
    next-refused o =
        subst (λ (k : ℕ). Gathers all entry now (stopped_as (whole x c m.store Nothing) k count t.number)) (sym r.ends)
        (far-refused r.far refused-turn r.free r.within some o)
