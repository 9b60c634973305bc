-- Every machine that the calls make is usable: fresh, take, draw and fetch keep it. Why: each rule keeps the core valid and its action valid (the other files ..Kept.antt),
-- the reader keeps its numbers small, and an action puts into store and work what it holds.
use Rattle.std.specs.Prelude.{◌≡◌, refl, Bool, true, false, List, ℕ, zero, suc, ◌+◌, ◌≤◌, ◌<◌, eqb, leb, length, set, replicate}
use Rattle.std.proofs.Common.{◌∙◌, arith, length-set}
use Rattle.std.proofs.lemmas.List.{length-replicate}
use Rattle.exact.specs.Whole.{◌<?◌, <?-true, ord}
use Rattle.exact.specs.Fit.{bd-lit}
use Rattle.clip.specs.declared.Rect.{Rect}
use Rattle.clip.specs.Reach.{SmallPoint}
use Rattle.reader.specs.declared.Numbers.{Numbers}
use Rattle.reader.specs.declared.Event.{Event}
use Rattle.reader.specs.declared.Event.TheVariants.{Nothing, Named, Pair, Ended, Refused}
use Rattle.mnemonics.specs.Table.{cell_of, known_in_polygon}
use Rattle.reader.specs.Step.{step_of}
use Rattle.reader.proofs.Laws.{fresh-law}
use Rattle.hpgl.specs.declared.Core.{Core}
use Rattle.hpgl.specs.declared.Edge.{Edge}
use Rattle.hpgl.specs.declared.Action.{Action}
use Rattle.hpgl.specs.declared.Action.TheVariants as action
use Rattle.hpgl.specs.declared.Work.{Work}
use Rattle.hpgl.specs.declared.Work.TheVariants as work
use Rattle.hpgl.specs.declared.State.{State}
use Rattle.hpgl.specs.Place.{point}
use Rattle.hpgl.specs.declared.Acted.{Acted}
use Rattle.hpgl.proofs.Ends as ends
use Rattle.hpgl.proofs.Ends.{Works, by_end}
use Rattle.hpgl.specs.Rules.{fresh_settings, no_polygon, fresh_carriage, fresh_core, int16, end_rule, act_on}
use Rattle.hpgl.specs.Machine.{good_limits, hard_limits, no_edge, fresh_state, waiting, replied, replying, occupied, fetch_state, rectangle_edges, stored, queued, applied, acted, take_state, work_after, draw_state}
use Rattle.hpgl.specs.Numbers.{most_edges}
use Rattle.hpgl.specs.Valid.{ValidSettings, ValidCore, ValidEvent, SmallEdge, ValidAction, ValidActed, ValidWork, Every, none, more, Inked, Knows, Valid, Usable, clear}
use Rattle.hpgl.specs.Replies.{reply_text}
use Rattle.hpgl.specs.Made as made
use Rattle.hpgl.proofs.ValidFacts.{and_both, rest-placed, origin-small, unknown-outside, fewer, chords-most}
use Rattle.hpgl.proofs.Cases.{never, pick, whether}
use Rattle.hpgl.proofs.KeptCases.{valid-core, refuses, keeps}
use Rattle.hpgl.proofs.SettingsKept.{valid-name, int16-short, fresh-settings, no-polygon, valid-in, valid-df, valid-ip, valid-sc, valid-ro, valid-iw, valid-sp}
use Rattle.hpgl.proofs.PositionKept.{valid-pair}
use Rattle.hpgl.proofs.PolygonKept.{valid-pm, valid-ep, valid-ea, valid-er}
use Rattle.hpgl.proofs.VerticesKept.{valid-ci, valid-aa, valid-ar}
use Rattle.hpgl.proofs.RepliesKept.{valid-oa, valid-op, valid-ow, valid-oh, valid-oe, valid-noted}
use Rattle.hpgl.proofs.ReaderKept.{step-event, known-after, readable-after}

-- ---- every event

-- an instruction that is not known in polygon mode ends outside it
outside : {mode : Bool} → (mode ≡ true → false ≡ true) → mode ≡ false
outside w = unknown-outside refl w

valid-each : {c : Core} {n : Numbers} {op : ℕ} → ValidCore c → Works op → ValidEvent c (Ended op n) → ValidActed c (end_rule c op n)
unfolding end_rule known_in_polygon cell_of
valid-each {c} {n} w ends.IN h = valid-in w
valid-each {c} {n} w ends.DF h = valid-df w (outside h.1)
valid-each {c} {n} w ends.EP h = valid-ep w
valid-each {c} {n} w ends.IP h = valid-ip w (outside h.1) n
valid-each {c} {n} w ends.SC h = valid-sc w (outside h.1) h.0.numbers
valid-each {c} {n} w ends.IW h = valid-iw w (outside h.1) n
valid-each {c} {n} w ends.RO h = valid-ro w (outside h.1) n
valid-each {c} {n} w ends.SP h = valid-sp n w
valid-each {c} {n} w ends.PM h = valid-pm n w
valid-each {c} {n} w ends.CI h = valid-ci w h.0.numbers
valid-each {c} {n} w ends.EA h = valid-ea w h.0.numbers
valid-each {c} {n} w ends.ER h = valid-er w h.0.numbers
valid-each {c} {n} w ends.AA h = valid-aa w h.0.numbers
valid-each {c} {n} w ends.AR h = valid-ar w h.0.numbers
valid-each {c} {n} w ends.OA h = valid-oa w
valid-each {c} {n} w ends.OP h = valid-op w
valid-each {c} {n} w ends.OW h = valid-ow w
valid-each {c} {n} w ends.OH h = valid-oh w
valid-each {c} {n} w ends.OE h = valid-oe w

pub valid-end : {c : Core} {op : ℕ} {n : Numbers} → ValidCore c → ValidEvent c (Ended op n) → ValidActed c (end_rule c op n)
valid-end {c} {op} {n} w h = by_end c n (λ (op : ℕ) (t : Acted). ValidEvent c (Ended op n) → ValidActed c t) (λ o i. valid-each w i) (λ o r h. keeps c c w) op h

pub valid-event : {c : Core} (e : Event) → ValidCore c → ValidEvent c e → ValidActed c (act_on c e)
unfolding act_on
valid-event {c} Nothing w h = keeps c c w
valid-event (Named op) w h = valid-name op w
valid-event (Pair n) w h = valid-pair w h
valid-event (Ended op n) w h = valid-end w h
valid-event {c} (Refused k) w h = refuses c c k h w

pub valid-acted : {m : State} (b : ℕ) → Valid m → ValidActed m.core (acted m b)
unfolding acted
valid-acted {m} b w = valid-noted (valid-event (step_of m.reader b).event w.core (step-event b w))

-- ---- store and work

record ValidStore (es : List Edge) : Type 0 where
  edges : Every SmallEdge es
  length : length es ≡ most_edges

every_set : {es : List Edge} {e : Edge} (k : ℕ) → SmallEdge e → Every SmallEdge es → Every SmallEdge (set es k e)
every_set k h none = none
every_set zero h (more g gs) = more h gs
every_set (suc k) h (more g gs) = more g (every_set k h gs)

put : {es : List Edge} {e : Edge} (k : ℕ) → SmallEdge e → ValidStore es → ValidStore (set es k e)
put {es} {e} k h w = record { edges = every_set k h w.edges; length = length-set es k e ∙ w.length }

stored-valid : {es : List Edge} (k : ℕ) (a : Action) → ValidAction k a → ValidStore es → ValidStore (stored es k a)
unfolding stored rectangle_edges
stored-valid k action.Keep h w = w
stored-valid k (action.Line a b) h w = w
stored-valid k (action.Chords o) h w = w
stored-valid k (action.Join e) h w = put k h.0 w
stored-valid k action.Outline h w = w
stored-valid k (action.Answer r) h w = w
stored-valid k (action.Rectangle p q shown) h w =
    let second : SmallPoint (point q.x p.y) = record { x = h.1.x; y = h.0.y } in
    let fourth : SmallPoint (point p.x q.y) = record { x = h.0.x; y = h.1.y } in
    put 3 (record { from = fourth; to = h.0 })
    (put 2 (record { from = h.1; to = fourth })
    (put 1 (record { from = second; to = h.1 })
    (put 0 (record { from = h.0; to = second })
    w)))

queued-valid : (t : ℕ) (es : List Edge) (j k : ℕ) (a : Action) → ValidAction j a → k ≤ most_edges → ValidWork (queued t es k a)
unfolding queued
queued-valid t es j k action.Keep h l = tt
queued-valid t es j k (action.Line a b) h l = h
queued-valid t es j k (action.Chords o) h l = (h, omega (arith, chords-most h))
queued-valid t es j k (action.Join e) h l = tt
queued-valid t es j k action.Outline h l = omega arith
queued-valid t es j k (action.Rectangle p q shown) h l = pick ValidWork shown (omega arith) tt
queued-valid t es j k (action.Answer r) h l = h

-- ---- fresh

good-limits : (r : Rect) → good_limits r ≡ true → ValidSettings (fresh_settings r)
unfolding good_limits
good-limits r e =
    let b1 = and_both _ (r.bottom <? r.top) e in
    let b2 = and_both _ (r.left <? r.right) b1.0 in
    let b3 = and_both _ (int16 r.top) b2.0 in
    let b4 = and_both _ (int16 r.right) b3.0 in
    let b5 = and_both (int16 r.left) (int16 r.bottom) b4.0 in
    fresh-settings
    (record {
      left = int16-short r.left b5.0;
      bottom = int16-short r.bottom b5.1;
      right = int16-short r.right b4.1;
      top = int16-short r.top b3.1;
    })
    (<?-true r.left r.right b2.1)
    (<?-true r.bottom r.top b1.1)

hard-valid : (r : Rect) → ValidSettings (fresh_settings (hard_limits r))
unfolding hard_limits
hard-valid r =
    whether (λ (q : Rect). ValidSettings (fresh_settings q)) (good_limits r) (good-limits r)
    (λ e. fresh-settings (record { left = bd-lit tt; bottom = bd-lit tt; right = bd-lit tt; top = bd-lit tt }) (omega (arith, ord)) (omega (arith, ord)))

-- with bad limits too
pub valid-fresh : (r : Rect) → Valid (fresh_state r)
unfolding fresh_state fresh_core fresh_carriage no_polygon Knows
valid-fresh r = record {
  reader = fresh-law;
  known = λ o. never refl o;
  core = valid-core (hard-valid r) (rest-placed (hard-valid r) origin-small) (omega arith) no-polygon clear;
  edges = all most_edges;
  length = length-replicate most_edges no_edge;
  work = tt;
}
  where
    all : (n : ℕ) → Every SmallEdge (replicate n no_edge)
    all zero = none
    all (suc n) = more (record { from = origin-small; to = origin-small }) (all n)

-- ---- take and draw

applied-valid : {m : State} (b : ℕ) → Valid m → Valid (applied m (step_of m.reader b).reader (acted m b))
unfolding applied
applied-valid {m} b w =
    let t = valid-acted b w in
    let s = stored-valid m.core.carriage.polygon.edges (acted m b).action t.action (record { edges = w.edges; length = w.length }) in
    record {
      reader = readable-after b w;
      known = known-after b w;
      core = t.core;
      edges = s.edges;
      length = s.length;
      work = queued-valid _ _ m.core.carriage.polygon.edges (acted m b).core.carriage.polygon.edges (acted m b).action t.action t.core.polygon.edges;
    }

pub valid-take : {m : State} (b : ℕ) → Valid m → Valid (take_state m b)
unfolding take_state
valid-take {m} b w = pick Valid (occupied m.work) w (applied-valid b w)

work-after : (x : Work) → ValidWork x → ValidWork (work_after x)
unfolding work_after
work-after work.Nothing h = tt
work-after (work.Line a b) h = tt
work-after (work.Chords o i zero) h = tt
work-after (work.Chords o i (suc n)) h = pick ValidWork (eqb n 0) tt (fewer h.0 (i + 1) n (omega arith) (omega arith), omega (arith, h.1))
work-after (work.Edges i zero) h = tt
work-after (work.Edges i (suc n)) h = pick ValidWork (eqb n 0) tt (omega arith)
work-after (work.Answer r) h = h

pub valid-draw : {m : State} → Valid m → Valid (draw_state m)
unfolding draw_state
valid-draw {m} w = record {
  reader = w.reader;
  known = w.known;
  core = w.core;
  edges = w.edges;
  length = w.length;
  work = work-after m.work w.work;
}

pub valid-fetch : {m : State} (room : ℕ) → Valid m → Valid (fetch_state m room)
unfolding fetch_state
valid-fetch {m} room w =
    pick Valid (replying m.work)
    (pick Valid (leb (length (reply_text (replied m.work))) room)
    (record { reader = w.reader; known = w.known; core = w.core; edges = w.edges; length = w.length; work = tt }) w) w

-- ---- usable: each call keeps it

pub usable-fresh : (r : Rect) → Usable (fresh_state r)
unfolding fresh_state waiting
usable-fresh r = record { valid = valid-fresh r; inked = record { pen = λ h e. omega (arith, h) } }

pub usable-take : {m : State} (b : ℕ) → Usable m → Usable (take_state m b)
unfolding take_state applied
usable-take {m} b w = record {
  valid = valid-take b w.valid;
  inked = pick (λ (n : State). Inked n.core n.work) (occupied m.work) w.inked ((valid-acted b w.valid).inked _ _ _);
}

waited : (x : Work) → 0 < waiting (work_after x) → 0 < waiting x
unfolding work_after waiting
waited work.Nothing h = h
waited (work.Line a b) h = omega arith
waited (work.Chords o i zero) h = h
waited (work.Chords o i (suc n)) h = omega arith
waited (work.Edges i zero) h = h
waited (work.Edges i (suc n)) h = omega arith
waited (work.Answer r) h = h

pub usable-draw : {m : State} → Usable m → Usable (draw_state m)
unfolding draw_state
usable-draw {m} w = record { valid = valid-draw w.valid; inked = record { pen = λ h e. w.inked.pen (waited m.work h) e } }

pub usable-fetch : {m : State} (room : ℕ) → Usable m → Usable (fetch_state m room)
unfolding fetch_state waiting
usable-fetch {m} room w = record {
  valid = valid-fetch room w.valid;
  inked = pick Penned (replying m.work)
      (pick Penned (leb (length (reply_text (replied m.work))) room) (record { pen = λ h e. omega (arith, h) }) w.inked) w.inked;
}
  where
    Penned : State → Type 0
    Penned n = Inked n.core n.work

-- THE THEOREM: what the calls ask of a machine holds of each that they make
pub made-usable : {m : State} → made.Made m → Usable m
made-usable (made.fresh r) = usable-fresh r
made-usable (made.take h b l) = usable-take b (made-usable h)
made-usable (made.draw h) = usable-draw (made-usable h)
made-usable (made.fetch h room) = usable-fetch room (made-usable h)
