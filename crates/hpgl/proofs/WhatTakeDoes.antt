-- The calls fresh, take and look, pinned by document 01's numbers and words: for every usable machine, and so for each that the calls make, and every byte, take answers the number of Refusals.antt
-- and changes what Effects.antt names, and nothing else. Why: a byte that is taken means an event of the instructions, and of events it is proved rule by rule.
use Rattle.std.specs.Prelude.{◌≡◌, refl, Bool, false, cond, ℕ, eqb, pos}
use Rattle.std.proofs.Common.{ap, ◌∙◌}
use Rattle.clip.specs.declared.Rect.{Rect}
use Rattle.reader.specs.declared.Event.{Event}
use Rattle.reader.specs.declared.Event.TheVariants.{Nothing, Named, Pair, Ended, Refused}
use Rattle.reader.specs.Step.{step_of, passed_over}
use Rattle.hpgl.specs.declared.Settings.{Settings}
use Rattle.hpgl.specs.declared.Core.{Core}
use Rattle.hpgl.specs.declared.Acted.{Acted}
use Rattle.hpgl.specs.declared.State.{State}
use Rattle.hpgl.specs.Place.{point, location, rest_at}
use Rattle.hpgl.specs.Rules.{fresh_settings, no_polygon, fresh_carriage, fresh_core, noting, noted, act_on}
use Rattle.hpgl.specs.Machine.{rect, fresh_state, fresh_number, waiting, replied, reader_after, applied, acted, take_state, take_number, look_at}
pub use Rattle.hpgl.proofs.Free.{Free, free-is}
use Rattle.hpgl.proofs.Free.{taken-or}
use Rattle.hpgl.specs.Valid.{ValidEvent, ValidSettings, Usable}
use Rattle.hpgl.proofs.ValidFacts.{axis-bounds-x, axis-bounds-y}
use Rattle.hpgl.proofs.ReaderKept.{step-event}
use Rattle.hpgl.specs.Related.{Sound, Spanned}
use Rattle.hpgl.specs.Instruction.{instruction}
use Rattle.hpgl.specs.Effects.{Happens, nothing, name, pair, end, refused, changed_by, remembers}
use Rattle.hpgl.proofs.EffectsProof.{obeyed, remembers-so}
use Rattle.hpgl.specs.Refusals.{Needs, Numbered, GoodLimits}
use Rattle.hpgl.proofs.RefusalsProof.{judged, fresh-judged, fresh-limits}

-- ---- Take

pub record Does (m : State) (b : ℕ) : Type 0 where
  -- "take while a segment waits: 20, whole machine"; "While a reply waits a byte is refused with 20"
  pub busy : (Free m → ⊥) → (take_number m b ≡ 20) × (take_state m b ≡ m)
  -- what the byte means
  pub event : Happens (step_of m.reader b).event
  pub number : Free m → Numbered event m.core (take_number m b)
  -- "After a refusal the rest is passed over"
  pub reader : Free m → (take_state m b).reader ≡ cond (eqb (take_number m b) 0) (step_of m.reader b).reader (passed_over (step_of m.reader b).reader)
  -- and its number is remembered
  pub core : Free m → let d = (take_state m b).core in d ≡ remembers (take_number m b) (changed_by event m.core (take_number m b) d.carriage.polygon)

-- an event that the reader gives is one of the instructions'
of-table : (c : Core) (e : Event) → ValidEvent c e → Happens e
of-table c Nothing h = nothing
of-table c (Named op) h = name (instruction op h)
of-table c (Pair n) h = pair n
of-table c (Ended op n) h = end (instruction op h.0.listed) n
of-table c (Refused k) h = refused k

pub sound : {s : Settings} → ValidSettings s → Sound s
sound w = record { x = (axis-bounds-x w).some; y = (axis-bounds-y w).some; turn = w.turn }

pub spanned : {s : Settings} → ValidSettings s → Spanned s
spanned w = record { x = (axis-bounds-x w).moves; y = (axis-bounds-y w).moves }

pub take-does : (m : State) → Usable m → (b : ℕ) → Does m b
unfolding take_number take_state applied acted noted noting reader_after
take-does m h b = record {
  busy = λ w. let e = taken-or m w in
      (ap (λ (t : Bool). cond t 20 (acted m b).number) e, ap (λ (t : Bool). cond t m (applied m (step_of m.reader b).reader (acted m b))) e);
  event = event;
  number = λ w. rw (free-is w) (judged m.core event valid spans);
  reader = λ w. rw (free-is w) refl;
  core = λ w. rw (free-is w) core;
}
  where
    event : Happens (step_of m.reader b).event
    event = of-table m.core _ (step-event b h.valid)

    valid : Sound m.core.settings
    valid = sound h.valid.core.settings

    spans : Spanned m.core.settings
    spans = spanned h.valid.core.settings

    t : Acted
    t = act_on m.core (step_of m.reader b).event

    core : let d = noting t.number t.core in d ≡ remembers t.number (changed_by event m.core t.number d.carriage.polygon)
    core = remembers-so t.number t.core ∙ ap (remembers t.number) (obeyed m.core event valid)

-- ---- Fresh

-- "Fresh: page point (0,0), pen up, pen 0, absolute mode, P1 left-bottom, P2 right-top, scaling off, RO 0, no window, polygon empty"
pub record AsFresh (r : Rect) (c : Core) : Type 0 where
  pub hard : c.settings.hard ≡ r
  pub position : c.carriage.position ≡ rest_at (point (pos 0) (pos 0))
  pub up : c.carriage.pen.down ≡ false
  pub pen : c.carriage.pen.number ≡ 0
  pub absolute : c.carriage.relative ≡ false
  pub p1 : c.settings.p1 ≡ point r.left r.bottom
  pub p2 : c.settings.p2 ≡ point r.right r.top
  pub unscaled : c.settings.scale.on ≡ false
  pub turn : c.settings.turn ≡ 0
  pub window : c.settings.window.set ≡ false
  pub mode : c.carriage.polygon.mode ≡ false
  pub bytes : c.carriage.polygon.bytes ≡ 0
  pub edges : c.carriage.polygon.edges ≡ 0
  pub refusal : c.carriage.memory.refusal ≡ 0

pub record FreshCall (r : Rect) : Type 0 where
  -- "each −32768 to 32767, left < right, bottom < top", else 10
  pub number : Needs (GoodLimits r) 10 (fresh_number r) (fresh_number r ≡ 0)
  pub good : GoodLimits r → AsFresh r (fresh_state r).core
  -- "bad hard limits: 10, fresh machine with limits 0,0,1,1"
  pub bad : (GoodLimits r → ⊥) → AsFresh (rect (pos 0) (pos 0) (pos 1) (pos 1)) (fresh_state r).core
  pub idle : waiting (fresh_state r).work ≡ 0
  -- "0 if none since fresh"
  pub silent : (replied (fresh_state r).work).count ≡ 0

begins : (hard : Rect) → AsFresh hard (fresh_core hard)
unfolding fresh_core fresh_settings fresh_carriage no_polygon
begins hard = record {
  hard = refl;
  position = refl;
  up = refl;
  pen = refl;
  absolute = refl;
  p1 = refl;
  p2 = refl;
  unscaled = refl;
  turn = refl;
  window = refl;
  mode = refl;
  bytes = refl;
  edges = refl;
  refusal = refl;
}

pub fresh-is : (r : Rect) → FreshCall r
unfolding fresh_state waiting replied
fresh-is r = record {
  number = fresh-judged r;
  good = λ h. rw ((fresh-limits r).0 h) (begins r);
  bad = λ h. rw ((fresh-limits r).1 h) (begins (rect (pos 0) (pos 0) (pos 1) (pos 1)));
  idle = refl;
  silent = refl;
}

-- ---- Look: "location, pen, pen up or down, polygon bytes"

pub look_is : (m : State) → let c = m.core in let l = look_at m in
    (l.location ≡ location c.settings c.carriage.position) × (l.pen ≡ c.carriage.pen.number) × (l.down ≡ c.carriage.pen.down) × (l.bytes ≡ c.carriage.polygon.bytes)
unfolding look_at
look_is m = (refl, refl, refl, refl)
