-- Condition 3, as one claim about a whole list of calls: the statement alone. Condition3Proof.antt proves it.
--
-- The calls are take, with any byte and any answer, draw, and fetch, with a buffer of any length (document 02, CR 5), in any order; the list may be empty. The first
-- gets the machine that fresh returned, with 10 too, each later one the machine that the call before it left. The exact model is fed with the same calls and nothing else.
--
-- Among the machines that it excludes: one that loses a segment or draws it out of order, takes a byte while one waits, clips to other limits, paints
-- with another pen, says "hidden" of what shows or "idle" while one waits, or shows an edge that was reached pen up; and one that
-- takes a byte while a reply waits, loses a reply, or tells what is so when it is fetched and not when it was asked for.
use Rattle.std.specs.Prelude.{◌≡◌, true, List, [], ◌∷◌, ℕ, ◌≤◌, ◌<◌, None}
use Rattle.clip.specs.Clip.{clip}
use Rattle.clip.specs.Line.{Exact, exactly, at, Close, Within}
use Rattle.clip.specs.declared.Rect.{Rect}
use Rattle.turns.specs.Turn.{turned_box_of}
use Rattle.hpgl.specs.declared.Settings.{Settings}
use Rattle.hpgl.specs.declared.State.{State}
use Rattle.hpgl.specs.declared.Stroke.{Stroke}
use Rattle.hpgl.specs.declared.Drawn.{Drawn}
use Rattle.hpgl.specs.declared.Drawn.TheVariants as drawn
use Rattle.hpgl.specs.Place.{point, limits}
use Rattle.hpgl.specs.Machine.{hard_limits, fresh_state, take_state, stroke_of, draw_state, draw_answer, fetch_state, fetched_of, fetch_text}
use Rattle.hpgl.specs.ExactModel.{ExactSegment, Model, fresh_model, take_model, draw_model, fetch_model}

pub data Call : Type 0 where
  take : (b : ℕ) → b < 256 → Call
  draw : Call
  fetch : (room : ℕ) → Call

-- the machine and the model after a call
unfoldable pub state_after : State → Call → State
state_after m (take b h) = take_state m b
state_after m draw = draw_state m
state_after m (fetch room) = fetch_state m room

unfoldable pub model_after : Model → Call → Model
model_after p (take b h) = take_model p b
model_after p draw = draw_model p
model_after p (fetch room) = fetch_model p room

-- ---- what a draw promises

-- "at least one unit inside", for c = 1; within, for c = 0: "of the hard limits and of the turned window, if set"
pub record InLimits (s : Settings) (c : ℕ) (e : Exact) : Type 0 where
  pub hard : Within s.hard c e
  pub window : s.window.set ≡ true → Within (turned_box_of s.window.area s.turn) c e

-- a point has a point of the line from g to h "at most one plotter unit in x and y" from it
abbrev pub HasNear : Exact → Exact → Exact → Type 0
HasNear e g h = (j : ℕ) × (m : ℕ) × (j ≤ m) × ((p : 0 < m) × Close e (at g h j m p))

abbrev pub start_of : Stroke → Exact
start_of s = exactly (point s.x0 s.y0)

abbrev pub end_of : Stroke → Exact
end_of s = exactly (point s.x1 s.y1)

-- a stroke that is drawn for a segment
pub record Painted (c : Settings) (g : ExactSegment) (s : Stroke) : Type 0 where
  pub owed : g.owed ≡ true
  pub pen : s.pen ≡ g.pen
  pub clipped : drawn.Stroke s ≡ stroke_of g.pen (clip (limits c) g.start g.end)
  pub within : (k n : ℕ) → k ≤ n → (p : 0 < n) → InLimits c 0 (at (start_of s) (end_of s) k n p)
  pub near : (k n : ℕ) → k ≤ n → (p : 0 < n) → HasNear (at (start_of s) (end_of s) k n p) g.from g.to
  pub covers : (k n : ℕ) → k ≤ n → (p : 0 < n) → InLimits c 1 (at g.from g.to k n p) → HasNear (at g.from g.to k n p) (start_of s) (end_of s)

-- "hidden": if paint was owed, the clip of its located ends is, and no point of the line is at least one unit inside
pub record Unseen (c : Settings) (g : ExactSegment) : Type 0 where
  pub clipped : g.owed ≡ true → clip (limits c) g.start g.end ≡ None
  pub none : g.owed ≡ true → (k n : ℕ) → k ≤ n → (p : 0 < n) → ¬ InLimits c 1 (at g.from g.to k n p)

-- a draw answers for the first segment of the queue, and "idle" exactly where there is none
unfoldable pub Holds : Settings → List ExactSegment → Drawn → Type 0
Holds c [] drawn.Idle = Unit
Holds c [] drawn.Hidden = ⊥
Holds c [] (drawn.Stroke s) = ⊥
Holds c (g ∷ gs) drawn.Idle = ⊥
Holds c (g ∷ gs) drawn.Hidden = Unseen c g
Holds c (g ∷ gs) (drawn.Stroke s) = Painted c g s

-- and a fetch writes the reply that the model made
unfoldable pub HoldsAt : State → Model → Call → Type 0
HoldsAt m p (take b h) = Unit
HoldsAt m p draw = Holds p.core.settings p.queue (draw_answer m)
HoldsAt m p (fetch room) = fetch_text m room ≡ fetched_of p.reply room

-- each call of the list, at the machine and the model that the calls before it left
unfoldable pub HoldsAll : State → Model → List Call → Type 0
HoldsAll m p [] = Unit
HoldsAll m p (c ∷ cs) = HoldsAt m p c × HoldsAll (state_after m c) (model_after p c) cs

-- for all hard limits, bad ones too, and every list of calls
abbrev pub Condition3 : Type 0
Condition3 = (r : Rect) (calls : List Call) → HoldsAll (fresh_state r) (fresh_model (hard_limits r)) calls
