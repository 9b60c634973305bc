-- Clip as the manual tells it (document 02, CR 4), of every draw of every list of calls: the segment that it works off is of exactly one of the manual's four line types, by
-- its located ends and the limits in force, and is painted as its type says; EP's pen-up edges aside, of which draw says "hidden" whatever their type.
-- The types stand in clip (Types.antt). Why it holds: by condition 3 draw answers the clip of the first segment of the queue, and each clip goes by its type.
use Rattle.std.specs.Prelude.{◌≡◌, true, List, [], ◌∷◌, Option}
use Rattle.clip.specs.Types.{LineType, Inner, OfType, type_of}
use Rattle.clip.specs.Types as types
use Rattle.clip.specs.declared.Point.{Point}
use Rattle.clip.specs.declared.Rect.{Rect}
use Rattle.hpgl.specs.declared.Settings.{Settings}
use Rattle.hpgl.specs.declared.State.{State}
use Rattle.hpgl.specs.declared.Drawn.{Drawn}
use Rattle.hpgl.specs.Place.{limits}
use Rattle.hpgl.specs.Machine.{hard_limits, fresh_state, stroke_of, draw_answer}
use Rattle.hpgl.specs.ExactModel.{ExactSegment, Model, fresh_model}
use Rattle.hpgl.specs.Condition3.{Call, take, draw, fetch, state_after, model_after}

-- ---- the statement

-- "Each segment is of exactly one type, by whether each of its ends before clipping lies within the limits, edges included. Its stroke keeps an end that does and puts a point on
-- an edge for one that does not; .. only with both outside is it hidden."
pub record ByType (s : Settings) (g : ExactSegment) (a : Drawn) : Type 0 where
  pub type : LineType
  pub is : OfType (limits s) g.start g.end type
  pub only : (t : LineType) → OfType (limits s) g.start g.end t → t ≡ type
  pub left : Option (Point × Point)
  pub answer : a ≡ stroke_of g.pen left
  pub painted : types.Painted (limits s) g.start g.end type left

-- "EP's pen-up edges aside"
unfoldable pub FirstByType : Settings → List ExactSegment → Drawn → Type 0
FirstByType s [] a = Unit
FirstByType s (g ∷ gs) a = g.owed ≡ true → ByType s g a

unfoldable pub TypesAt : State → Model → Call → Type 0
TypesAt m p (take b h) = Unit
TypesAt m p draw = FirstByType p.core.settings p.queue (draw_answer m)
TypesAt m p (fetch room) = Unit

unfoldable pub TypesAll : State → Model → List Call → Type 0
TypesAll m p [] = Unit
TypesAll m p (c ∷ cs) = TypesAt m p c × TypesAll (state_after m c) (model_after p c) cs

abbrev pub LineTypes : Type 0
LineTypes = (r : Rect) (calls : List Call) → TypesAll (fresh_state r) (fresh_model (hard_limits r)) calls
