-- The proof of the manual's four line types (specs/LineTypes.antt): by condition 3 draw answers the clip of the first segment of the queue, and each clip goes by its type.
use Rattle.std.specs.Prelude.{◌≡◌, refl, List, [], ◌∷◌, ◌↔◌}
use Rattle.clip.specs.Clip.{clip}
use Rattle.clip.specs.Line.{exactly}
use Rattle.clip.specs.Types.{Inner, type_of}
use Rattle.clip.proofs.TypeLaws.{some-type, one_type, by-type}
use Rattle.clip.specs.declared.Point.{Point}
use Rattle.clip.specs.declared.Rect.{Rect}
use Rattle.hpgl.specs.declared.Settings.{Settings}
use Rattle.hpgl.specs.declared.State.{State}
use Rattle.hpgl.specs.declared.Drawn.{Drawn}
use Rattle.hpgl.specs.declared.Drawn.TheVariants as drawn
use Rattle.hpgl.specs.Place.{limits}
use Rattle.hpgl.specs.Machine.{hard_limits, fresh_state, stroke_of, draw_answer}
use Rattle.hpgl.specs.ExactModel.{ExactSegment, Model, fresh_model}
use Rattle.hpgl.specs.Condition3.{Call, take, draw, fetch, state_after, model_after, InLimits, Holds, HoldsAt, HoldsAll}
use Rattle.hpgl.proofs.Near.{limits-within}
use Rattle.hpgl.proofs.Condition3Proof.{condition-3}
use Rattle.hpgl.specs.LineTypes.{ByType, FirstByType, TypesAt, TypesAll, LineTypes}

-- the limits in force are the hard limits and, if set, the turned window
pub inner-limits : (s : Settings) (p : Point) → Inner (limits s) p ↔ InLimits s 0 (exactly p)
inner-limits s p = limits-within s 0 (exactly p)

-- ---- its proof

clip-typed : (s : Settings) (g : ExactSegment) (a : Drawn) → a ≡ stroke_of g.pen (clip (limits s) g.start g.end) → ByType s g a
clip-typed s g a e =
    let r : Rect = limits s in
    record {
      type = type_of r g.start g.end;
      is = some-type r g.start g.end;
      only = λ t h. one_type r g.start g.end t _ h (some-type r g.start g.end);
      left = clip r g.start g.end;
      answer = e;
      painted = by-type r g.start g.end;
    }

first-typed : (s : Settings) (q : List ExactSegment) (a : Drawn) → Holds s q a → FirstByType s q a
unfolding Holds FirstByType stroke_of
first-typed s [] a h = tt
first-typed s (g ∷ gs) drawn.Idle h = absurd h
first-typed s (g ∷ gs) drawn.Hidden h = λ o. clip-typed s g drawn.Hidden (rw (h.clipped o) refl)
first-typed s (g ∷ gs) (drawn.Stroke k) h = λ o. clip-typed s g (drawn.Stroke k) h.clipped

each_typed : (m : State) (p : Model) (calls : List Call) → HoldsAll m p calls → TypesAll m p calls
unfolding HoldsAll HoldsAt TypesAll TypesAt
each_typed m p [] h = tt
each_typed m p (take b l ∷ cs) h = (tt, each_typed (state_after m (take b l)) (model_after p (take b l)) cs h.1)
each_typed m p (draw ∷ cs) h = (first-typed p.core.settings p.queue (draw_answer m) h.0, each_typed (state_after m draw) (model_after p draw) cs h.1)
each_typed m p (fetch room ∷ cs) h = (tt, each_typed (state_after m (fetch room)) (model_after p (fetch room)) cs h.1)

pub line-types : LineTypes
line-types r calls = each_typed (fresh_state r) (fresh_model (hard_limits r)) calls (condition-3 r calls)
