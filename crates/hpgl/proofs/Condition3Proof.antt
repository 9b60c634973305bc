-- Condition 3 holds. Machine and model are related at fresh (Related), each call keeps the relation (Steps, OpenInstruction, SegmentsLocated), and a draw at related states
-- keeps its promise (Near).
use Rattle.std.specs.Prelude.{◌≡◌, refl, Bool, cond, List, [], ◌∷◌, ℕ, zero, suc, ◌+◌, ◌<◌, eqb, leb, length}
use Rattle.std.proofs.Common.{sym, ap, ◌∙◌, subst, arith}
use Rattle.std.proofs.Math.Dec.{eqb-suc-zero}
use Rattle.std.proofs.lemmas.List.{length-replicate}
use Rattle.clip.specs.declared.Rect.{Rect}
use Rattle.reader.specs.declared.Event.{Event}
use Rattle.reader.specs.declared.Reader.{Reader}
use Rattle.reader.specs.Step.{step_of}
use Rattle.reader.specs.InsideLaws.{Leads, step-tells}
use Rattle.hpgl.proofs.Cases.{never, pick, choose}
use Rattle.hpgl.specs.declared.Settings.{Settings}
use Rattle.hpgl.specs.declared.Core.{Core}
use Rattle.hpgl.specs.declared.Edge.{Edge}
use Rattle.hpgl.specs.declared.Acted.{Acted}
use Rattle.hpgl.specs.declared.Reply.{Reply}
use Rattle.hpgl.specs.declared.Work.{Work}
use Rattle.hpgl.specs.declared.Work.TheVariants as work
use Rattle.hpgl.specs.declared.State.{State}
use Rattle.hpgl.specs.declared.Drawn.{Drawn}
use Rattle.hpgl.specs.declared.Drawn.TheVariants as drawn
use Rattle.hpgl.specs.Numbers.{most_edges}
use Rattle.hpgl.specs.Rules.{fresh_core, fresh_carriage, no_polygon, noting, noted, act_on}
use Rattle.hpgl.specs.Machine.{hard_limits, no_edge, fresh_state, waiting, replied, replying, occupied, reader_after, applied, acted, take_state, shown, chord_shown, edge_shown, work_after, draw_work, draw_state, draw_answer, fetch_state, fetch_text}
use Rattle.hpgl.specs.ExactModel.{ExactPolygon, ExactSegment, Model, no_points, fresh_model, core_after, number_of, taken, take_when, take_model, rest, draw_model, fetch_when, fetch_model}
use Rattle.hpgl.specs.Replies.{no_reply, reply_text}
use Rattle.hpgl.specs.Condition3.{Call, take, draw, fetch, state_after, model_after, Holds, HoldsAt, HoldsAll, Condition3}
use Rattle.hpgl.specs.Valid.{Knows}
use Rattle.hpgl.specs.Related.{edges_from, polygon_edges, edges_of, all_edges, PageSegment, turned_edges, chords_from, view, on_page, AllLocated, none, more, Related}
use Rattle.hpgl.proofs.Near.{keeps-promise}
use Rattle.hpgl.proofs.SegmentsLocated.{located-by}
use Rattle.hpgl.proofs.OpenInstruction.{knows_after, ends-known}
use Rattle.hpgl.proofs.Steps.{polygon_by, added_by, Keeps, keeps, keeps-noted, sound-fresh}
use Rattle.hpgl.proofs.Told.{queued-reply, answered_by, answers}

-- ---- draw

-- what is drawn of a list of segments on the page
unfoldable answer : Core → List PageSegment → Drawn
answer c [] = drawn.Idle
answer c (x ∷ xs) = cond x.shown (shown c x.start x.end) drawn.Hidden

unfoldable behind : List PageSegment → List PageSegment
behind [] = []
behind (x ∷ xs) = xs

draws_first : (m : State) (w : Work) → draw_work m w ≡ answer m.core (view m.core.settings m.store.edges w)
unfolding draw_work chord_shown edge_shown answer view chords_from turned_edges edges_from
draws_first m work.Nothing = refl
draws_first m (work.Line a b) = refl
draws_first m (work.Chords o i zero) = refl
draws_first m (work.Chords o i (suc n)) = refl
draws_first m (work.Edges i zero) = refl
draws_first m (work.Edges i (suc n)) = refl
draws_first m (work.Answer r) = refl

leaves-rest : (m : State) (w : Work) →
    view m.core.settings m.store.edges (work_after w) ≡ behind (view m.core.settings m.store.edges w)
unfolding work_after behind view chords_from turned_edges edges_from
leaves-rest m work.Nothing = refl
leaves-rest m (work.Line a b) = refl
leaves-rest m (work.Chords o i zero) = refl
leaves-rest m (work.Chords o i (suc zero)) = refl
leaves-rest m (work.Chords o i (suc (suc n))) =
    ap (λ (t : Bool). view m.core.settings m.store.edges (cond t work.Nothing (work.Chords o (i + 1) (suc n)))) (eqb-suc-zero n)
leaves-rest m (work.Edges i zero) = refl
leaves-rest m (work.Edges i (suc zero)) = refl
leaves-rest m (work.Edges i (suc (suc n))) =
    ap (λ (t : Bool). view m.core.settings m.store.edges (cond t work.Nothing (work.Edges (i + 1) (suc n)))) (eqb-suc-zero n)
leaves-rest m (work.Answer r) = refl

-- and the reply that waits, if one does
keeps-reply : (w : Work) → replied (work_after w) ≡ replied w
unfolding work_after replied
keeps-reply work.Nothing = refl
keeps-reply (work.Line a b) = refl
keeps-reply (work.Chords o i zero) = refl
keeps-reply (work.Chords o i (suc n)) = pick (λ (w : Work). replied w ≡ no_reply) (eqb n 0) refl refl
keeps-reply (work.Edges i zero) = refl
keeps-reply (work.Edges i (suc n)) = pick (λ (w : Work). replied w ≡ no_reply) (eqb n 0) refl refl
keeps-reply (work.Answer r) = refl

behind-page : (q : List ExactSegment) → behind (on_page q) ≡ on_page (rest q)
unfolding behind on_page rest
behind-page [] = refl
behind-page (g ∷ gs) = refl

located-rest : {k : ℕ} {q : List ExactSegment} → AllLocated k q → AllLocated k (rest q)
unfolding rest
located-rest none = none
located-rest (more l h) = h

-- the answer is what the first of the queue was promised
promised : (c : Core) (q : List ExactSegment) → AllLocated c.carriage.pen.number q → Holds c.settings q (answer c (on_page q))
unfolding answer on_page Holds
promised c q none = tt
promised c q (more {g = g} {gs = gs} l h) = keeps-promise c g l gs

-- ---- take

waits : (s : Settings) (es : List Edge) (w : Work) → waiting w ≡ length (view s es w)
unfolding waiting view chords_from turned_edges edges_from
waits s es work.Nothing = refl
waits s es (work.Line a b) = refl
waits s es (work.Chords o i n) = go i n
  where
    go : (i n : ℕ) → n ≡ length (chords_from s o i n)
    go i zero = refl
    go i (suc n) = ap suc (go (i + 1) n)
waits s es (work.Edges i n) = go i n
  where
    go : (i n : ℕ) → n ≡ length (turned_edges s.turn (edges_from es i n))
    go i zero = refl
    go i (suc n) = ap suc (go (i + 1) n)
waits s es (work.Answer r) = refl

idle-takes : (m : State) (b : ℕ) → waiting m.work ≡ 0 → (replied m.work).count ≡ 0 → take_state m b ≡ applied m (step_of m.reader b).reader (acted m b)
unfolding take_state occupied replying
idle-takes m b h k = rw (h, k) refl

busy-stays : (m : State) (b n : ℕ) → waiting m.work ≡ suc n → take_state m b ≡ m
unfolding take_state occupied
busy-stays m b n h = rw (h, eqb-suc-zero n) refl

held_stays : (m : State) (b n : ℕ) → waiting m.work ≡ 0 → (replied m.work).count ≡ suc n → take_state m b ≡ m
unfolding take_state occupied replying
held_stays m b n h k = rw (h, k, eqb-suc-zero n) refl

-- ---- a call

abbrev model : Reader → Core → ExactPolygon → List ExactSegment → Reply → Model
model r c g q w = record { reader = r; core = c; polygon = g; queue = q; reply = w }

-- the model beside a machine, with its own polygon and queue
abbrev beside : State → ExactPolygon → List ExactSegment → Model
beside m g q = model m.reader m.core g q (replied m.work)

taken_is : (c : Core) (r s : Reader) (g : ExactPolygon) (w : Reply) (e : Event) (n : ℕ) (d : Core) →
    taken (model r c g [] w) s e n d ≡ model (reader_after s n) d (polygon_by c d e n g) (added_by c d e n g) (answered_by c e n)
unfolding taken reader_after polygon_by added_by answered_by
taken_is c r s g w e zero d = refl
taken_is c r s g w e (suc n) d = refl

-- what it promises is kept, and the machine and the model after it are related
record Next (m : State) (g : ExactPolygon) (q : List ExactSegment) (c : Call) : Type 0 where
  said : HoldsAt m (beside m g q) c
  polygon : ExactPolygon
  queue : List ExactSegment
  is : model_after (beside m g q) c ≡ beside (state_after m c) polygon queue
  related : Related (state_after m c) polygon queue

-- nothing waits, and the model takes the byte
free-takes : (p : Model) (k b : ℕ) → k ≡ 0 → take_when p [] k b ≡ take_when p [] 0 b
free-takes p k b e = ap (λ (j : ℕ). take_when p [] j b) e

take-idle : (m : State) (g : ExactPolygon) (b : ℕ) (h : b < 256) → (replied m.work).count ≡ 0 → Related m g [] → Next m g [] (take b h)
unfolding HoldsAt model_after state_after take_model take_when number_of core_after acted noted noting applied on_page Knows
take-idle m g b h silent r =
    let s : Reader = (step_of m.reader b).reader in
    let e : Event = (step_of m.reader b).event in
    let a : Acted = act_on m.core e in
    let t : Acted = noted a in
    let told : Leads m.reader s e = step-tells m.reader b in
    let k : Keeps m.core m.store.edges g e t =
    keeps-noted (keeps m.core m.store.edges g r.fit r.linked e (ends-known m.core m.reader s e told r.knows)) in
    let none-waits : waiting m.work ≡ 0 = waits m.core.settings m.store.edges m.work ∙ ap length r.queue in
    let took : take_state m b ≡ applied m s t = idle-takes m b none-waits silent in
    let p : ExactPolygon = polygon_by m.core t.core e t.number g in
    let q : List ExactSegment = added_by m.core t.core e t.number g in
    let reply : answered_by m.core e t.number ≡ replied (applied m s t).work = sym (queued-reply _ _ _ t.action ∙ answers m.core e) in
    record {
      said = tt;
      polygon = p;
      queue = q;
      is = free-takes (beside m g []) (replied m.work).count b silent
          ∙ taken_is m.core m.reader s g (replied m.work) e t.number t.core
          ∙ (λ i. model (reader_after s t.number) t.core p q (reply i))
          ∙ (λ i. beside (sym took i) p q);
      related = subst (λ (x : State). Related x p q) (sym took) (record {
        fit = k.kept.fit;
        linked = k.kept.linked;
        knows = knows_after m.core m.reader s e told r.knows;
        queue = k.kept.queue;
        located = located-by t.core k.kept.fit.sound.turn m.core e t.number g;
      });
    }

take-busy : (m : State) (g : ExactPolygon) (x : ExactSegment) (xs : List ExactSegment) (b : ℕ) (h : b < 256) → Related m g (x ∷ xs) → Next m g (x ∷ xs) (take b h)
unfolding HoldsAt model_after state_after take_model take_when on_page
take-busy m g x xs b h r =
    let some-wait : waiting m.work ≡ suc (length (on_page xs)) = waits m.core.settings m.store.edges m.work ∙ ap length r.queue in
    let stays : take_state m b ≡ m = busy-stays m b (length (on_page xs)) some-wait in
    record {
      said = tt;
      polygon = g;
      queue = x ∷ xs;
      is = λ i. beside (sym stays i) g (x ∷ xs);
      related = subst (λ (y : State). Related y g (x ∷ xs)) (sym stays) r;
    }

-- while a reply waits
take-held : (m : State) (g : ExactPolygon) (b : ℕ) (h : b < 256) (n : ℕ) → (replied m.work).count ≡ suc n → Related m g [] → Next m g [] (take b h)
unfolding HoldsAt model_after state_after take_model take_when on_page
take-held m g b h n some r =
    let none-waits : waiting m.work ≡ 0 = waits m.core.settings m.store.edges m.work ∙ ap length r.queue in
    let stays : take_state m b ≡ m = held_stays m b n none-waits some in
    record {
      said = tt;
      polygon = g;
      queue = [];
      is = ap (λ (j : ℕ). take_when (beside m g []) [] j b) some ∙ (λ i. beside (sym stays i) g []);
      related = subst (λ (y : State). Related y g []) (sym stays) r;
    }

draws : (m : State) (g : ExactPolygon) (q : List ExactSegment) → Related m g q → Next m g q draw
unfolding HoldsAt model_after state_after draw_state draw_model draw_answer
draws m g q r =
    let first : draw_work m m.work ≡ answer m.core (on_page q) = draws_first m m.work ∙ ap (answer m.core) r.queue in
    record {
      said = subst (λ (a : Drawn). Holds m.core.settings q a) (sym first) (promised m.core q r.located);
      polygon = g;
      queue = rest q;
      is = λ i. model m.reader m.core g (rest q) (sym (keeps-reply m.work) i);
      related = record {
        fit = r.fit;
        linked = r.linked;
        knows = r.knows;
        queue = leaves-rest m m.work ∙ ap behind r.queue ∙ behind-page q;
        located = located-rest r.located;
      };
    }

-- a work that holds a reply holds no segment
reply-alone : (s : Settings) (es : List Edge) (w : Work) (n : ℕ) → (replied w).count ≡ suc n → view s es w ≡ []
unfolding view replied
reply-alone s es work.Nothing n h = absurd (omega arith)
reply-alone s es (work.Line a b) n h = absurd (omega arith)
reply-alone s es (work.Chords o i k) n h = absurd (omega arith)
reply-alone s es (work.Edges i k) n h = absurd (omega arith)
reply-alone s es (work.Answer r) n h = refl

fetches : (m : State) (g : ExactPolygon) (q : List ExactSegment) (room : ℕ) → Related m g q → Next m g q (fetch room)
unfolding HoldsAt model_after state_after fetch_model fetch_text fetch_state fetch_when replying replied view
fetches m g q room r = by (replied m.work).count refl
  where
    After : State → Model → Type 0
    After x p = (p ≡ beside x g q) × Related x g q

    made : (k : ℕ) → (replied m.work).count ≡ k → After (fetch_state m room) (fetch_when (beside m g q) k room)
    made zero e = rw e (refl, r)
    made (suc n) e =
        rw (e, eqb-suc-zero n)
        (choose (λ (x : State) (p : Model). After x p) (leb (length (reply_text (replied m.work))) room)
        (refl, record { fit = r.fit; linked = r.linked; knows = r.knows; queue = sym (reply-alone m.core.settings m.store.edges m.work n e) ∙ r.queue; located = r.located })
        (refl, r))

    by : (k : ℕ) → (replied m.work).count ≡ k → Next m g q (fetch room)
    by k e =
        let a = made k e in
        record { said = refl; polygon = g; queue = q; is = ap (λ (j : ℕ). fetch_when (beside m g q) j room) e ∙ a.0; related = a.1 }

takes : (m : State) (g : ExactPolygon) (b : ℕ) (h : b < 256) → Related m g [] → Next m g [] (take b h)
takes m g b h r = by (replied m.work).count refl
  where
    by : (k : ℕ) → (replied m.work).count ≡ k → Next m g [] (take b h)
    by zero e = take-idle m g b h e r
    by (suc n) e = take-held m g b h n e r

next : (m : State) (g : ExactPolygon) (q : List ExactSegment) (c : Call) → Related m g q → Next m g q c
next m g [] (take b h) r = takes m g b h r
next m g (x ∷ xs) (take b h) r = take-busy m g x xs b h r
next m g q draw r = draws m g q r
next m g q (fetch room) r = fetches m g q room r

-- ---- the whole list

from : (m : State) (g : ExactPolygon) (q : List ExactSegment) (calls : List Call) → Related m g q → HoldsAll m (beside m g q) calls
unfolding HoldsAll
from m g q [] r = tt
from m g q (c ∷ cs) r =
    let n : Next m g q c = next m g q c r in
    (n.said, rw n.is (from (state_after m c) n.polygon n.queue cs n.related))

fresh-related : (r : Rect) → Related (fresh_state r) no_points []
unfolding fresh_state fresh_core fresh_carriage no_polygon Knows view on_page edges_from polygon_edges edges_of all_edges
fresh-related r = record {
  fit = record { sound = sound-fresh (hard_limits r); room = λ h. never refl h };
  linked = record { size = length-replicate most_edges no_edge; edges = refl; current = λ h. never refl h };
  knows = λ h. never refl h;
  queue = refl;
  located = none;
}

pub condition-3 : Condition3
unfolding fresh_model fresh_state replied
condition-3 r calls = from (fresh_state r) no_points [] calls (fresh-related r)
