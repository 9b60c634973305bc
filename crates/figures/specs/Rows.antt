-- A row of the figures: calls of document 01 with their arguments, and what they answer. A constructor for each kind of call list.
use Rattle.std.specs.Prelude.{ℕ, zero, suc, ◌≡◌, refl, cond, ◌==◌, List, [], ◌∷◌, ◌++◌, map, ℤ, pos, neg_ℤ, length, Result, Ok, Err}
use Rattle.std.proofs.Common.{ap, sym, ◌∙◌}
use Prim.Native.String.{String}
use Rattle.clip.specs.declared.Rect.{Rect}
use Rattle.hpgl.specs.declared.State.{State}
use Rattle.hpgl.specs.declared.Stroke.{Stroke}
use Rattle.clip.specs.Types.{LineType, type_of}
use Rattle.hpgl.specs.Place.{limits}
use Rattle.hpgl.specs.ExactModel.{ExactSegment, Model, fresh_model, take_model}
use Rattle.hpgl.specs.Replies.{no_reply}
use Rattle.hpgl.specs.Machine.{rect, hard_limits, fresh_state, fresh_number, waiting, take_state, take_number, draw_state, draw_answer, look_at, fetch_state, fetch_number, fetch_text, fetch_out}
use Rattle.feeding.specs.Feed.{Feed, feed_of, laid}
use Rattle.hpgl.specs.Trace.{Out, drawn_values, look_values, bytes, draws, drawn_off, refusal, trace_from, trace}
use Rattle.drive.specs.declared.Moves.{Moves}
use Rattle.drive.specs.declared.Moves.TheVariants as moves
use Rattle.drive.specs.declared.Move.{Move}
use Rattle.drive.specs.declared.Move.TheVariants.{Travel, Paint, Dot}
use Rattle.drive.specs.declared.Refusal.{Refusal}
use Rattle.drive.specs.declared.Refusal.TheVariants.{Pitch, End}
use Rattle.drive.specs.Drive.{Answer, travel_paint, one_dot, refusal as noMove, number_of, bad_pitch, answer_of, place_of, Gives}

-- a call of feed: bytes, and the records of the lent list
pub data Lent : Type 0 where
  lent : String → List Stroke → Lent

-- its answer: bytes taken, strokes stored, number, and the records after it
pub data Fed : Type 0 where
  fed : ℕ → ℕ → ℕ → List Stroke → Fed

-- calls one by one, after which nothing is drawn or fetched of itself: bytes that are taken, a fetch with this in the lent buffer, a draw, a feed
pub data Call : Type 0 where
  held : String → Call
  fetch : String → Call
  draw : Call
  feed : Lent → Call

-- their answers: refusals and draws; of a fetch its number, its length and the buffer after it; of a feed as above
pub data Told : Type 0 where
  told : Out → Told
  fetched : ℕ → ℕ → List ℕ → Told
  gave : Fed → Told

-- what drive answers: its moves, or the number of its refusal
pub data Moved : Type 0 where
  Two : Move → Move → Moved
  One : Move → Moved
  Refused : ℕ → Moved

pub data Row : Type 0 where
  -- fresh with these hard limits; then each byte is taken, and all that waits is drawn: refusals, strokes, and what look sees at the end
  taken : Rect → String → List Out → Row
  -- bytes with nothing drawn; then all that waits is drawn, and one draw more; then bytes as above
  undrawn : String → String → List Out → Row
  -- the number of fresh, and what its machine makes of bytes
  started : Rect → ℕ → String → List Out → Row
  -- bytes as above: a text, `1,0,` a hundred and nine times, and a text
  filled : String → String → List Out → Row
  -- how many segments wait after bytes with nothing drawn
  waits : String → ℕ → Row
  -- feed after feed, each with the machine that the one before it left
  feeds : List Lent → List Fed → Row
  -- a stroke and a pitch code
  moved : Stroke → ℕ → Moved → Row
  -- calls one by one, what they answer, and what look sees at the end
  called : List Call → List Told → Row
  -- bytes as in the first, and the line type of each segment that they leave to be drawn
  typed : Rect → String → List LineType → Row

-- what a row is compared by
pub data RowAnswer : Type 0 where
  outs : List Out → RowAnswer
  numbered : ℕ → List Out → RowAnswer
  many : ℕ → RowAnswer
  fed_as : List Fed → RowAnswer
  moved_as : Moved → RowAnswer
  told_as : List Told → RowAnswer
  typed_as : List LineType → RowAnswer

abbrev pub minus : ℕ → ℤ
minus n = neg_ℤ (pos n)

-- the hard limits of the program strokes, and of every row that names none
abbrev pub wide : Rect
wide = rect (minus 10000) (minus 7000) (pos 10000) (pos 7000)

-- ---- what the definitions answer

-- the points between the two texts of `filled`
unfoldable pub points : ℕ → List ℕ
points zero = []
points (suc n) = bytes "1,0," ++ points n

-- bytes with nothing drawn: the machine after them, and the refusals among them
unfoldable pub after : State → List ℕ → State
after m [] = m
after m (b ∷ bs) = after (take_state m b) bs

unfoldable pub refusals : ℕ → State → List ℕ → List Out
refusals k m [] = []
refusals k m (b ∷ bs) = refusal (take_number m b) (suc k) ++ refusals (suc k) (take_state m b) bs

-- all that waits is drawn, and one draw more; then bytes as usual
unfoldable pub drawn_then : State → List ℕ → List Out
drawn_then m bs = draws (suc (waiting m.work)) m ++ trace_from 0 (drawn_off (suc (waiting m.work)) m) bs

unfoldable pub feed_by : State → Lent → Feed
feed_by m (lent s records) = feed_of m (bytes s) (length records)

unfoldable pub fed_by : Feed → Lent → Fed
fed_by f (lent s records) = fed f.taken (length f.strokes) f.number (laid f.strokes records)

unfoldable pub fed_all : State → List Lent → List Fed
fed_all m [] = []
fed_all m (l ∷ ls) = let f : Feed = feed_by m l in fed_by f l ∷ fed_all f.state ls

unfoldable pub fetched_by : State → List ℕ → Told
fetched_by m buffer = fetched (fetch_number m (length buffer)) (length (fetch_text m (length buffer))) (fetch_out m buffer)

unfoldable pub called_all : State → List Call → List Told
called_all m [] = told (look_values (look_at m)) ∷ []
called_all m (held s ∷ cs) = map told (refusals 0 m (bytes s)) ++ called_all (after m (bytes s)) cs
called_all m (fetch s ∷ cs) = fetched_by m (bytes s) ∷ called_all (fetch_state m (length (bytes s))) cs
called_all m (draw ∷ cs) = told (drawn_values (draw_answer m)) ∷ called_all (draw_state m) cs
called_all m (feed l ∷ cs) = let f : Feed = feed_by m l in gave (fed_by f l) ∷ called_all f.state cs

-- the moves that `Gives` asks for; there are no others (`moves-given`)
unfoldable pub moves_of : Answer → Moved
moves_of (travel_paint u v) = Two (Travel (place_of u)) (Paint (place_of v))
moves_of (one_dot u) = One (Dot (place_of u))
moves_of (noMove n) = Refused n

-- an answer of drive as a row has it
unfoldable pub moved_by : Result Moves Refusal → Moved
moved_by (Ok (moves.Two a b)) = Two a b
moved_by (Ok (moves.One a)) = One a
moved_by (Err why) = Refused (number_of why)

pub moves-given : (r : Result Moves Refusal) (a : Answer) → Gives r a → moved_by r ≡ moves_of a
unfolding moved_by moves_of
moves-given r (travel_paint u v) h = ap moved_by h.0
moves-given r (one_dot u) h = ap moved_by h.0
moves-given r (noMove n) h = ap moved_by h.1 ∙ ap Refused h.2

-- a row loses nothing of an answer: two answers that a row has alike are one
pub moved-once : (r q : Result Moves Refusal) → moved_by r ≡ moved_by q → r ≡ q
unfolding moved_by
moved-once r q e = sym (back r) ∙ ap of_row e ∙ back q
  where
    of_row : Moved → Result Moves Refusal
    of_row (Two a b) = Ok (moves.Two a b)
    of_row (One a) = Ok (moves.One a)
    of_row (Refused n) = Err (cond (n == bad_pitch) Pitch End)

    back : (p : Result Moves Refusal) → of_row (moved_by p) ≡ p
    back (Ok (moves.Two a b)) = refl
    back (Ok (moves.One a)) = refl
    back (Err Pitch) = refl
    back (Err End) = refl

-- the types of a queue's segments, by their located ends; and after each byte, where all is drawn before the next
unfoldable pub types_in : Rect → List ExactSegment → List LineType
types_in r [] = []
types_in r (g ∷ gs) = type_of r g.start g.end ∷ types_in r gs

unfoldable pub types_from : Model → List ℕ → List LineType
types_from p [] = []
types_from p (b ∷ bs) =
    let q : Model = take_model p b in
    types_in (limits q.core.settings) q.queue ++ types_from (record { reader = q.reader; core = q.core; polygon = q.polygon; queue = []; reply = no_reply }) bs

unfoldable pub answered : Row → RowAnswer
answered (taken r s os) = outs (trace r s)
answered (undrawn s t os) = outs (refusals 0 (fresh_state wide) (bytes s) ++ drawn_then (after (fresh_state wide) (bytes s)) (bytes t))
answered (started r n s os) = numbered (fresh_number r) (trace r s)
answered (filled s t os) = outs (trace_from 0 (fresh_state wide) (bytes s ++ (points 109 ++ bytes t)))
answered (waits s n) = many (waiting (after (fresh_state wide) (bytes s)).work)
answered (feeds calls fs) = fed_as (fed_all (fresh_state wide) calls)
answered (moved s c m) = moved_as (moves_of (answer_of s c))
answered (called cs ts) = told_as (called_all (fresh_state wide) cs)
answered (typed r s ts) = typed_as (types_from (fresh_model (hard_limits r)) (bytes s))

unfoldable pub all_answered : List Row → List RowAnswer
all_answered [] = []
all_answered (r ∷ rs) = answered r ∷ all_answered rs

-- ---- what the table says

unfoldable pub said : Row → RowAnswer
said (taken r s os) = outs os
said (undrawn s t os) = outs os
said (started r n s os) = numbered n os
said (filled s t os) = outs os
said (waits s n) = many n
said (feeds calls fs) = fed_as fs
said (moved s c m) = moved_as m
said (called cs ts) = told_as ts
said (typed r s ts) = typed_as ts

unfoldable pub all_said : List Row → List RowAnswer
all_said [] = []
all_said (r ∷ rs) = said r ∷ all_said rs
