-- A drawing byte by byte: each byte is taken, a refused one is noted, the segments that it leaves waiting are drawn and counted, and a reply is fetched and counted.
use Rattle.std.specs.Prelude.{Bool, true, false, cond, List, [], ◌∷◌, ℕ, zero, suc, ◌+◌, ◌-◌, ◌*◌, eqb, ltb, ℤ, pos, nat_abs, length, get_or, take, drop}
use Prim.Native.Char.{code}
use Rattle.reader.specs.Reader.{unknown}
use Rattle.hpgl.specs.declared.State.{State}
use Rattle.hpgl.specs.declared.Segment.{Segment}
use Rattle.hpgl.specs.declared.Segment.TheVariants as segment
use Rattle.hpgl.specs.Machine.{waiting, take_state, take_number, draw_state, draw_answer, fetch_state, fetch_text}
use Rattle.feeding.specs.DrawOff.{untaken}
use Rattle.hpgl.specs.Segment.{segment_of}
use Rattle.console.specs.Sums.{added}
use Rattle.counting.specs.declared.names.Letters.{Letters}
use Rattle.counting.specs.declared.refusals.Refusals.{Refusals}
use Rattle.counting.specs.declared.tally.Tally.{Tally}
use Rattle.surveying.specs.declared.Surveyed.{Surveyed}
use Rattle.surveying.specs.States.{DrawingAt, PaintedAt, RepliedAt, WatchedAt}
use Rattle.inking.specs.Inked.{inked_state}
use Rattle.scanning.specs.declared.Types.{Types}
use Rattle.scanning.specs.Escapes.{belongs, no_escapes, escapes_in, broken_at_end}
use Rattle.scanning.specs.Pieces.{mode_after, piece_of}
use Rattle.repeats.specs.Repeats.{told_of}
use Rattle.counting.specs.Tally.{nothing_of, counted_of}
use Rattle.counting.specs.Verdict.{segments_of}
use Rattle.counting.specs.Names.{unnamed, escaped, letters_before, name_of}
use Rattle.counting.specs.Refusals.{none_of, noted_of, noted_all}

unfoldable pub waits_of : Segment → Bool
waits_of segment.Nothing = false
waits_of segment.PenUp = true
waits_of (segment.Line a b) = true

-- k segments wait: each is drawn, and counted
unfoldable pub drawn_off : ℕ → State → Tally → PaintedAt
drawn_off zero m t = record { machine = record { state = m }; tally = t }
drawn_off (suc k) m t = drawn_off k (draw_state m) (counted_of t (segment_of m) (draw_answer m))

-- a reply that waits is fetched, into a buffer that takes every one, and counted (document 02, CR 5)
abbrev pub reply_bytes : ℕ
reply_bytes = 37

unfoldable pub fetched_off : State → ℕ → RepliedAt
fetched_off m n = record { machine = record { state = fetch_state m reply_bytes }; replies = cond (eqb (length (fetch_text m reply_bytes)) 0) n (added n 1) }

-- of the number of a run's last byte: "While a reply waits a byte is refused with 20", and it comes again
unfoldable pub judged_of : ℕ → ℕ
judged_of n = cond (untaken n) 0 n

-- a refused byte is noted with its name, and its place counted from 1
unfoldable pub refused_at : Refusals → Letters → Letters → ℕ → List ℕ → ℕ → ℕ → Refusals
refused_at r letters nobody before block at number = noted_of r number (name_of letters nobody block at number) (added before at)

unfoldable pub refusals_after : DrawingAt → List ℕ → ℕ → ℕ → Refusals
refusals_after d block at number = cond (eqb number 0) d.refusals (refused_at d.refusals d.letters d.nobody d.before block at number)

-- what was drawn, and then fetched
abbrev pub drawing : Tally → RepliedAt → ℕ → Letters → Letters → Refusals → DrawingAt
drawing t f before letters nobody refusals = record { machine = f.machine; before = before; letters = letters; nobody = nobody; tally = t; refusals = refusals; replies = f.replies }

-- the machine has come to m by bytes before the place `at`, the last of which has this number; what waits is drawn or fetched
unfoldable pub went_on : DrawingAt → List ℕ → State → ℕ → ℕ → DrawingAt
went_on d block m at number =
    let p : PaintedAt = drawn_off (waiting m.work) m d.tally in
    drawing p.tally (fetched_off p.machine.state d.replies) d.before d.letters d.nobody (refusals_after d block at number)

-- the bytes of a block from the place `at` on, one by one
unfoldable pub bytes_from : DrawingAt → List ℕ → List ℕ → ℕ → DrawingAt
bytes_from d block [] at = d
bytes_from d block (b ∷ bs) at =
    bytes_from (went_on d block (take_state d.machine.state b) (at + 1) (take_number d.machine.state b)) block bs (at + 1)

-- so far in a block: another machine, and other counts
abbrev pub gone_to : DrawingAt → State → Tally → Refusals → ℕ → DrawingAt
gone_to d m t r n = record { machine = record { state = m }; before = d.before; letters = d.letters; nobody = d.nobody; tally = t; refusals = r; replies = n }

-- the next block begins after this one
abbrev pub ended_of : DrawingAt → List ℕ → DrawingAt
ended_of d block = record {
  machine = d.machine;
  before = added d.before (length block);
  letters = letters_before d.letters block (length block);
  nobody = d.nobody;
  tally = d.tally;
  refusals = d.refusals;
  replies = d.replies;
}

unfoldable pub block_of : DrawingAt → List ℕ → DrawingAt
block_of d block = ended_of (bytes_from d block block 0) block

-- the last instruction is open: with one more semicolon something would be painted or refused
unfoldable pub open_end : State → Bool
open_end m = cond (eqb (take_number m (code ";")) 0) (waits_of (segment_of (take_state m (code ";")))) true

-- ---- lines that pen 0 loses: what the same bytes would draw with a pen in hand. It is asked piece by piece, as within a piece no other pen is taken

-- the drawing with pen 1 in hand, and nothing counted
abbrev pub with_pen : DrawingAt → DrawingAt
with_pen d = record { machine = record { state = inked_state d.machine.state }; before = d.before; letters = d.letters; nobody = d.nobody; tally = nothing_of; refusals = none_of; replies = 0 }

unfoldable pub lost_in : DrawingAt → List ℕ → ℕ
lost_in d piece = cond (eqb d.machine.state.core.carriage.pen.number 0) (segments_of (block_of (with_pen d) piece).tally) 0

-- from which byte on there was no pen when the first line was lost
unfoldable pub first_of : ℕ → ℕ → ℕ → ℕ → ℕ
first_of lost first more place = cond (ltb 0 lost) first (cond (ltb 0 more) place first)

-- what a byte of a piece is called that belongs to no name, by its first one (all bytes of a piece belong to an escape sequence, or none does)
unfoldable pub byte_name : ℕ → List ℕ → Letters
byte_name escape piece = cond (eqb (length piece) 0) unnamed (cond (belongs escape (get_or piece 0 0)) escaped unnamed)

abbrev pub entered_of : DrawingAt → Letters → DrawingAt
entered_of d nobody = record { machine = d.machine; before = d.before; letters = d.letters; nobody = nobody; tally = d.tally; refusals = d.refusals; replies = d.replies }

abbrev pub enter : WatchedAt → List ℕ → DrawingAt
enter w piece = entered_of w.drawing (byte_name w.escapes.state piece)

unfoldable pub last_of : List ℕ → ℕ
last_of piece = cond (eqb (length piece) 0) 0 (get_or piece (length piece - 1) 0)

unfoldable pub piece_done : WatchedAt → List ℕ → WatchedAt
piece_done w piece = record {
  drawing = block_of (enter w piece) piece;
  mode = mode_after w.mode (last_of piece);
  escapes = escapes_in w.escapes piece;
  lost = added w.lost (lost_in (enter w piece) piece);
  first = first_of w.lost w.first (lost_in (enter w piece) piece) (added w.drawing.before 1);
}

-- piece by piece, so many at most
unfoldable pub watched_from : ℕ → WatchedAt → List ℕ → WatchedAt
watched_from zero w bytes = w
watched_from (suc k) w [] = w
watched_from (suc k) w (b ∷ bs) = let n = piece_of w.mode w.escapes.state (b ∷ bs) in watched_from k (piece_done w (take n (b ∷ bs))) (drop n (b ∷ bs))

-- no piece is empty, so that a block has no more pieces than bytes
unfoldable pub watched_of : WatchedAt → List ℕ → WatchedAt
watched_of w block = watched_from (length block) w block

-- nothing is read yet
abbrev pub begun_of : State → WatchedAt
begun_of m = record {
  drawing = record { machine = record { state = m }; before = 0; letters = unnamed; nobody = unnamed; tally = nothing_of; refusals = none_of; replies = 0 };
  mode = 0;
  escapes = no_escapes;
  lost = 0;
  first = 0;
}

-- with the lines that are kept of all strokes
unfoldable pub finished_of : WatchedAt → Types → Bool → List ℤ → Surveyed
finished_of w types unread lines = record {
  tally = w.drawing.tally;
  repeats = told_of lines;
  refusals = w.drawing.refusals;
  broken = broken_at_end w.escapes;
  replies = w.drawing.replies;
  types = types.count;
  lost = w.lost;
  first = w.first;
  unended = open_end w.drawing.machine.state;
  unread = unread;
}

-- ---- bytes without letters, a stretch at a time

-- so many bytes at most, with a record of five numbers for each
abbrev pub stretch : ℕ
stretch = 256

abbrev pub stretch_numbers : ℕ
stretch_numbers = stretch * 5

-- the places of the first n records, of which the third number is the place in the block
unfoldable pub places_of : ℕ → List ℤ → ℕ → List ℕ
places_of before numbers zero = []
places_of before numbers (suc n) = added before (nat_abs (get_or numbers 2 (pos 0))) ∷ places_of before (drop 5 numbers) n

-- no letter, nobody's name
unfoldable pub unnamed_in : Refusals → Letters → ℕ → List ℤ → ℕ → Refusals
unnamed_in r nobody before numbers n = noted_all r unknown nobody (places_of before numbers n)
