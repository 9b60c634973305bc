-- What each byte means: a table with a row for each mode of the reader and a column for each class of byte.
--   quiet_of r m      the byte means nothing yet, and the reader goes on in mode m
--   refuse_of r m n   the byte is refused with n, and the reader goes on in mode m
--   open_of r n       the number n is open
--   end_of r m        the instruction ends, and the reader goes on in mode m
--   close_of r m      the open number ends and, if m is outside the instruction, so does that; the reader goes on in mode m
use Rattle.std.specs.Prelude.{ℕ, false, cond, ℤ, eqb, Option, None, Some}
use Rattle.numerals.specs.declared.bytes.Class.{Class}
use Rattle.numerals.specs.declared.bytes.Class.TheVariants.{Blank, Semicolon, Letter, Digit, Sign, Point, Other}
use Rattle.reader.specs.declared.Coordinates.{Coordinates}
use Rattle.reader.specs.declared.Event.TheVariants.{Pair, Ended}
use Rattle.reader.specs.declared.Closed.{Closed}
use Rattle.reader.specs.declared.Closed.TheVariants.{Kept, Complete, Faulty}
use Rattle.reader.specs.declared.Mode.{Mode}
use Rattle.reader.specs.declared.Mode.TheVariants.{Idle, First, Parameters, InNumber, PassOver, Label}
use Rattle.reader.specs.declared.Reader.{Reader}
use Rattle.reader.specs.declared.Step.{Step}
use Rattle.reader.specs.Reader.{unknown, wrong_count, out_of_range, label_end, none_of, stored_of, pair_of, go_on_of, quiet_of, refuse_of, begin_of, open_of, with_numbers}
use Rattle.numerals.specs.Bytes.{class_of}
use Rattle.numerals.specs.Number.{start_of, point_of, digit_of, finish_of}
use Rattle.mnemonics.specs.Table.{find_of, count_fits, takes_pairs, has_room, is_label}
use Rattle.reader.specs.Inside.{inside}

-- The second letter of a name: "an unknown name [is refused] with 1 on its second letter; LB is refused with 1 on its B".
unfoldable pub found_of : Reader → Option ℕ → Step
found_of r (Some op) = begin_of r op
found_of r None = refuse_of r PassOver unknown

unfoldable pub name_of : Reader → ℕ → ℕ → Step
name_of r a b = cond (is_label a b) (refuse_of r Label unknown) (found_of r (find_of a b))

-- An open number ends. First it is judged by itself; then whether it is one too many; then it is kept, or completes a pair.
unfoldable pub kept_of : Reader → ℤ → Closed
kept_of r v =
    cond (has_room r.op r.numbers.count)
    (cond (takes_pairs r.op)
    (cond (eqb r.numbers.count 1) (Complete (pair_of r.numbers v)) (Kept (stored_of r.numbers v)))
    (Kept (stored_of r.numbers v)))
    (Faulty wrong_count)

unfoldable pub judged_of : Reader → Option ℤ → Closed
judged_of r (Some v) = kept_of r v
judged_of r None = Faulty out_of_range

unfoldable pub closed_of : Reader → Closed
closed_of r = judged_of r (finish_of r.number)

-- An instruction ends, and the reader goes on in mode m.
unfoldable pub end_of : Reader → Mode → Step
end_of r m =
    cond (count_fits r.op r.numbers.count) (go_on_of r m (Ended r.op r.numbers)) (refuse_of r m wrong_count)

-- A pair is complete, and no number of it is kept.
unfoldable pub complete_of : Reader → Mode → Coordinates → Step
complete_of r m p = go_on_of (with_numbers r none_of) m (Pair p)

-- "After a refusal the rest is passed over": the rest of an instruction that is being read. A byte that ended it has done so,
-- and the text of LB stays a text.
unfoldable pub passed_mode : Mode → Mode
passed_mode m = cond (inside m) PassOver m

-- "It ends at a blank, semicolon or letter": the mode that such a byte leads to. Others do not end a number.
unfoldable pub ending_of : Class → Mode
ending_of Blank = Parameters
ending_of Semicolon = Idle
ending_of (Letter l) = First l
ending_of (Digit d) = InNumber
ending_of (Sign s) = InNumber
ending_of Point = InNumber
ending_of Other = InNumber

-- A number has been kept: its instruction goes on, or the byte that leads out of it ends it.
unfoldable pub after_number_of : Reader → Mode → Step
after_number_of r m = cond (inside m) (quiet_of r m) (end_of r m)

-- The open number ends, on a byte that leads to mode m. A pair that is completed leaves no number, so nothing more is due.
unfoldable pub close_with : Reader → Mode → Closed → Step
close_with r m (Kept ns) = after_number_of (with_numbers r ns) m
close_with r m (Complete p) = complete_of r m p
close_with r m (Faulty n) = refuse_of r (passed_mode m) n

unfoldable pub close_of : Reader → Mode → Step
close_of r m = close_with r m (closed_of r)

-- Between instructions.
unfoldable pub idle_of : Reader → Class → Step
idle_of r Blank = quiet_of r Idle
idle_of r Semicolon = quiet_of r Idle
idle_of r (Letter l) = quiet_of r (First l)
idle_of r (Digit d) = refuse_of r PassOver unknown
idle_of r (Sign s) = refuse_of r PassOver unknown
idle_of r Point = refuse_of r PassOver unknown
idle_of r Other = refuse_of r PassOver unknown

-- After a first letter a.
unfoldable pub first_of : Reader → ℕ → Class → Step
first_of r a Blank = refuse_of r PassOver unknown
first_of r a Semicolon = refuse_of r Idle unknown
first_of r a (Letter b) = name_of r a b
first_of r a (Digit d) = refuse_of r PassOver unknown
first_of r a (Sign s) = refuse_of r PassOver unknown
first_of r a Point = refuse_of r PassOver unknown
first_of r a Other = refuse_of r PassOver unknown

-- In an instruction, with no number open.
unfoldable pub parameters_of : Reader → Class → Step
parameters_of r Blank = quiet_of r Parameters
parameters_of r Semicolon = end_of r Idle
parameters_of r (Letter l) = end_of r (First l)
parameters_of r (Digit d) = open_of r (digit_of (start_of false) d)
parameters_of r (Sign s) = open_of r (start_of s)
parameters_of r Point = open_of r (point_of (start_of false))
parameters_of r Other = refuse_of r PassOver unknown

-- In an instruction, with a number open.
unfoldable pub in_number_of : Reader → Class → Step
in_number_of r Blank = close_of r (ending_of Blank)
in_number_of r Semicolon = close_of r (ending_of Semicolon)
in_number_of r (Letter l) = close_of r (ending_of (Letter l))
in_number_of r (Digit d) = open_of r (digit_of r.number d)
in_number_of r (Sign s) = refuse_of r PassOver out_of_range
in_number_of r Point = cond r.number.pointed (refuse_of r PassOver out_of_range) (open_of r (point_of r.number))
in_number_of r Other = refuse_of r PassOver unknown

-- "After a refusal the rest is passed over up to a semicolon or letter, which plays its usual part."
unfoldable pub pass_over_of : Reader → Class → Step
pass_over_of r Blank = quiet_of r PassOver
pass_over_of r Semicolon = quiet_of r Idle
pass_over_of r (Letter l) = quiet_of r (First l)
pass_over_of r (Digit d) = quiet_of r PassOver
pass_over_of r (Sign s) = quiet_of r PassOver
pass_over_of r Point = quiet_of r PassOver
pass_over_of r Other = quiet_of r PassOver

-- In a label's text only byte 3 counts.
unfoldable pub label_of : Reader → ℕ → Step
label_of r b = cond (eqb b label_end) (quiet_of r Idle) (quiet_of r Label)

unfoldable pub by_mode : Reader → ℕ → Mode → Step
by_mode r b Idle = idle_of r (class_of b)
by_mode r b (First a) = first_of r a (class_of b)
by_mode r b Parameters = parameters_of r (class_of b)
by_mode r b InNumber = in_number_of r (class_of b)
by_mode r b PassOver = pass_over_of r (class_of b)
by_mode r b Label = label_of r b

-- One byte.
unfoldable pub step_of : Reader → ℕ → Step
step_of r b = by_mode r b r.mode

-- Where a refusal leaves the reader, whoever refuses. One of its own has its mode already.
unfoldable pub passed_over : Reader → Reader
passed_over r = record { mode = passed_mode r.mode; op = r.op; numbers = r.numbers; number = r.number }
