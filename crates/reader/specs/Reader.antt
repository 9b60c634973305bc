-- The reader's parts and the small steps that Step is made of. No rule of document 01 but the numbers of its causes.
use Rattle.std.specs.Prelude.{ℕ, false, cond, ℤ, pos, eqb}
use Rattle.numerals.specs.declared.number.Number.{Number}
use Rattle.reader.specs.declared.Coordinates.{Coordinates}
use Rattle.reader.specs.declared.Numbers.{Numbers}
use Rattle.reader.specs.declared.Event.{Event}
use Rattle.reader.specs.declared.Event.TheVariants.{Nothing, Named, Pair, Ended, Refused}
use Rattle.reader.specs.declared.Mode.{Mode}
use Rattle.reader.specs.declared.Mode.TheVariants.{Idle, Parameters, InNumber}
use Rattle.reader.specs.declared.Reader.{Reader}
use Rattle.reader.specs.declared.Step.{Step}
use Rattle.numerals.specs.Number.{start_of}
use Rattle.mnemonics.specs.Table.{IN}

-- The causes of a refusal that the reader finds, by "Causes and numbers": unknown byte or name, number with no instruction; count of numbers;
-- number out of range. The rules of the machine refuse with the first and the last too.
abbrev pub unknown : ℕ
unknown = 1

abbrev pub wrong_count : ℕ
wrong_count = 2

abbrev pub out_of_range : ℕ
out_of_range = 3

-- The number that is returned for a byte: 0 for none.
unfoldable pub event_number : Event → ℕ
event_number Nothing = 0
event_number (Named op) = 0
event_number (Pair p) = 0
event_number (Ended op ns) = 0
event_number (Refused n) = n

-- A label's text ends with this byte.
abbrev pub label_end : ℕ
label_end = 3

unfoldable pub none_of : Numbers
none_of = record { count = 0; first = pos 0; second = pos 0; third = pos 0; fourth = pos 0 }

-- The numbers with one more, at the place that their count says.
unfoldable pub stored_of : Numbers → ℤ → Numbers
stored_of n v =
    cond (eqb n.count 0) (record { count = 1; first = v; second = n.second; third = n.third; fourth = n.fourth })
    (cond (eqb n.count 1) (record { count = 2; first = n.first; second = v; third = n.third; fourth = n.fourth })
    (cond (eqb n.count 2) (record { count = 3; first = n.first; second = n.second; third = v; fourth = n.fourth })
    (record { count = 4; first = n.first; second = n.second; third = n.third; fourth = v })))

-- The first number of an open pair, and the one that completes it.
unfoldable pub pair_of : Numbers → ℤ → Coordinates
pair_of n v = record { x = n.first; y = v }

-- Between instructions, before any byte.
unfoldable pub fresh_reader : Reader
fresh_reader = record { mode = Idle; op = IN; numbers = none_of; number = start_of false }

-- The reader in another mode, and what the byte means.
unfoldable pub go_on_of : Reader → Mode → Event → Step
go_on_of r m e = record { reader = record { mode = m; op = r.op; numbers = r.numbers; number = r.number }; event = e }

unfoldable pub quiet_of : Reader → Mode → Step
quiet_of r m = go_on_of r m Nothing

unfoldable pub refuse_of : Reader → Mode → ℕ → Step
refuse_of r m n = go_on_of r m (Refused n)

-- An instruction begins, and has no numbers yet.
unfoldable pub begin_of : Reader → ℕ → Step
begin_of r op = record { reader = record { mode = Parameters; op = op; numbers = none_of; number = r.number }; event = Named op }

-- A number is open.
unfoldable pub open_of : Reader → Number → Step
open_of r n = record { reader = record { mode = InNumber; op = r.op; numbers = r.numbers; number = n }; event = Nothing }

unfoldable pub with_numbers : Reader → Numbers → Reader
with_numbers r ns = record { mode = r.mode; op = r.op; numbers = ns; number = r.number }
