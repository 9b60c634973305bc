-- What a list of bytes comes to: the first event in it that is more than Nothing, or none.
use Rattle.std.specs.Prelude.{ℕ, ◌+◌, ◌≡◌, Bool, true, false, cond, List, [], ◌∷◌, eqb, Option, None, Some}
use Rattle.reader.specs.declared.Event.{Event}
use Rattle.reader.specs.declared.Event.TheVariants.{Nothing, Named, Pair, Ended, Refused}
use Rattle.reader.specs.declared.Mode.{Mode}
use Rattle.reader.specs.declared.Mode.TheVariants.{Idle, First, Parameters, InNumber, PassOver, Label}
use Rattle.reader.specs.declared.Reader.{Reader}
use Rattle.reader.specs.declared.Step.{Step}
use Rattle.reader.specs.declared.Next.{Next}
use Rattle.numerals.specs.Bytes.{is_digit}
use Rattle.numerals.specs.declared.number.Number.{Number}
use Rattle.mnemonics.specs.Table.{takes_pairs}
use Rattle.reader.specs.declared.Coordinates.{Coordinates}
use Rattle.reader.specs.Reader.{none_of}
use Rattle.reader.specs.Step.{step_of}

unfoldable pub is_nothing : Event → Bool
is_nothing Nothing = true
is_nothing (Named op) = false
is_nothing (Pair p) = false
is_nothing (Ended op ns) = false
is_nothing (Refused n) = false

-- A step and the place after its byte.
abbrev pub placed : Step → ℕ → Next
placed s at = record { reader = s.reader; event = s.event; at = at }

-- The bytes from a place on, up to the first that means something, or the end.
unfoldable pub next_of : Reader → List ℕ → ℕ → Next
next_of r [] at = record { reader = r; event = Nothing; at = at }
next_of r (b ∷ bs) at =
    cond (is_nothing (step_of r b).event) (next_of (step_of r b).reader bs (at + 1)) (placed (step_of r b) (at + 1))

-- Whether a byte is one more digit of an open number.
unfoldable pub more_digits : Mode → ℕ → Bool
more_digits Idle b = false
more_digits (First l) b = false
more_digits Parameters b = false
more_digits InNumber b = is_digit b
more_digits PassOver b = false
more_digits Label b = false

-- Whether a mode is in an instruction with no number open.
unfoldable pub in_parameters : Mode → Bool
in_parameters Idle = false
in_parameters (First l) = false
in_parameters Parameters = true
in_parameters InNumber = false
in_parameters PassOver = false
in_parameters Label = false

-- Whether a pair may begin: in an instruction that takes pairs, with no number of one.
unfoldable pub awaits_pair : Reader → Bool
awaits_pair r = cond (in_parameters r.mode) (cond (takes_pairs r.op) (eqb r.numbers.count 0) false) false

-- After a pair p whose last number is n.
unfoldable pub paired_of : Reader → Mode → Number → Coordinates → ℕ → Next
paired_of r m n p at = record { reader = record { mode = m; op = r.op; numbers = none_of; number = n }; event = Pair p; at = at }

-- What is told of bytes ahead: a pair is what they come to; where none is known yet, they may come to anything.
unfoldable pub ReadAhead : Reader → List ℕ → ℕ → Option Next → Type 0
ReadAhead r bs at (Some q) = q ≡ next_of r bs at
ReadAhead r bs at None = Unit {0}
