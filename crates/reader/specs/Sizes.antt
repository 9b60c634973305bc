-- What holds of a reader that its calls have left, and of every event. That it holds stands in Laws.
use Rattle.std.specs.Prelude.{◌≡◌, Bool, true, ◌&&◌, ℕ, ◌+◌, ◌*◌, ◌≤◌, ◌<◌, T, leb}
use Rattle.exact.specs.Fit.{Bd}
use Rattle.reader.specs.declared.Coordinates.{Coordinates}
use Rattle.reader.specs.declared.Numbers.{Numbers}
use Rattle.reader.specs.declared.Event.{Event}
use Rattle.reader.specs.declared.Event.TheVariants.{Nothing, Named, Pair, Ended, Refused}
use Rattle.reader.specs.declared.Mode.{Mode}
use Rattle.reader.specs.declared.Mode.TheVariants.{Idle, First, Parameters, InNumber, PassOver, Label}
use Rattle.numerals.specs.declared.number.Number.{Number}
use Rattle.reader.specs.declared.Reader.{Reader}
use Rattle.reader.specs.declared.Step.{Step}
use Rattle.numerals.specs.Number.{above, bottom}
use Rattle.reader.specs.Reader.{unknown, out_of_range}
use Rattle.mnemonics.specs.Table.{rows, count_fits}

-- The reader refuses with 1, 2 or 3, and with no other number.
abbrev pub is_cause : ℕ → Bool
is_cause n = leb unknown n && leb n out_of_range

abbrev pub Caused : Event → Type 0
Caused Nothing = Unit {0}
Caused (Named op) = Unit {0}
Caused (Pair p) = Unit {0}
Caused (Ended op ns) = Unit {0}
Caused (Refused n) = T (is_cause n)

-- The numbers of an instruction: at most four, and none is larger than the range allows.
pub record Small (ns : Numbers) : Type 0 where
  pub count : ns.count ≤ 4
  pub first : Bd ns.first bottom
  pub second : Bd ns.second bottom
  pub third : Bd ns.third bottom
  pub fourth : Bd ns.fourth bottom

-- A first letter is a byte.
abbrev pub SmallMode : Mode → Type 0
SmallMode Idle = Unit {0}
SmallMode (First a) = a ≤ 255
SmallMode Parameters = Unit {0}
SmallMode InNumber = Unit {0}
SmallMode PassOver = Unit {0}
SmallMode Label = Unit {0}

-- A number as it is read: all its digits but the last are in range.
pub record SmallNumber (n : Number) : Type 0 where
  pub decimals : n.decimals ≤ above
  pub magnitude : n.magnitude ≤ bottom * 10 + 9

-- A reader as its calls leave it.
pub record Readable (r : Reader) : Type 0 where
  pub mode : SmallMode r.mode
  pub op : r.op < rows
  pub numbers : Small r.numbers
  pub number : SmallNumber r.number

pub record SmallPair (p : Coordinates) : Type 0 where
  pub x : Bd p.x bottom
  pub y : Bd p.y bottom

-- An instruction that has ended stands in the table, and the table allows the count of its numbers.
pub record Fitting (op : ℕ) (ns : Numbers) : Type 0 where
  pub listed : op < rows
  pub count : count_fits op ns.count ≡ true
  pub numbers : Small ns

-- What holds of an event.
abbrev pub Sized : Event → Type 0
Sized Nothing = Unit {0}
Sized (Named op) = op < rows
Sized (Pair p) = SmallPair p
Sized (Ended op ns) = Fitting op ns
Sized (Refused n) = Unit {0}

pub record SizedStep (s : Step) : Type 0 where
  pub reader : Readable s.reader
  pub event : Sized s.event
