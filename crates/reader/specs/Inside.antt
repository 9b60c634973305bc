-- Where the reader is inside an instruction: after its name, and before the byte that ends it or is refused. InsideLaws.antt has what follows.
use Rattle.std.specs.Prelude.{Bool, true, false}
use Rattle.reader.specs.declared.Mode.{Mode}
use Rattle.reader.specs.declared.Mode.TheVariants.{Idle, First, Parameters, InNumber, PassOver, Label}

unfoldable pub inside : Mode → Bool
inside Idle = false
inside (First a) = false
inside Parameters = true
inside InNumber = true
inside PassOver = false
inside Label = false
