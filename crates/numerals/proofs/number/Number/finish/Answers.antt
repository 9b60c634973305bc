-- A magnitude that passed the test of the range may be signed.
use Rattle.std.proofs.Common.{arith}
use Rattle.numerals.proofs.NumeralLaws.{largest-le}
use Rattle.numerals.proofs.number.Number.finish.Goals as goal

pub signed-requires : goal.signed-requires
signed-requires c = omega (arith, c.largest.ensures, largest-le c.args.self.negative)
