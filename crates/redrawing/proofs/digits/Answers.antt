-- By the size of the number.
use mathlib.Core.Path.{sym}
use native.Mathlib.Omega.{arith}
use Rattle.redrawing.specs.RedrawingLaws.{digits_1, digits_2, digits_3, digits_4, digits_5}
use Rattle.redrawing.proofs.digits.Goals as goal

pub returns-then-n-lt10 : goal.returns-then-n-lt10
returns-then-n-lt10 c = sym (digits_1 c.args.n (omega arith))

pub returns-then-n-lt100 : goal.returns-then-n-lt100
returns-then-n-lt100 c = sym (digits_2 c.args.n (omega arith) (omega arith))

pub returns-then-n-lt1000 : goal.returns-then-n-lt1000
returns-then-n-lt1000 c = sym (digits_3 c.args.n (omega arith) (omega arith))

pub returns-then-n-lt10000 : goal.returns-then-n-lt10000
returns-then-n-lt10000 c = sym (digits_4 c.args.n (omega arith) (omega arith))

pub returns : goal.returns
returns c = sym (digits_5 c.args.n (omega arith) (omega (arith, c.requires)))
