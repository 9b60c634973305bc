-- It calls itself for what stands before the last four digits: the number grows less.
use Rattle.decimals.proofs.+put_decimal.Given as goal

abbrev pub decreases-put_decimal : goal.decreases-put_decimal
decreases-put_decimal l = l.n
