-- What the digits are is what those left are, after those before them.
use Rattle.std.proofs.Common.{◌≡◌, ◌*◌, ◌≤◌, drop}
use Rattle.textlines.specs.Word.{too_large, value_from, digits_of}
use Rattle.textlines.proofs.word.digits_of.Given as goal

abbrev pub invariant-loop-byte : goal.invariant-loop-byte
invariant-loop-byte l =
    (l.n ≤ 10 * too_large) × (digits_of l.minus l.digits ≡ value_from l.minus l.n (drop l.byte-index l.digits))
