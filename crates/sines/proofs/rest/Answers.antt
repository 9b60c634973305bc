-- The proof of `rest`: the remainder is no less than 0, and the angle's rest.
use Rattle.std.specs.Prelude.{ℤ, pos, nat_abs}
use Rattle.std.proofs.Common.{ap, ◌∙◌, w64}
use Rattle.std.specs.Int.{int_rem_euclid}
use Rattle.exact.specs.Fit.{arg, got}
use Rattle.sines.proofs.Remainder.{rest-euclid}
use Rattle.sines.proofs.rest.Goals as goal

pub returns : goal.returns
returns c =
    ap nat_abs (got w64 c.rem_euclid.type_inv ∙ c.rem_euclid.ensures.value ∙ ap (λ (z : ℤ). int_rem_euclid z (pos 3600)) (arg w64 c.ranges.tenths).is)
    ∙ rest-euclid c.args.tenths
