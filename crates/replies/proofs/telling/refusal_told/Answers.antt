-- The proof of `refusal_told`: the number fits an i64.
use borrow.Author.Rules.{rules}
use mathlib.Core.Path.{◌≡◌}
use Prim.Native.Nat.{◌<◌}
use native.Mathlib.Omega.{arith}
use lib.IntN.{pos}
use mir.Val.{to_z}
use mir.Syntax.{w64}
use Rattle.exact.specs.Fit.{of-nat}
use Rattle.hpgl.specs.Replies.{refusal_told}
use Rattle.replies.proofs.telling.refusal_told.Goals as goal

pub returns : goal.returns
unfolding refusal_told
returns c =
    let k = c.args.c.carriage.memory.refusal in
    let small : k < 256 = search rules in
    let number : to_z w64 k ≡ pos k = of-nat w64 (omega (arith, small)) in
    λ i. record { count = 1; first = number i; second = pos 0; third = pos 0; fourth = pos 0 }
