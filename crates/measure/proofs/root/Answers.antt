-- The library's root, which is below where its square is.
use Prim.Native.Nat.{ℕ, ◌*◌, ◌≤◌, ◌<◌}
use native.Mathlib.Nat.{mul-le-mul}
use native.Mathlib.Omega.{arith}
use Rattle.measure.specs.Root.{most}
use Rattle.measure.proofs.root.Goals as goal

above : (r n : ℕ) → r * r ≤ n → n < most * most → most ≤ r → ⊥
above r n h k l = omega (arith, mul-le-mul l l)

below : (r n : ℕ) → r * r ≤ n → n < most * most → r < most
below r n h k = omega (arith, above r n h k)

pub returns : goal.returns
returns c = (record { low = c.isqrt.ensures.square_le; high = c.isqrt.ensures.next_square_gt }, below _ _ c.isqrt.ensures.square_le c.requires)
