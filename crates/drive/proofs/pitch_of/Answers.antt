-- The proof of `pitch_of`: the bit patterns of its constants are computed.
use mathlib.Core.Path.{◌≡◌, refl, sym, ap, ◌∙◌}
use native.Mathlib.Omega.{arith}
use Prim.Native.Nat.{ℕ}
use lib.IntN.{pos}
use lib.Ieee.{binary32, of_bits, round}
use Rattle.drive.specs.Drive.{pitch_of, f32_of}
use Rattle.drive.proofs.pitch_of.Goals as goal

-- 0.125, 0.25, 0.5 and 1
eighth : of_bits binary32 0x3e00_0000 ≡ f32_of (pos (pitch_of 0))
unfolding of_bits f32_of round pitch_of
eighth = refl

quarter : of_bits binary32 0x3e80_0000 ≡ f32_of (pos (pitch_of 1))
unfolding of_bits f32_of round pitch_of
quarter = refl

half : of_bits binary32 0x3f00_0000 ≡ f32_of (pos (pitch_of 2))
unfolding of_bits f32_of round pitch_of
half = refl

one : of_bits binary32 0x3f80_0000 ≡ f32_of (pos (pitch_of 3))
unfolding of_bits f32_of round pitch_of
one = refl

pub returns-in-0 : goal.returns-in-0
returns-in-0 c = eighth ∙ ap (λ (k : ℕ). f32_of (pos (pitch_of k))) (sym c.in-0.is)

pub returns-in-1 : goal.returns-in-1
returns-in-1 c = quarter ∙ ap (λ (k : ℕ). f32_of (pos (pitch_of k))) (sym c.in-1.is)

pub returns-in-2 : goal.returns-in-2
returns-in-2 c = half ∙ ap (λ (k : ℕ). f32_of (pos (pitch_of k))) (sym c.in-2.is)

pub returns-in_default : goal.returns-in_default
returns-in_default c =
    let e : c.args.code ≡ 3 = omega (arith, c.requires) in
    one ∙ ap (λ (k : ℕ). f32_of (pos (pitch_of k))) (sym e)
