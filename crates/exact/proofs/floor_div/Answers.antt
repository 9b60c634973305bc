-- The proof of `floor_div`: mirrored where it is below 0, the number is divided as one that is not, and its quotient mirrored back.
use borrow.Author.Rules.{rules}
use mathlib.Core.Path.{◌≡◌, ap, ap₂, ◌∙◌}
use lib.IntN.{ℤ, pos}
use lib.Signed.{lt_z}
use mir.Syntax.{w64}
use Rattle.exact.specs.Fit.{Num, m64, arg, put, fit, ret, got, bits_pos, ◌⊘◌}
use Rattle.exact.specs.Steps.{mirrored_of, floor-mirrored, mirror-size, not-zero}
use Rattle.exact.proofs.floor_div.Goals as goal
use Rattle.exact.proofs.floor_div.Goals.{After-mirrored, Start}

sign : (s : Start) → lt_z (m64 s.args.a) (pos 0) ≡ lt_z s.args.a (pos 0)
sign s = ap (λ (x : ℤ). lt_z x (pos 0)) (arg w64 s.ranges.a).is

image : (c : After-mirrored) → Num (m64 c.mirrored.result) (mirrored_of (lt_z c.before.args.a (pos 0)) c.before.args.a) 9223372036854775807
image c =
    let s = c.before in
    ret w64 c.mirrored.type_inv (c.mirrored.ensures ∙ ap₂ mirrored_of (sign s) (arg w64 s.ranges.a).is) (mirror-size s.args.a s.ranges.a)

pub mirrored-requires : goal.mirrored-requires
mirrored-requires c = search rules

pub nonzero_div-mirrored : goal.nonzero_div-mirrored
nonzero_div-mirrored c = let s = c.before in (bits_pos s.ranges.b (not-zero s.requires), fit w64 (image c ⊘ arg w64 s.ranges.b) tt)

pub mirrored-requires-2 : goal.mirrored-requires-2
mirrored-requires-2 c = search rules

pub returns : goal.returns
returns c =
    let s : Start = search in
    let i : After-mirrored = search in
    got w64 c.mirrored-2.type_inv ∙ c.mirrored-2.ensures ∙ ap₂ mirrored_of (sign s) (put w64 (image i ⊘ arg w64 s.ranges.b) tt).is ∙ floor-mirrored s.args.a s.args.b s.requires
