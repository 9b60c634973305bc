-- The proof of `arc_fits`: the quick answer is right where it is yes.
use mathlib.Core.Path.{◌≡◌, sym, ap, ◌∙◌}
use native.Mathlib.Omega.{arith}
use lib.IntN.{ℤ}
use mir.Syntax.{w64}
use Rattle.exact.specs.Fit.{arg, val, sized}
use Rattle.plane.specs.Arc.{parts_of, fits_from, arc_fits}
use Rattle.plane.proofs.ArcLaws.{parts-few, round-fits}
use Rattle.placing.proofs.arc.arc_fits.Goals as goal
use Rattle.placing.proofs.arc.arc_fits.Lts
use Rattle.placing.proofs.arc.arc_fits.Tie
use Rattle.placing.proofs.arc.arc_fits.Reads

abbrev After-parts : Type 0
After-parts = Lts.After-parts Tie.the-claims Reads.Pre Reads.Post

pub returns-then-round_fits : goal.returns-then-round_fits
unfolding arc_fits
returns-then-round_fits c =
    let x = c.args in
    c.if-round_fits.true ∙ sym (round-fits x.cx x.cy x.w x.sweep x.angle 1 (parts_of x.sweep x.angle) c.requires.0.some c.requires.1.some (sym c.round_fits.ensures ∙ c.if-round_fits.true))

-- how many there are
count : (c : After-parts) → let s = c.before.before.before.before in c.parts.result ≡ parts_of c.args.sweep c.args.angle
count c = c.parts.ensures ∙ ap (λ (x : ℤ). parts_of x c.args.angle) (arg w64 c.ranges.sweep).is

pub each_fits-requires : goal.each_fits-requires
each_fits-requires c =
    let b = val w64 c.requires.4 tt in
    (c.requires.0, c.requires.1, c.requires.2, c.requires.3, sized b tt, c.requires.5, c.requires.6, omega (arith, count c.before, parts-few c.args.sweep c.args.angle c.requires.5, c.requires.4.bd))

pub returns-else-round_fits : goal.returns-else-round_fits
unfolding arc_fits
returns-else-round_fits c =
    let p = c.before.before in
    let x = c.args in
    c.each_fits.ensures ∙ (λ i. fits_from x.cx x.cy x.w ((arg w64 c.ranges.sweep).is i) x.angle 1 (count p i))
