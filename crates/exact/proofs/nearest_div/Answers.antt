-- The proof of `nearest_div`: a divisor below 0 hands its sign to the numerator, which changes nothing (`nearest-neg`).
use mathlib.Core.Path.{sym, subst, ap₂, ◌∙◌}
use lib.IntN.{ℤ, pos}
use mir.Syntax.{w64}
use Rattle.exact.specs.Whole.{◌<ᶻ◌, lt_z-true, lt_z-false}
use Rattle.exact.specs.Fit.{arg, val, num, put, fit, sized, lt-is, got, neg}
use Rattle.exact.specs.Divide.{nearest_div}
use Rattle.exact.specs.Nearest.{neg-pos, pos_of}
use Rattle.exact.proofs.NearestLaws.{nearest-neg}
use Rattle.exact.proofs.nearest_div.Goals as goal
use Rattle.exact.proofs.nearest_div.Goals.{Else-d-lt0, Start, Then-d-lt0}

below : (c : Then-d-lt0) → c.before.args.d <ᶻ pos 0
below c = lt_z-true _ _ (lt-is (arg w64 c.before.ranges.d) (num (pos 0)) c.if-d-lt0.true)

above : (c : Else-d-lt0) → pos 0 <ᶻ c.before.args.d
above c = pos_of (lt_z-false _ _ (lt-is (arg w64 c.before.ranges.d) (num (pos 0)) c.if-d-lt0.false)) c.before.requires.1.1

pub overflow_sub-n : goal.overflow_sub-n
overflow_sub-n c = fit w64 (neg (val w64 c.before.requires.0 tt)) tt

pub overflow_sub-d : goal.overflow_sub-d
overflow_sub-d c = fit w64 (neg (val w64 c.before.requires.1.0 tt)) tt

pub nearest_above-requires : goal.nearest_above-requires
nearest_above-requires c =
    let n = put w64 (neg (val w64 c.before.requires.0 tt)) tt in
    let d = put w64 (neg (val w64 c.before.requires.1.0 tt)) tt in
    (sized n tt, (sized d tt, subst (λ (x : ℤ). pos 0 <ᶻ x) (sym d.is) (neg-pos (below c))))

pub returns-then-d-lt0 : goal.returns-then-d-lt0
returns-then-d-lt0 c =
    let s : Start = search in
    let n = put w64 (neg (val w64 s.requires.0 tt)) tt in
    let d = put w64 (neg (val w64 s.requires.1.0 tt)) tt in
    got w64 c.nearest_above.type_inv ∙ c.nearest_above.ensures ∙ ap₂ nearest_div n.is d.is ∙ nearest-neg s.args.n s.args.d s.requires.1.1

pub nearest_above-requires-2 : goal.nearest_above-requires-2
nearest_above-requires-2 c =
    let n = val w64 c.before.requires.0 tt in
    let d = val w64 c.before.requires.1.0 tt in
    (sized n tt, (sized d tt, subst (λ (x : ℤ). pos 0 <ᶻ x) (sym d.is) (above c)))

pub returns : goal.returns
returns c =
    let s : Start = search in
    got w64 c.nearest_above-2.type_inv ∙ c.nearest_above-2.ensures ∙ ap₂ nearest_div (val w64 s.requires.0 tt).is (val w64 s.requires.1.0 tt).is
