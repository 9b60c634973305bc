-- The proof of `axis_place`: the numerator fits, and the division is the definition's.
use mathlib.Core.Path.{sym, ap₂, subst, ◌∙◌}
use Prim.Native.Nat.{◌+◌, ◌*◌}
use lib.IntN.{ℤ, pos, ◌+ℤ◌, ◌*ℤ◌}
use mir.Syntax.{w64}
use Rattle.exact.specs.Whole.{◌<ᶻ◌}
use Rattle.exact.specs.Fit.{Num, m64, val, put, fit, got, ret, sized, ◌⊕◌, ◌⊗◌}
use Rattle.exact.specs.Divide.{nearest_div}
use Rattle.exact.specs.Steps.{not-zero}
use Rattle.clip.specs.Clip.{toward, axis_place}
use Rattle.clip.specs.Reach.{reach, most_extent, most_steps, numerator-fits}
use Rattle.clip.specs.Sizes.{toward-size}
use Rattle.clipping.proofs.axis_place.Goals as goal
use Rattle.clipping.proofs.axis_place.Lts
use Rattle.clipping.proofs.axis_place.Tie
use Rattle.clipping.proofs.axis_place.Reads

abbrev After-toward : Type 0
After-toward = Lts.After-toward Tie.the-claims Reads.Pre Reads.Post

numerator : (c : After-toward) → let s = c.args in
    Num (m64 (m64 s.u *ℤ m64 s.p) +ℤ m64 c.toward.result) (s.u *ℤ s.p +ℤ toward s.p s.q s.m) (most_extent * reach + most_steps)
numerator c =
    let h = c.requires in
    let p = val w64 h.0 tt in
    let q = val w64 h.1 tt in
    let m = val w64 h.3 tt in
    put w64 (val w64 h.2 tt ⊗ p) tt ⊕ ret w64 c.toward.type_inv (c.toward.ensures ∙ (λ i. toward (p.is i) (q.is i) (m.is i))) (toward-size _ _ h.3)

pub overflow_mul-u : goal.overflow_mul-u
overflow_mul-u c = fit w64 (val w64 c.requires.2 tt ⊗ val w64 c.requires.0 tt) tt

pub overflow_add-u : goal.overflow_add-u
overflow_add-u c = fit w64 (numerator c) tt

pub nearest_div-requires : goal.nearest_div-requires
nearest_div-requires c =
    let h = c.requires in
    let u = val w64 h.2 tt in
    (sized (put w64 (numerator c) tt) numerator-fits, (sized u tt, not-zero (subst (λ (x : ℤ). pos 0 <ᶻ x) (sym u.is) h.4)))

pub returns : goal.returns
unfolding axis_place
returns c =
    got w64 c.nearest_div.type_inv ∙ c.nearest_div.ensures ∙ ap₂ nearest_div (put w64 (numerator c.before) tt).is (val w64 c.requires.2 tt).is
