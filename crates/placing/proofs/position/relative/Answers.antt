-- The proof of `relative`: the offset is at most 2e15, and a number more fits.
use borrow.Author.Rules.{rules}
use mir.Syntax.{w64}
use mir.Val.{SFits}
use Rattle.exact.specs.Fit.{val, arg, put, fit, ◌⊕◌}
use Rattle.plane.specs.Position.{relative_of}
use Rattle.placing.proofs.position.relative.Goals as goal

pub overflow_add-result : goal.overflow_add-result
overflow_add-result c = fit w64 (val w64 c.requires.0 tt ⊕ val w64 c.requires.1 tt) tt

pub returns : goal.returns
unfolding relative_of
returns c =
    let f : SFits w64 c.args.p.base = search rules in
    let b = (arg w64 f).is in
    let o = (put w64 (val w64 c.requires.0 tt ⊕ val w64 c.requires.1 tt) tt).is in
    λ i. record { base = b i; offset = o i }
