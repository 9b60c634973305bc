-- Each field by the function that makes it.
use borrow.Author.Rules.{rules}
use mathlib.Core.Path.{◌≡◌, ◌∙◌}
use mir.Syntax.{w64}
use mir.Val.{SFits}
use Rattle.exact.specs.Fit.{arg}
use Rattle.measure.specs.Root.{squares, tenths_of}
use Rattle.noting.specs.Inks.{inked_of}
use Rattle.noting.proofs.inked.Goals as goal

pub returns : goal.returns
unfolding inked_of
returns c =
    let x0 : SFits w64 c.args.s.x0 = search rules in
    let y0 : SFits w64 c.args.s.y0 = search rules in
    let x1 : SFits w64 c.args.s.x1 = search rules in
    let y1 : SFits w64 c.args.s.y1 = search rules in
    let far : c.length.result ≡ tenths_of (squares c.args.s.x0 c.args.s.y0 c.args.s.x1 c.args.s.y1) =
    c.length.ensures ∙ (λ i. tenths_of (squares ((arg w64 x0).is i) ((arg w64 y0).is i) ((arg w64 x1).is i) ((arg w64 y1).is i))) in
    rw (c.for_pen-2.ensures, far, c.for_pen.ensures, c.sum.ensures, c.dot_count.ensures)
