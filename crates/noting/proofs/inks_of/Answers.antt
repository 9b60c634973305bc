-- The strokes so far are noted.
use borrow.Author.Rules.{rules}
use mathlib.Core.Path.{◌≡◌, refl, sym, ◌∙◌}
use lib.ListN.{length}
use lib.Seq.{take-length}
use Rattle.noting.specs.Inks.{inks_of}
use Rattle.noting.specs.InkLaws.{inks-more}
use Rattle.noting.proofs.inks_of.Goals as goal

pub loop-s-init : goal.loop-s-init
unfolding inks_of
loop-s-init c = refl

pub loop-s-preserved : goal.loop-s-preserved
loop-s-preserved c =
    let l = c.loop-s in
    (rw l.invariant at c.inked-inks.ensures) ∙ sym (inks-more c.args.i c.args.strokes.now l.s-index _ (search rules))

pub returns : goal.returns
returns c =
    let l = c.loop-s in
    let all : l.s-index ≡ length c.args.strokes.now = search rules in
    l.invariant ∙ (rw (all, take-length c.args.strokes.now) refl)
