-- What a feed leaves is what is noted of it, and the hand that is noted is the one that is left.
use Rattle.std.proofs.Common.{◌≡◌, refl, ◌∙◌, sym, ap, ℕ, List}
use Rattle.hpgl.specs.declared.Look.{Look}
use Rattle.hpgl.specs.Machine.{look_at}
use Rattle.feed.specs.declared.Listed.{Listed}
use Rattle.tracing.specs.declared.Hand.{Hand}
use Rattle.preview.specs.declared.strokes.Drawing.{Drawing}
use Rattle.preview.specs.Drawing.{after_of, fed_of, step_of}
use Rattle.preview.proofs.strokes.step.Goals as goal

noted : (d : Drawing) (l : Listed) (block : List ℕ) (before seen : Look) (hand : Hand) (e : Drawing) → l ≡ fed_of d block → before ≡ look_at d.machine.state
    → seen ≡ look_at l.fed.machine.state → e ≡ after_of d l block before seen hand → e ≡ step_of d block e.hand
noted d l block before seen hand e a b s h =
    let m : e ≡ step_of d block hand = h ∙ rw (s, b, a) refl in
    m ∙ ap (step_of d block) (sym (ap (λ (x : Drawing). x.hand) m))

pub returns : goal.returns
returns c = noted c.args.d.now c.fed-l.result c.args.block.now c.look-before.result c.look-seen.result _ _ c.fed-l.ensures.value c.look-before.ensures c.look-seen.ensures c.note.ensures
