-- The proof of `draw_in`.
use mathlib.Core.Path.{◌≡◌, ap, ◌∙◌}
use Rattle.rows.specs.Rows.{over}
use Rattle.machine.specs.Calls.{Drew, worked_by, worked_of}
use Rattle.saved.specs.Saved.{saved_of, loaded_of}
use Rattle.answers.specs.Answers.{drawn_kind, drawn_numbers}
use Rattle.calling.proofs.draw_in.Goals as goal

pub load-before-requires : goal.load-before-requires
load-before-requires c = c.requires.0

pub save-requires : goal.save-requires
save-requires c = c.requires.0.long

pub returns : goal.returns
unfolding worked_of
returns c =
    let worked : worked_by c.draw-worked.result ≡ worked_of (loaded_of c.args.numbers.now) = c.draw-worked.ensures.value ∙ ap worked_of c.load-before.ensures in
    record {
      value = c.put_drawn.ensures.value ∙ ap (λ (r : Drew). drawn_kind r.drawn) worked;
      numbers_after = c.save.ensures ∙ ap (λ (r : Drew). saved_of r.state) worked;
      stroke_after = c.put_drawn.ensures.stroke_after ∙ ap (λ (r : Drew). over c.args.stroke.now 0 (drawn_numbers r.drawn)) worked;
    }
