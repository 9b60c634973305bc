-- The proof of `plot_in`.
use mathlib.Core.Path.{◌≡◌, ap, ◌∙◌}
use mathlib.Core.List.{[], ◌∷◌}
use Prim.Native.Nat.{◌/◌}
use lib.ListN.{length}
use Rattle.rows.specs.Rows.{over}
use Rattle.hpgl.specs.declared.State.{State}
use Rattle.feeding.specs.Plot.{plot_from, laid_marks}
use Rattle.gathering.specs.declared.Stopped.{Stopped}
use Rattle.machine.specs.Gather.{gathered_by, plotted_of}
use Rattle.saved.specs.Saved.{saved_of, loaded_of}
use Rattle.answers.specs.Answers.{mark_counts_of}
use Rattle.calling.proofs.plot_in.Goals as goal

pub load-before-requires : goal.load-before-requires
load-before-requires c = c.requires.0

pub save-requires : goal.save-requires
save-requires c = c.requires.0.long

pub returns : goal.returns
unfolding mark_counts_of
returns c =
    let bytes = c.args.bytes.now in
    let records = c.args.records.now in
    let room = length records / 5 in
    let answered : gathered_by c.plot-plotted.result ≡ plotted_of (plot_from (loaded_of c.args.numbers.now) bytes 0 room) = c.plot-plotted.ensures.value ∙ ap (λ (m : State). plotted_of (plot_from m bytes 0 room)) c.load-before.ensures in
    record {
      value = ap (λ (r : Stopped). r.number) answered;
      numbers_after = c.save.ensures ∙ ap (λ (r : Stopped). saved_of r.state) answered;
      records_after = c.plot-plotted.ensures.numbers_after ∙ ap (λ (m : State). laid_marks (plot_from m bytes 0 room).marks records) c.load-before.ensures;
      answer_after = c.put_counts.ensures ∙ ap (λ (r : Stopped). over c.args.answer.now 0 (r.at ∷ r.stored ∷ [])) answered;
    }
