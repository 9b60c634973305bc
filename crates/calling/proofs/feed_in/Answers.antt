-- The proof of `feed_in`.
use mathlib.Core.Path.{◌≡◌, ap, ◌∙◌}
use mathlib.Core.List.{[], ◌∷◌}
use Prim.Native.Nat.{◌/◌}
use lib.ListN.{length}
use Rattle.rows.specs.Rows.{over}
use Rattle.hpgl.specs.declared.State.{State}
use Rattle.feeding.specs.Feed.{feed_of, laid_numbers}
use Rattle.gathering.specs.declared.Stopped.{Stopped}
use Rattle.machine.specs.Gather.{gathered_by, gathered_of}
use Rattle.saved.specs.Saved.{saved_of, loaded_of}
use Rattle.answers.specs.Answers.{counts_of}
use Rattle.calling.proofs.feed_in.Goals as goal

pub load-before-requires : goal.load-before-requires
load-before-requires c = c.requires.0

pub save-requires : goal.save-requires
save-requires c = c.requires.0.long

pub returns : goal.returns
unfolding counts_of
returns c =
    let bytes = c.args.bytes.now in
    let records = c.args.records.now in
    let room = length records / 5 in
    let answered : gathered_by c.gather-gathered.result ≡ gathered_of (feed_of (loaded_of c.args.numbers.now) bytes room) = c.gather-gathered.ensures.value ∙ ap (λ (m : State). gathered_of (feed_of m bytes room)) c.load-before.ensures in
    record {
      value = ap (λ (r : Stopped). r.number) answered;
      numbers_after = c.save.ensures ∙ ap (λ (r : Stopped). saved_of r.state) answered;
      records_after = c.gather-gathered.ensures.numbers_after ∙ ap (λ (m : State). laid_numbers (feed_of m bytes room).strokes records) c.load-before.ensures;
      answer_after = c.put_counts.ensures ∙ ap (λ (r : Stopped). over c.args.answer.now 0 (r.at ∷ r.stored ∷ [])) answered;
    }
