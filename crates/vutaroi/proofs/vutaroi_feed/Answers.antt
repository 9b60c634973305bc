-- The proof of `vutaroi_feed`: the call on the numbers after the header, and then the seal.
use borrow.Author.Tests.{eq-eqb, ne_eqb}
use borrow.Author.Rules.{part_to_end}
use mathlib.Core.Path.{◌≡◌, refl, sym, ap, ◌∙◌, subst}
use mathlib.Core.List.{List}
use Prim.Native.Nat.{◌/◌}
use native.Mathlib.Omega.{arith}
use lib.IntN.{ℤ}
use lib.ListN.{length, drop}
use Rattle.rows.specs.Rows.{over}
use Rattle.seal.specs.Seal.{sealed_of}
use Rattle.seal.specs.Light.{Light}
use Rattle.feeding.specs.Feed.{feed_of, laid_numbers}
use Rattle.feeding.proofs.FeedLaws.{feed-usable}
use Rattle.saved.specs.Saved.{saved_of, loaded_of}
use Rattle.machine.specs.Loadable.{Loadable}
use Rattle.readiness.specs.Ready.{list_of, machine_in, ready_of}
use Rattle.readiness.specs.ReadyLaws.{Goes, ready-goes, goes-loadable, usable-light, part-rest}
use Rattle.answers.specs.Answers.{counts_of}
use Rattle.vutaroi.specs.Calls.{feed_call}
use Rattle.vutaroi.proofs.vutaroi_feed.Goals as goal

pub slice_bounds-feed_in-count : goal.slice_bounds-feed_in-count
slice_bounds-feed_in-count c =
    let zs : List ℤ = c.args.state.now in
    let go : Goes zs 2 (length c.args.answer.now) = ready-goes zs 2 (length c.args.answer.now) (sym c.ready-status.ensures ∙ c.if-status-eq0.true) in
    omega (arith, go.long)

pub slice_bounds-feed_in-start : goal.slice_bounds-feed_in-start
slice_bounds-feed_in-start c =
    let zs : List ℤ = c.args.state.now in
    let go : Goes zs 2 (length c.args.answer.now) = ready-goes zs 2 (length c.args.answer.now) (sym c.ready-status.ensures ∙ c.if-status-eq0.true) in
    omega (arith, go.long)

pub feed_in-number-requires : goal.feed_in-number-requires
feed_in-number-requires c =
    let zs : List ℤ = c.args.state.now in
    let go : Goes zs 2 (length c.args.answer.now) = ready-goes zs 2 (length c.args.answer.now) (sym c.ready-status.ensures ∙ c.if-status-eq0.true) in
    (subst Loadable (sym (part_to_end zs 5)) (goes-loadable go), go.room)

pub seal-requires : goal.seal-requires
seal-requires c =
    let zs : List ℤ = c.args.state.now in
    let bytes = c.args.bytes.now in
    let room = length c.args.records.now / 5 in
    let go : Goes zs 2 (length c.args.answer.now) = ready-goes zs 2 (length c.args.answer.now) (sym c.ready-status.ensures ∙ c.if-status-eq0.true) in
    let left : c.feed_in-number.new.numbers ≡ saved_of (feed_of (loaded_of (drop 5 zs)) bytes room).state = c.feed_in-number.ensures.numbers_after ∙ ap (λ (l : List ℤ). saved_of (feed_of (loaded_of l) bytes room).state) (part_to_end zs 5) in
    subst Light (sym (part-rest zs _ (omega (arith, go.long)) ∙ left)) (usable-light (feed-usable _ bytes 0 room (goes-loadable go).usable))

pub returns-then-status-eq0 : goal.returns-then-status-eq0
unfolding feed_call list_of machine_in
returns-then-status-eq0 c =
    let zs : List ℤ = c.args.state.now in
    let bytes = c.args.bytes.now in
    let room = length c.args.records.now / 5 in
    let go : Goes zs 2 (length c.args.answer.now) = ready-goes zs 2 (length c.args.answer.now) (sym c.ready-status.ensures ∙ c.if-status-eq0.true) in
    let left : c.feed_in-number.new.numbers ≡ saved_of (feed_of (loaded_of (drop 5 zs)) bytes room).state = c.feed_in-number.ensures.numbers_after ∙ ap (λ (l : List ℤ). saved_of (feed_of (loaded_of l) bytes room).state) (part_to_end zs 5) in
    rw (eq-eqb (ready_of zs 2 (length c.args.answer.now)) 0 (sym c.ready-status.ensures ∙ c.if-status-eq0.true)) record {
      value = c.feed_in-number.ensures.value ∙ ap (λ (l : List ℤ). (feed_of (loaded_of l) bytes room).number) (part_to_end zs 5);
      state_after = c.seal.ensures ∙ ap sealed_of (part-rest zs _ (omega (arith, go.long)) ∙ left);
      records_after = c.feed_in-number.ensures.records_after ∙ ap (λ (l : List ℤ). laid_numbers (feed_of (loaded_of l) bytes room).strokes c.args.records.now) (part_to_end zs 5);
      answer_after = c.feed_in-number.ensures.answer_after ∙ ap (λ (l : List ℤ). over c.args.answer.now 0 (counts_of (feed_of (loaded_of l) bytes room))) (part_to_end zs 5);
    }

pub returns : goal.returns
unfolding feed_call
returns c =
    rw (ne_eqb (ready_of c.args.state.now 2 (length c.args.answer.now)) 0 (λ e. c.if-status-eq0.false (c.ready-status.ensures ∙ e)))
    record { value = c.ready-status.ensures; state_after = refl; records_after = refl; answer_after = refl }
