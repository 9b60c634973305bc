-- The proof of `vutaroi_draw`: the call on the numbers after the header, and then the seal.
use borrow.Author.Tests.{eq-eqb, ne_eqb}
use borrow.Author.Rules.{part_to_end}
use mathlib.Core.Path.{◌≡◌, refl, sym, ap, ◌∙◌, subst}
use mathlib.Core.List.{List}
use native.Mathlib.Omega.{arith}
use lib.IntN.{ℤ}
use lib.ListN.{length, drop}
use Rattle.rows.specs.Rows.{over}
use Rattle.seal.specs.Seal.{sealed_of}
use Rattle.seal.specs.Light.{Light}
use Rattle.hpgl.specs.Machine.{draw_state, draw_answer}
use Rattle.hpgl.proofs.ValidKept.{usable-draw}
use Rattle.saved.specs.Saved.{saved_of, loaded_of}
use Rattle.machine.specs.Loadable.{Loadable}
use Rattle.readiness.specs.Ready.{list_of, machine_in, ready_of}
use Rattle.readiness.specs.ReadyLaws.{Goes, ready-goes, goes-loadable, usable-light, part-rest}
use Rattle.answers.specs.Answers.{drawn_kind, drawn_numbers}
use Rattle.vutaroi.specs.Calls.{draw_call}
use Rattle.vutaroi.proofs.vutaroi_draw.Goals as goal

pub slice_bounds-draw_in-count : goal.slice_bounds-draw_in-count
slice_bounds-draw_in-count c =
    let zs : List ℤ = c.args.state.now in
    let go : Goes zs 5 (length c.args.stroke.now) = ready-goes zs 5 (length c.args.stroke.now) (sym c.ready-status.ensures ∙ c.if-status-eq0.true) in
    omega (arith, go.long)

pub slice_bounds-draw_in-start : goal.slice_bounds-draw_in-start
slice_bounds-draw_in-start c =
    let zs : List ℤ = c.args.state.now in
    let go : Goes zs 5 (length c.args.stroke.now) = ready-goes zs 5 (length c.args.stroke.now) (sym c.ready-status.ensures ∙ c.if-status-eq0.true) in
    omega (arith, go.long)

pub draw_in-kind-requires : goal.draw_in-kind-requires
draw_in-kind-requires c =
    let zs : List ℤ = c.args.state.now in
    let go : Goes zs 5 (length c.args.stroke.now) = ready-goes zs 5 (length c.args.stroke.now) (sym c.ready-status.ensures ∙ c.if-status-eq0.true) in
    (subst Loadable (sym (part_to_end zs 5)) (goes-loadable go), go.room)

pub seal-requires : goal.seal-requires
seal-requires c =
    let zs : List ℤ = c.args.state.now in
    let go : Goes zs 5 (length c.args.stroke.now) = ready-goes zs 5 (length c.args.stroke.now) (sym c.ready-status.ensures ∙ c.if-status-eq0.true) in
    let left : c.draw_in-kind.new.numbers ≡ saved_of (draw_state (loaded_of (drop 5 zs))) = c.draw_in-kind.ensures.numbers_after ∙ ap (λ (l : List ℤ). saved_of (draw_state (loaded_of l))) (part_to_end zs 5) in
    subst Light (sym (part-rest zs _ (omega (arith, go.long)) ∙ left)) (usable-light (usable-draw (goes-loadable go).usable))

pub returns-then-status-eq0 : goal.returns-then-status-eq0
unfolding draw_call list_of machine_in
returns-then-status-eq0 c =
    let zs : List ℤ = c.args.state.now in
    let go : Goes zs 5 (length c.args.stroke.now) = ready-goes zs 5 (length c.args.stroke.now) (sym c.ready-status.ensures ∙ c.if-status-eq0.true) in
    let left : c.draw_in-kind.new.numbers ≡ saved_of (draw_state (loaded_of (drop 5 zs))) = c.draw_in-kind.ensures.numbers_after ∙ ap (λ (l : List ℤ). saved_of (draw_state (loaded_of l))) (part_to_end zs 5) in
    rw (eq-eqb (ready_of zs 5 (length c.args.stroke.now)) 0 (sym c.ready-status.ensures ∙ c.if-status-eq0.true)) record {
      value = c.draw_in-kind.ensures.value ∙ ap (λ (l : List ℤ). drawn_kind (draw_answer (loaded_of l))) (part_to_end zs 5);
      state_after = c.seal.ensures ∙ ap sealed_of (part-rest zs _ (omega (arith, go.long)) ∙ left);
      stroke_after = c.draw_in-kind.ensures.stroke_after ∙ ap (λ (l : List ℤ). over c.args.stroke.now 0 (drawn_numbers (draw_answer (loaded_of l)))) (part_to_end zs 5);
    }

pub returns : goal.returns
unfolding draw_call
returns c =
    rw (ne_eqb (ready_of c.args.state.now 5 (length c.args.stroke.now)) 0 (λ e. c.if-status-eq0.false (c.ready-status.ensures ∙ e)))
    record { value = c.ready-status.ensures; state_after = refl; stroke_after = refl }
