-- The proof of `vutaroi_fetch`: the call on the numbers after the header, and then the seal.
use borrow.Author.Tests.{eq-eqb, ne_eqb}
use borrow.Author.Rules.{part_to_end}
use mathlib.Core.Path.{◌≡◌, refl, sym, ap, ◌∙◌, subst}
use mathlib.Core.List.{List, [], ◌∷◌}
use native.Mathlib.Omega.{arith}
use lib.IntN.{ℤ}
use lib.ListN.{length, drop}
use Rattle.rows.specs.Rows.{over}
use Rattle.seal.specs.Seal.{sealed_of}
use Rattle.seal.specs.Light.{Light}
use Rattle.hpgl.specs.Machine.{fetch_state, fetch_number, fetch_text, fetch_out}
use Rattle.hpgl.proofs.ValidKept.{usable-fetch}
use Rattle.saved.specs.Saved.{saved_of, loaded_of}
use Rattle.machine.specs.Loadable.{Loadable}
use Rattle.readiness.specs.Ready.{list_of, machine_in, ready_of}
use Rattle.readiness.specs.ReadyLaws.{Goes, ready-goes, goes-loadable, goes-saved, usable-light, part-rest}
use Rattle.vutaroi.specs.Calls.{fetch_call}
use Rattle.vutaroi.proofs.vutaroi_fetch.Goals as goal

pub slice_bounds-fetch_in-count : goal.slice_bounds-fetch_in-count
slice_bounds-fetch_in-count c =
    let zs : List ℤ = c.args.state.now in
    let go : Goes zs 1 (length c.args.answer.now) = ready-goes zs 1 (length c.args.answer.now) (sym c.ready-status.ensures ∙ c.if-status-eq0.true) in
    omega (arith, go.long)

pub slice_bounds-fetch_in-start : goal.slice_bounds-fetch_in-start
slice_bounds-fetch_in-start c =
    let zs : List ℤ = c.args.state.now in
    let go : Goes zs 1 (length c.args.answer.now) = ready-goes zs 1 (length c.args.answer.now) (sym c.ready-status.ensures ∙ c.if-status-eq0.true) in
    omega (arith, go.long)

pub fetch_in-number-requires : goal.fetch_in-number-requires
fetch_in-number-requires c =
    let zs : List ℤ = c.args.state.now in
    let go : Goes zs 1 (length c.args.answer.now) = ready-goes zs 1 (length c.args.answer.now) (sym c.ready-status.ensures ∙ c.if-status-eq0.true) in
    let same = sym (part_to_end zs 5) in
    (subst Loadable same (goes-loadable go), subst (λ (l : List ℤ). saved_of (loaded_of l) ≡ l) same (goes-saved go), go.room)

pub seal-requires : goal.seal-requires
seal-requires c =
    let zs : List ℤ = c.args.state.now in
    let room = length c.args.out.now in
    let go : Goes zs 1 (length c.args.answer.now) = ready-goes zs 1 (length c.args.answer.now) (sym c.ready-status.ensures ∙ c.if-status-eq0.true) in
    let left : c.fetch_in-number.new.numbers ≡ saved_of (fetch_state (loaded_of (drop 5 zs)) room) = c.fetch_in-number.ensures.numbers_after ∙ ap (λ (l : List ℤ). saved_of (fetch_state (loaded_of l) room)) (part_to_end zs 5) in
    subst Light (sym (part-rest zs _ (omega (arith, go.long)) ∙ left)) (usable-light (usable-fetch room (goes-loadable go).usable))

pub returns-then-status-eq0 : goal.returns-then-status-eq0
unfolding fetch_call list_of machine_in
returns-then-status-eq0 c =
    let zs : List ℤ = c.args.state.now in
    let room = length c.args.out.now in
    let go : Goes zs 1 (length c.args.answer.now) = ready-goes zs 1 (length c.args.answer.now) (sym c.ready-status.ensures ∙ c.if-status-eq0.true) in
    let left : c.fetch_in-number.new.numbers ≡ saved_of (fetch_state (loaded_of (drop 5 zs)) room) = c.fetch_in-number.ensures.numbers_after ∙ ap (λ (l : List ℤ). saved_of (fetch_state (loaded_of l) room)) (part_to_end zs 5) in
    rw (eq-eqb (ready_of zs 1 (length c.args.answer.now)) 0 (sym c.ready-status.ensures ∙ c.if-status-eq0.true)) record {
      value = c.fetch_in-number.ensures.value ∙ ap (λ (l : List ℤ). fetch_number (loaded_of l) room) (part_to_end zs 5);
      state_after = c.seal.ensures ∙ ap sealed_of (part-rest zs _ (omega (arith, go.long)) ∙ left);
      out_after = c.fetch_in-number.ensures.out_after ∙ ap (λ (l : List ℤ). fetch_out (loaded_of l) c.args.out.now) (part_to_end zs 5);
      answer_after = c.fetch_in-number.ensures.answer_after ∙ ap (λ (l : List ℤ). over c.args.answer.now 0 (length (fetch_text (loaded_of l) room) ∷ [])) (part_to_end zs 5);
    }

pub returns : goal.returns
unfolding fetch_call
returns c =
    rw (ne_eqb (ready_of c.args.state.now 1 (length c.args.answer.now)) 0 (λ e. c.if-status-eq0.false (c.ready-status.ensures ∙ e)))
    record { value = c.ready-status.ensures; state_after = refl; out_after = refl; answer_after = refl }
