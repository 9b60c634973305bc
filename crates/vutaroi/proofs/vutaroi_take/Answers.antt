-- The proof of `vutaroi_take`: the call on the numbers after the header, and then the seal.
use borrow.Author.Tests.{eq-eqb, ne_eqb}
use borrow.Author.Rules.{part_to_end}
use mathlib.Core.Path.{◌≡◌, refl, sym, ap, ◌∙◌, subst}
use mathlib.Core.List.{List}
use native.Mathlib.Omega.{arith}
use lib.IntN.{ℤ}
use lib.ListN.{drop}
use Rattle.seal.specs.Seal.{sealed_of}
use Rattle.seal.specs.Light.{Light}
use Rattle.hpgl.specs.Machine.{take_state, take_number}
use Rattle.hpgl.proofs.ValidKept.{usable-take}
use Rattle.saved.specs.Saved.{saved_of, loaded_of}
use Rattle.machine.specs.Loadable.{Loadable}
use Rattle.readiness.specs.Ready.{list_of, machine_in, ready_of}
use Rattle.readiness.specs.ReadyLaws.{Goes, ready-goes, goes-loadable, usable-light, part-rest}
use Rattle.vutaroi.specs.Calls.{take_call}
use Rattle.vutaroi.proofs.vutaroi_take.Goals as goal

pub slice_bounds-take_in-count : goal.slice_bounds-take_in-count
slice_bounds-take_in-count c =
    let zs : List ℤ = c.args.state.now in
    let go : Goes zs 0 0 = ready-goes zs 0 0 (sym c.ready-status.ensures ∙ c.if-status-eq0.true) in
    omega (arith, go.long)

pub slice_bounds-take_in-start : goal.slice_bounds-take_in-start
slice_bounds-take_in-start c =
    let zs : List ℤ = c.args.state.now in
    let go : Goes zs 0 0 = ready-goes zs 0 0 (sym c.ready-status.ensures ∙ c.if-status-eq0.true) in
    omega (arith, go.long)

pub take_in-number-requires : goal.take_in-number-requires
take_in-number-requires c =
    let zs : List ℤ = c.args.state.now in
    let go : Goes zs 0 0 = ready-goes zs 0 0 (sym c.ready-status.ensures ∙ c.if-status-eq0.true) in
    subst Loadable (sym (part_to_end zs 5)) (goes-loadable go)

pub seal-requires : goal.seal-requires
seal-requires c =
    let zs : List ℤ = c.args.state.now in
    let go : Goes zs 0 0 = ready-goes zs 0 0 (sym c.ready-status.ensures ∙ c.if-status-eq0.true) in
    let left : c.take_in-number.new.numbers ≡ saved_of (take_state (loaded_of (drop 5 zs)) c.args.byte) = c.take_in-number.ensures.numbers_after ∙ ap (λ (l : List ℤ). saved_of (take_state (loaded_of l) c.args.byte)) (part_to_end zs 5) in
    subst Light (sym (part-rest zs _ (omega (arith, go.long)) ∙ left)) (usable-light (usable-take c.args.byte (goes-loadable go).usable))

pub returns-then-status-eq0 : goal.returns-then-status-eq0
unfolding take_call list_of machine_in
returns-then-status-eq0 c =
    let zs : List ℤ = c.args.state.now in
    let go : Goes zs 0 0 = ready-goes zs 0 0 (sym c.ready-status.ensures ∙ c.if-status-eq0.true) in
    let left : c.take_in-number.new.numbers ≡ saved_of (take_state (loaded_of (drop 5 zs)) c.args.byte) = c.take_in-number.ensures.numbers_after ∙ ap (λ (l : List ℤ). saved_of (take_state (loaded_of l) c.args.byte)) (part_to_end zs 5) in
    rw (eq-eqb (ready_of zs 0 0) 0 (sym c.ready-status.ensures ∙ c.if-status-eq0.true)) record {
      value = c.take_in-number.ensures.value ∙ ap (λ (l : List ℤ). take_number (loaded_of l) c.args.byte) (part_to_end zs 5);
      state_after = c.seal.ensures ∙ ap sealed_of (part-rest zs _ (omega (arith, go.long)) ∙ left);
    }

pub returns : goal.returns
unfolding take_call
returns c =
    rw (ne_eqb (ready_of c.args.state.now 0 0) 0 (λ e. c.if-status-eq0.false (c.ready-status.ensures ∙ e)))
    record { value = c.ready-status.ensures; state_after = refl }
