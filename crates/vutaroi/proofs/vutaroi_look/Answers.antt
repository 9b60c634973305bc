-- The proof of `vutaroi_look`: the call on the numbers after the header.
use borrow.Author.Tests.{eq-eqb, ne_eqb}
use borrow.Author.Rules.{part_to_end}
use mathlib.Core.Path.{refl, sym, ap, ◌∙◌, subst}
use mathlib.Core.List.{List}
use native.Mathlib.Omega.{arith}
use lib.IntN.{ℤ}
use lib.ListN.{length}
use Rattle.rows.specs.Rows.{over}
use Rattle.hpgl.specs.Machine.{look_at}
use Rattle.saved.specs.Saved.{loaded_of}
use Rattle.machine.specs.Loadable.{Loadable}
use Rattle.readiness.specs.Ready.{machine_in, ready_of}
use Rattle.readiness.specs.ReadyLaws.{Goes, ready-goes, goes-loadable}
use Rattle.answers.specs.Answers.{look_numbers}
use Rattle.vutaroi.specs.Calls.{look_call}
use Rattle.vutaroi.proofs.vutaroi_look.Goals as goal

pub slice_bounds-numbers-count : goal.slice_bounds-numbers-count
slice_bounds-numbers-count c =
    let zs : List ℤ = c.args.state.now in
    let go : Goes zs 5 (length c.args.seen.now) = ready-goes zs 5 (length c.args.seen.now) (sym c.ready-status.ensures ∙ c.if-status-eq0.true) in
    omega (arith, go.long)

pub slice_bounds-numbers-start : goal.slice_bounds-numbers-start
slice_bounds-numbers-start c =
    let zs : List ℤ = c.args.state.now in
    let go : Goes zs 5 (length c.args.seen.now) = ready-goes zs 5 (length c.args.seen.now) (sym c.ready-status.ensures ∙ c.if-status-eq0.true) in
    omega (arith, go.long)

pub look_in-requires : goal.look_in-requires
look_in-requires c =
    let zs : List ℤ = c.args.state.now in
    let go : Goes zs 5 (length c.args.seen.now) = ready-goes zs 5 (length c.args.seen.now) (sym c.ready-status.ensures ∙ c.if-status-eq0.true) in
    (subst Loadable (sym (part_to_end zs 5)) (goes-loadable go), go.room)

pub returns-then-status-eq0 : goal.returns-then-status-eq0
unfolding look_call machine_in
returns-then-status-eq0 c =
    let zs : List ℤ = c.args.state.now in
    rw (eq-eqb (ready_of zs 5 (length c.args.seen.now)) 0 (sym c.ready-status.ensures ∙ c.if-status-eq0.true))
    record { value = refl; seen_after = c.look_in.ensures ∙ ap (λ (l : List ℤ). over c.args.seen.now 0 (look_numbers (look_at (loaded_of l)))) (part_to_end zs 5) }

pub returns : goal.returns
unfolding look_call
returns c =
    rw (ne_eqb (ready_of c.args.state.now 5 (length c.args.seen.now)) 0 (λ e. c.if-status-eq0.false (c.ready-status.ensures ∙ e)))
    record { value = c.ready-status.ensures; seen_after = refl }
