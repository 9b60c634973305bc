-- The proof of `vutaroi_fresh`: the four numbers are read back as they came; then the seal.
use borrow.Author.Tests.{eq-eqb, ne_eqb}
use mathlib.Core.Path.{◌≡◌, refl, sym, ap, ◌∙◌, subst}
use native.Mathlib.Omega.{arith}
use lib.ListN.{length}
use mir.Syntax.{w64}
use Rattle.exact.specs.Fit.{m64, arg}
use Rattle.clip.specs.declared.Rect.{Rect}
use Rattle.seal.specs.Seal.{sealed_of}
use Rattle.seal.specs.Light.{Light}
use Rattle.hpgl.specs.Machine.{rect, fresh_state, fresh_number}
use Rattle.hpgl.proofs.ValidKept.{usable-fresh}
use Rattle.saved.specs.Saved.{saved_of}
use Rattle.readiness.specs.Ready.{list_numbers, list_of}
use Rattle.readiness.specs.ReadyLaws.{usable-light, part-rest}
use Rattle.vutaroi.specs.Calls.{fresh_call}
use Rattle.vutaroi.proofs.vutaroi_fresh.Goals as goal

pub seal-requires : goal.seal-requires
seal-requires c =
    let f = c.ranges in
    let hard = rect c.args.left c.args.bottom c.args.right c.args.top in
    let read : rect (m64 c.args.left) (m64 c.args.bottom) (m64 c.args.right) (m64 c.args.top) ≡ hard = λ i. rect ((arg w64 f.left).is i) ((arg w64 f.bottom).is i) ((arg w64 f.right).is i) ((arg w64 f.top).is i) in
    let left : c.fresh_in-number.new.numbers ≡ saved_of (fresh_state hard) = c.fresh_in-number.ensures.numbers_after ∙ ap (λ (r : Rect). saved_of (fresh_state r)) read in
    subst Light (sym (part-rest c.args.state.now _ (omega (arith, c.if-state-eq-LIST.true)) ∙ left)) (usable-light (usable-fresh hard))

pub returns-then-state-eq-LIST : goal.returns-then-state-eq-LIST
unfolding fresh_call list_of
returns-then-state-eq-LIST c =
    let f = c.ranges in
    let hard = rect c.args.left c.args.bottom c.args.right c.args.top in
    let read : rect (m64 c.args.left) (m64 c.args.bottom) (m64 c.args.right) (m64 c.args.top) ≡ hard = λ i. rect ((arg w64 f.left).is i) ((arg w64 f.bottom).is i) ((arg w64 f.right).is i) ((arg w64 f.top).is i) in
    let left : c.fresh_in-number.new.numbers ≡ saved_of (fresh_state hard) = c.fresh_in-number.ensures.numbers_after ∙ ap (λ (r : Rect). saved_of (fresh_state r)) read in
    rw (eq-eqb (length c.args.state.now) list_numbers c.if-state-eq-LIST.true)
    record { value = c.fresh_in-number.ensures.value ∙ ap fresh_number read; state_after = c.seal.ensures ∙ ap sealed_of (part-rest c.args.state.now _ (omega (arith, c.if-state-eq-LIST.true)) ∙ left) }

pub returns : goal.returns
unfolding fresh_call
returns c =
    rw (ne_eqb (length c.args.state.now) list_numbers c.if-state-eq-LIST.false) record { value = refl; state_after = refl }
