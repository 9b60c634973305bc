-- The proof of `ready`: by its three tests.
use borrow.Author.Tests.{lt-ltb, le-ltb, eq-eqb, ne_eqb}
use mathlib.Core.Path.{refl, sym, ◌∙◌}
use native.Mathlib.Omega.{arith}
use lib.ListN.{length}
use Rattle.readiness.specs.Ready.{list_numbers, ready_of}
use Rattle.readiness.proofs.ready.Goals as goal

pub returns-then-lent-needed : goal.returns-then-lent-needed
unfolding ready_of
returns-then-lent-needed c = rw (lt-ltb _ _ c.if-lent-needed.true) refl

pub returns-then-stands : goal.returns-then-stands
unfolding ready_of
returns-then-stands c =
    rw (le-ltb c.args.lent c.args.needed (omega (arith, c.if-lent-needed.false)), eq-eqb (length c.args.state.now) list_numbers c.if-state-eq-LIST.true, sym c.stands.ensures ∙ c.if-stands.true) refl

pub returns-then-state-eq-LIST : goal.returns-then-state-eq-LIST
unfolding ready_of
returns-then-state-eq-LIST c =
    rw (le-ltb c.args.lent c.args.needed (omega (arith, c.if-lent-needed.false)), eq-eqb (length c.args.state.now) list_numbers c.if-state-eq-LIST.true, sym c.stands.ensures ∙ c.if-stands.false) refl

pub returns : goal.returns
unfolding ready_of
returns c =
    rw (le-ltb c.args.lent c.args.needed (omega (arith, c.if-lent-needed.false)), ne_eqb (length c.args.state.now) list_numbers c.if-state-eq-LIST.false) refl
