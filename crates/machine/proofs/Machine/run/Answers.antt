-- The proof of `run`: a feed with no room for a stroke (RunLaws.antt).
use borrow.Author.Tests.{eq-eqb, ne_eqb}
use mathlib.Core.Path.{sym, ap, subst, ◌∙◌}
use mathlib.Core.Bool.{cond}
use lib.Dec.{eqb}
use Rattle.feeding.specs.DrawOff.{list_full}
use Rattle.feeding.proofs.FeedLaws.{feed-usable}
use Rattle.gathering.specs.declared.Stopped.{Stopped}
use Rattle.gathering.specs.Gather.{gather_from}
use Rattle.hpgl.specs.declared.State.{State}
use Rattle.hpgl.specs.Valid.{Usable}
use Rattle.machine.specs.Run.{Run, ran_of}
use Rattle.machine.specs.RunLaws.{run-feeds}
use Rattle.machine.proofs.Machine.run.Goals as goal

abbrev ran : Stopped → Run
ran g = ran_of g.state g.at (cond (eqb g.number list_full) 0 g.number)

abbrev state : Stopped → State
state g = g.state

pub gather-g-requires : goal.gather-g-requires
gather-g-requires c = c.args.self.usable.valid

pub invariant_of-machine : goal.invariant_of-machine
unfolding gather_from
invariant_of-machine c = record { usable = subst Usable (sym (ap state c.gather-g.ensures.0)) (feed-usable c.args.self.state _ _ _ c.args.self.usable) }

pub invariant_of-machine-2 : goal.invariant_of-machine-2
unfolding gather_from
invariant_of-machine-2 c = record { usable = subst Usable (sym (ap state c.gather-g.ensures.0)) (feed-usable c.args.self.state _ _ _ c.args.self.usable) }

pub returns-then-g-eq-LIST_FULL : goal.returns-then-g-eq-LIST_FULL
unfolding gather_from
returns-then-g-eq-LIST_FULL c =
    rw (eq-eqb c.gather-g.result.number list_full c.if-g-eq-LIST_FULL.true) at (ap ran c.gather-g.ensures.0 ∙ sym (run-feeds c.args.self.state _ c.args.from))

pub returns : goal.returns
unfolding gather_from
returns c =
    rw (ne_eqb c.gather-g.result.number list_full c.if-g-eq-LIST_FULL.false) at (ap ran c.gather-g.ensures.0 ∙ sym (run-feeds c.args.self.state _ c.args.from))
