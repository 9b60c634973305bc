-- The proof of `plot`.
use mathlib.Core.Path.{sym, ap, subst, ◌∙◌}
use Rattle.feeding.proofs.PlotLaws.{plot-usable}
use Rattle.gathering.specs.declared.Stopped.{Stopped}
use Rattle.gathering.specs.Gather.{gather_from}
use Rattle.hpgl.specs.Valid.{Usable}
use Rattle.machine.proofs.Machine.plot.Goals as goal

pub gather-requires : goal.gather-requires
gather-requires c = c.args.self.usable.valid

pub returns : goal.returns
unfolding gather_from
returns c = record { value = c.answered.ensures ∙ c.gather.ensures.0; numbers_after = c.gather.ensures.1 }

pub answered-requires : goal.answered-requires
unfolding gather_from
answered-requires c = subst Usable (sym (ap (λ (g : Stopped). g.state) c.gather.ensures.0)) (plot-usable c.args.self.state _ _ _ c.args.self.usable)
