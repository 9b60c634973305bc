-- From p to q some text was printed; each turn makes it longer, or leaves no more.
use Rattle.std.proofs.Common.{sym, ◌∙◌}
use Rattle.plotting.specs.PlottedLaws.{plotted-nothing, plotted-then}
use Rattle.plotting.proofs.fill.Goals as goal

pub loop-q-init : goal.loop-q-init
loop-q-init c = (plotted-nothing _ c.requires.ready c.requires.length_in_bounds, sym c.records-space.ensures)

pub loop-q-preserved : goal.loop-q-preserved
loop-q-preserved c =
    (plotted-then c.loop-q.invariant.0 c.step-q.ensures.plotted, c.step-q.auto.numbers ∙ c.loop-q.invariant.1)
