-- In the machine of fresh nothing waits.
use Rattle.std.proofs.Common.{refl, ap, ◌∙◌, rules}
use Rattle.plotting.specs.PlottedLaws.{started-free}
use Rattle.delivery.specs.declared.edge.Tally.{Tally}
use Rattle.delivery.specs.RanLaws.{within-good, within-bad}
use Rattle.delivery.proofs.files.plotted.Goals as goal

pub returns-then-started-ne0 : goal.returns-then-started-ne0
returns-then-started-ne0 c =
    let a = c.in-Some in
    rw a.is (within-bad c.fresh-started.result a.hard (c.fresh-started.ensures ∙ search rules) c.if-started-ne0.true (refl, ap (λ (t : Tally). t.read) c.requires, ap (λ (t : Tally). t.handed) c.requires))

pub plot_file-requires-clause-work_value : goal.plot_file-requires-clause-work_value
plot_file-requires-clause-work_value c = started-free c.fresh-started.result _ c.fresh-started.ensures

pub returns : goal.returns
returns c =
    let a = c.in-Some in
    rw a.is (within-good c.fresh-started.result a.hard (c.fresh-started.ensures ∙ search rules) c.if-started-ne0.false c.plot_file.ensures)
