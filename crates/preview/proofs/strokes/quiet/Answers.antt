-- A fetch, of which the machine alone is kept.
use mathlib.Core.Path.{ap, ◌∙◌}
use Rattle.hpgl.proofs.ValidKept.{usable-fetch}
use Rattle.machine.specs.Calls.{Told, fetched_from}
use Rattle.machine.specs.Machines.{machine-is}
use Rattle.preview.specs.Drawing.{reply_bytes}
use Rattle.preview.proofs.strokes.quiet.Goals as goal

pub returns : goal.returns
unfolding fetched_from
returns c = machine-is c.fetch-f.result.machine (usable-fetch reply_bytes c.args.machine.usable) (ap (λ (x : Told). x.state) c.fetch-f.ensures.value)
