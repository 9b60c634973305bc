-- The proof of `look_in`.
use mathlib.Core.Path.{ap, ◌∙◌}
use Rattle.rows.specs.declared.Row.{Row}
use Rattle.rows.specs.Rows.{with_row, over}
use Rattle.hpgl.specs.Machine.{look_at}
use Rattle.answers.specs.Answers.{look_row, look_numbers}
use Rattle.calling.proofs.look_in.Goals as goal
use Rattle.calling.proofs.look_in.Lts
use Rattle.calling.proofs.look_in.Tie
use Rattle.calling.proofs.look_in.Reads

abbrev After-load-machine : Type 0
After-load-machine = Lts.After-load Tie.the-claims Reads.Pre Reads.Post

abbrev Start : Type 0
Start = Lts.Start Tie.the-claims Reads.Pre Reads.Post

abbrev start : After-load-machine → Start
start l = l.before

pub load-machine-requires : goal.load-machine-requires
load-machine-requires c = c.requires.0

pub returns : goal.returns
unfolding look_numbers over with_row
returns c =
    let l = c.before.before.before.before.before in
    let seen = (start l).args.seen.now in
    c.put_row.ensures ∙ ap (λ (row : Row). with_row row 0 seen) (c.look_row.ensures ∙ ap look_row (c.look-look.ensures ∙ ap look_at l.load-machine.ensures))
