-- The proof of `fresh_in`: the four numbers are read back as they came.
use mathlib.Core.Path.{◌≡◌, ap, ◌∙◌}
use mir.Syntax.{w64}
use Rattle.exact.specs.Fit.{arg}
use Rattle.hpgl.specs.Machine.{rect}
use Rattle.machine.specs.Calls.{Numbered, started_by, started_of}
use Rattle.saved.specs.Saved.{saved_of}
use Rattle.calling.proofs.fresh_in.Goals as goal
use Rattle.calling.proofs.fresh_in.Lts
use Rattle.calling.proofs.fresh_in.Tie
use Rattle.calling.proofs.fresh_in.Reads

abbrev After-fresh-started : Type 0
After-fresh-started = Lts.After-fresh Tie.the-claims Reads.Pre Reads.Post Tie.handed_clauses

started : (f : After-fresh-started) → let s = f.before in started_by f.fresh-started.result ≡ started_of (rect s.args.left s.args.bottom s.args.right s.args.top)
started f =
    let k = f.ranges in
    f.fresh-started.ensures ∙ (λ i. started_of (rect ((arg w64 k.left).is i) ((arg w64 k.bottom).is i) ((arg w64 k.right).is i) ((arg w64 k.top).is i)))

pub save-requires : goal.save-requires
save-requires c = c.requires

pub returns : goal.returns
unfolding started_of
returns c =
    let f = c.before.before.before.before in
    record { value = ap (λ (r : Numbered). r.number) (started f); numbers_after = c.save.ensures ∙ ap (λ (r : Numbered). saved_of r.state) (started f) }
