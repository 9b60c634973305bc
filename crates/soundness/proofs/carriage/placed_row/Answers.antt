-- The proof of `placed_row`.
use borrow.Author.Rules.{rules}
use mathlib.Core.Path.{◌∙◌}
use mir.Syntax.{w64}
use mir.Val.{SFits}
use Rattle.exact.specs.Fit.{arg}
use Rattle.saved.specs.Saved.{position_of}
use Rattle.wellformed.specs.Sound.{placed_of}
use Rattle.soundness.proofs.carriage.placed_row.Goals as goal
use Rattle.soundness.proofs.carriage.placed_row.Lts
use Rattle.soundness.proofs.carriage.placed_row.Tie
use Rattle.soundness.proofs.carriage.placed_row.Reads

abbrev Start : Type 0
Start = Lts.Start Tie.the-claims Reads.Pre Reads.Post

fits-a : (s : Start) → SFits w64 s.args.r.a
fits-a s = search rules

fits-b : (s : Start) → SFits w64 s.args.r.b
fits-b s = search rules

fits-c : (s : Start) → SFits w64 s.args.r.c
fits-c s = search rules

fits-d : (s : Start) → SFits w64 s.args.r.d
fits-d s = search rules

pub returns : goal.returns
unfolding position_of
returns c =
    let s = c.before.before.before in
    c.placed.ensures ∙ (λ i. placed_of s.args.s (record { x = record { base = (arg w64 (fits-a s)).is i; offset = (arg w64 (fits-b s)).is i }; y = record { base = (arg w64 (fits-c s)).is i; offset = (arg w64 (fits-d s)).is i } }))
