-- The proof of `ends_inside`: by its four tests.
use Rattle.std.proofs.Common.{rules}
use Rattle.drive.specs.Drive.{ends_inside_of}
use Rattle.drive.proofs.ends_inside.Goals as goal
use Rattle.drive.proofs.ends_inside.Goals.{then-int16, else-int16, then-int16-2, else-int16-2}

pub returns-then-int16-3 : goal.returns-then-int16-3
unfolding ends_inside_of
returns-then-int16-3 c = elim c.if-int16-2.branch [
  | then-int16-2 v ↦ elim c.if-int16.branch [ then-int16 w ↦ search rules | else-int16 w ↦ search rules ]
  | else-int16-2 v ↦ search rules
]

pub returns-else-int16-3 : goal.returns-else-int16-3
unfolding ends_inside_of
returns-else-int16-3 c = elim c.if-int16-2.branch [
  | then-int16-2 v ↦ elim c.if-int16.branch [ then-int16 w ↦ search rules | else-int16 w ↦ search rules ]
  | else-int16-2 v ↦ elim c.if-int16.branch [ then-int16 w ↦ search rules | else-int16 w ↦ search rules ]
]
