-- The proof of `work_rows`: by its five arms.
use Rattle.std.proofs.Common.{rules}
use Rattle.saved.specs.Saved as S
use Rattle.saving.proofs.work.work_rows.Goals as goal

pub returns-in-Nothing : goal.returns-in-Nothing
unfolding S.work_row S.work_across S.work_along S.work_start
returns-in-Nothing c = search (rules, c.in-Nothing.is)

pub returns-in-Line : goal.returns-in-Line
unfolding S.work_row S.work_across S.work_along S.work_start
returns-in-Line c = search (rules, c.in-Line.is)

pub returns-in-Chords : goal.returns-in-Chords
unfolding S.work_row S.work_across S.work_along S.work_start
returns-in-Chords c = search (rules, c.in-Chords.is)

pub returns-in-Edges : goal.returns-in-Edges
unfolding S.work_row S.work_across S.work_along S.work_start
returns-in-Edges c = search (rules, c.in-Edges.is)

pub returns-in-Answer : goal.returns-in-Answer
unfolding S.work_row S.work_across S.work_along S.work_start
returns-in-Answer c = search (rules, c.in-Answer.is)
