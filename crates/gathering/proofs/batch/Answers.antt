-- The proof of `batch`: by the kind of work.
use mathlib.Core.Path.{sym, subst}
use Prim.Native.Nat.{◌<◌}
use Rattle.hpgl.specs.declared.Work.{Work}
use Rattle.hpgl.specs.Machine.{waiting}
use Rattle.gathering.specs.Far.{Batching, Drew}
use Rattle.gathering.proofs.batch.Goals as goal

pub chords-requires : goal.chords-requires
chords-requires c =
    let a = c.args in
    (subst (λ (w : Work). Batching a.numbers.now a.frame a.pen w a.before) c.in-Chords.is c.requires.0, c.requires.1, c.requires.2)

pub returns-in-Chords : goal.returns-in-Chords
unfolding waiting
returns-in-Chords c =
    let a = c.args in record { work_bound = subst (λ (w : Work). waiting c.chords.result.work < waiting w) (sym c.in-Chords.is) c.chords.ensures.work_bound; drew = subst (λ (w : Work). (d : Batching a.numbers.now a.frame a.pen w a.before) → Drew d c.chords.new.numbers c.chords.result.work c.chords.result.count) (sym c.in-Chords.is) c.chords.ensures.drew }
