-- A feed told as a plot is the feed.
use Rattle.std.specs.Prelude.{◌≡◌, refl, List, [], ◌∷◌, map, ℕ, ℤ, pos}
use Rattle.std.proofs.Common.{ap}
use Rattle.std.proofs.lemmas.List.{length-map}
use Rattle.hpgl.specs.declared.Stroke.{Stroke}
use Rattle.feeding.specs.Feed as F
use Rattle.feeding.specs.Plot.{stroke, numbers_of, laid_marks}
use Rattle.gathering.specs.Gather.{marked}
use Rattle.machine.specs.Gather.{gathered_as, gathered_of, plotted_of}

strokes-numbers : (ss : List Stroke) → numbers_of (map stroke ss) ≡ F.numbers_of ss
unfolding numbers_of F.numbers_of
strokes-numbers [] = refl
strokes-numbers (s ∷ ss) = ap (λ (zs : List ℤ). pos s.pen ∷ s.x0 ∷ s.y0 ∷ s.x1 ∷ s.y1 ∷ zs) (strokes-numbers ss)

pub marked-answer : (f : F.Feed) → plotted_of (marked f) ≡ gathered_of f
marked-answer f = ap (λ (k : ℕ). gathered_as f.state f.taken k f.number) (length-map f.strokes stroke)

pub marked-laid : (f : F.Feed) (numbers : List ℤ) → laid_marks (marked f).marks numbers ≡ F.laid_numbers f.strokes numbers
marked-laid f numbers = rw (strokes-numbers f.strokes) refl
