-- THE CLAIM of document 02, CR 6: "Fed to a fresh machine whose hard limits contain all ends, the text gives just that list, dots included."
-- It is over feed's own definition, for lists of any length. RoundTripProof.antt proves it.
use Rattle.std.specs.Prelude.{true, List, ◌≡◌, ℕ, ◌≤◌, length, take}
use Rattle.clip.specs.declared.Rect.{Rect}
use Rattle.clip.specs.Clip.{inside}
use Rattle.hpgl.specs.declared.Stroke.{Stroke}
use Rattle.hpgl.specs.Place.{point}
use Rattle.hpgl.specs.Machine.{hard_limits, fresh_state}
use Rattle.hpgl.specs.Valid.{Every}
use Rattle.feeding.specs.Feed.{feed_of}
use Rattle.redrawn.specs.Redrawn.{text_of, number_of, written_of, length_in, output_of}
use Rattle.redrawn.specs.Causes.{Fit}

-- "whose hard limits contain all ends": edges included
pub record EndsIn (h : Rect) (s : Stroke) : Type 0 where
  pub start : inside h (point s.x0 s.y0) ≡ true
  pub end : inside h (point s.x1 s.y1) ≡ true

-- "the text gives just that list": fed to a fresh machine, with so many records, it is taken whole, answers 0, and what is stored is the list
abbrev pub ReadsBack : Rect → List Stroke → List ℕ → ℕ → Type 0
ReadsBack r ss text room = let f = feed_of (fresh_state r) text room in (f.strokes ≡ ss) × (f.taken ≡ length text) × (f.number ≡ 0)

-- for any four numbers as limits, those of a 10 too, which make the limits 0,0,1,1; any strokes with pens and ends as document 02 asks; and a record for each, or more
abbrev pub RoundTrip : Type 0
RoundTrip =
    (r : Rect) (ss : List Stroke) → Every Fit ss → Every (EndsIn (hard_limits r)) ss → (room : ℕ) → length ss ≤ room → ReadsBack r ss (text_of ss) room

-- and of what the call leaves in any output: the bytes that it says it wrote
abbrev pub WrittenBack : Type 0
WrittenBack =
    (r : Rect) (ss : List Stroke) (out : List ℕ) → number_of ss (length out) ≡ 0 → Every (EndsIn (hard_limits r)) ss → (room : ℕ) → length ss ≤ room →
    ReadsBack r ss (take (length_in (written_of ss (length out))) (output_of ss out)) room
