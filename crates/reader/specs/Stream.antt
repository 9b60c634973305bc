-- What a whole text means: any list of bytes.
use Rattle.std.specs.Prelude.{ℕ, suc, ◌≡◌, List, [], ◌∷◌}
use Prim.Native.Char.{code}
use Prim.Native.String as string
use Rattle.numerals.specs.declared.number.Number.{Number}
use Rattle.reader.specs.declared.Numbers.{Numbers}
use Rattle.reader.specs.declared.Event.{Event}
use Rattle.reader.specs.declared.Event.TheVariants.{Nothing, Named, Pair, Ended, Refused}
use Rattle.reader.specs.declared.Mode.{Mode}
use Rattle.reader.specs.declared.Reader.{Reader}
use Rattle.reader.specs.declared.Step.{Step}
use Rattle.reader.specs.Reader.{label_end, fresh_reader}
use Rattle.reader.specs.Step.{step_of}

-- A reader by its parts: the instruction, its numbers so far, the mode, and the number that is open or was the last.
abbrev pub reader : ℕ → Numbers → Mode → Number → Reader
reader op ns m n = record { mode = m; op = op; numbers = ns; number = n }

-- What a byte leaves, and what it means.
infix 50 ◌telling◌
abbrev pub ◌telling◌ : Reader → Event → Step
r telling e = record { reader = r; event = e }

-- An event that is more than Nothing.
abbrev Loud : Event → Type 0
Loud Nothing = ⊥
Loud (Named op) = Unit {0}
Loud (Pair p) = Unit {0}
Loud (Ended op ns) = Unit {0}
Loud (Refused n) = Unit {0}

-- The bytes lead from one reader to another, and the events are all that they mean: a byte that means nothing yet has none.
pub data Means : Reader → List ℕ → List Event → Reader → Type 0 where
  done : {r : Reader} → Means r [] [] r
  quiet :
      {r q s : Reader} {b : ℕ} {bs : List ℕ} {es : List Event}
      → step_of r b ≡ q telling Nothing
      → Means q bs es s
      → Means r (b ∷ bs) es s
  loud :
      {r q s : Reader} {e : Event} {b : ℕ} {bs : List ℕ} {es : List Event}
      → Loud e
      → step_of r b ≡ q telling e
      → Means q bs es s
      → Means r (b ∷ bs) (e ∷ es) s

-- A text without byte 3.
abbrev pub NoEnd : List ℕ → Type 0
NoEnd [] = Unit {0}
NoEnd (b ∷ bs) = (b ≡ label_end → ⊥) × NoEnd bs

-- The bytes of a text in ASCII.
unfoldable pub bytes : string.String → List ℕ
bytes string.[] = []
bytes (string.◌∷◌ c s) = code c ∷ bytes s

-- An event and the place of its byte, counted from 1.
infix 80 ◌at◌
pub data EventAt : Type 0 where
  ◌at◌ : Event → ℕ → EventAt

unfoldable pub tell : Event → ℕ → List EventAt → List EventAt
tell Nothing k es = es
tell (Named op) k es = Named op at k ∷ es
tell (Pair p) k es = Pair p at k ∷ es
tell (Ended op ns) k es = Ended op ns at k ∷ es
tell (Refused n) k es = Refused n at k ∷ es

-- The events of bytes, the first of which has the place k, but for Nothing.
unfoldable pub tells : Reader → ℕ → List ℕ → List EventAt
tells r k [] = []
tells r k (b ∷ bs) = tell (step_of r b).event k (tells (step_of r b).reader (suc k) bs)

unfoldable pub reads : string.String → List EventAt
reads s = tells fresh_reader 1 (bytes s)
