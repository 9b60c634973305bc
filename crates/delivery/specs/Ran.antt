-- A run over an input: all that its reads gave, and all the text that was handed over. No contract of the kit says which bytes a read gives or a write
-- takes. So these are lists that exist, as long as the code has counted at its edge, the last block among them as it lies in memory; and no text is
-- handed over but the next part of what is printed of all these bytes, with places counted from the first of them.
use Rattle.std.specs.Prelude.{◌≡◌, ℕ, ◌+◌, ◌%◌, ◌^◌, List, [], ◌++◌, length, ◌≢◌, Option, Some, None, Result, Err, IfOk, IfErr}
use Rattle.clip.specs.declared.Rect.{Rect}
use Rattle.hpgl.specs.declared.State.{State}
use Rattle.hpgl.specs.Machine.{fresh_state, fresh_number}
use Rattle.machine.specs.declared.Machine.{Machine}
use Rattle.delivery.specs.declared.edge.Tally.{Tally}
use Rattle.delivery.specs.declared.files.Fault.{Fault}
use Rattle.delivery.specs.declared.files.Fault.TheVariants.{NoLimits, Refused, Undelivered}
use Rattle.printed.specs.Printed.{printed}

-- How far a run is that began with the machine `started`: so many bytes were read, this block the last of them, and so many bytes of text were handed
-- over. Whatever comes later, what is printed of all bytes is the text handed over, and then the rest.
pub record Reached (started : State) (read handed : ℕ) (block : List ℕ) (rest : List ℕ → List ℕ) : Type 0 where
  pub earlier : List ℕ
  pub text : List ℕ
  pub bytes : read ≡ length (earlier ++ block)
  pub count : handed ≡ length text % 2 ^ 64
  pub prints : (later : List ℕ) → printed started ((earlier ++ block) ++ later) 0 ≡ text ++ rest later

-- a text that may be handed over: the rest begins with it
pub record Next (started : State) (read handed : ℕ) (block text : List ℕ) : Type 0 where
  pub rest : List ℕ → List ℕ
  pub reached : Reached started read handed block (λ later. text ++ rest later)

-- a block was read, with `before` bytes before it, and the machine m is to print it
pub record Begins (started m : State) (before read handed : ℕ) (block : List ℕ) : Type 0 where
  pub reads : read ≡ before + length block
  pub reached : Reached started read handed block (λ later. printed m (block ++ later) before)

-- what a block leaves: where all was delivered, the rest is what the machine m that is left prints of later bytes, and with none nothing
pub record Leaves (started : State) (read handed : ℕ) (block : List ℕ) (left : Result Machine Fault) : Type 0 where
  pub rest : List ℕ → List ℕ
  pub reached : Reached started read handed block rest
  pub all : IfOk left (λ m. ((later : List ℕ) → rest later ≡ printed m.state later read) × (printed m.state [] read ≡ []))
  pub fault : IfErr left (λ f. f ≡ Undelivered)

-- how a run ends
abbrev pub End : Type 0
End = Result (Unit {0}) Fault

-- What a run came to: the text handed over is what is printed of all the bytes that were read; only where a write failed a rest may be missing.
pub record Ran (started : State) (counted : Tally) (end : End) : Type 0 where
  pub bytes : List ℕ
  pub text : List ℕ
  pub rest : List ℕ
  pub read : counted.read ≡ length bytes
  pub handed : counted.handed ≡ length text % 2 ^ 64
  pub prints : printed started bytes 0 ≡ text ++ rest
  pub whole : (end ≢ Err Undelivered) → rest ≡ []

-- nothing was read, and nothing was handed over
abbrev pub Unbegun : Fault → Tally → End → Type 0
Unbegun fault counted end = (end ≡ Err fault) × (counted.read ≡ 0) × (counted.handed ≡ 0)

-- from a fresh machine with these hard limits
pub record Within (hard : Rect) (counted : Tally) (end : End) : Type 0 where
  pub good : fresh_number hard ≡ 0 → Ran (fresh_state hard) counted end
  pub bad : (fresh_number hard ≢ 0) → Unbegun Refused counted end

-- what the program answers to the limits that it is asked for
abbrev pub Answers : Option Rect → Tally → End → Type 0
Answers (Some hard) counted end = Within hard counted end
Answers None counted end = Unbegun NoLimits counted end
