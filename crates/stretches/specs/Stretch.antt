-- A stretch: bytes that are no letters, and a machine outside an instruction that meets them.
use Rattle.std.specs.Prelude.{◌≡◌, Bool, true, false, ℕ}
use Rattle.numerals.specs.declared.bytes.Class.{Class}
use Rattle.numerals.specs.declared.bytes.Class.TheVariants.{Blank, Semicolon, Letter, Digit, Sign, Point, Other}
use Rattle.numerals.specs.Bytes.{class_of}
use Rattle.reader.specs.Inside.{inside}
use Rattle.reader.specs.Reader.{unknown}
use Rattle.hpgl.specs.declared.State.{State}
use Rattle.hpgl.specs.Machine.{waiting, replying}
use Rattle.hpgl.specs.Valid.{Every}
use Rattle.feeding.specs.Plot.{Mark, stroke, refusal, Plot}

unfoldable pub is_letter : Class → Bool
is_letter Blank = false
is_letter Semicolon = false
is_letter (Letter l) = true
is_letter (Digit d) = false
is_letter (Sign s) = false
is_letter Point = false
is_letter Other = false

abbrev pub NoLetter : ℕ → Type 0
NoLetter b = is_letter (class_of b) ≡ false

-- neither a segment nor a reply waits, and the reader is between instructions, after a first letter, passing over what a refusal left, or in a label's text
pub record Outside (m : State) : Type 0 where
  pub idle : waiting m.work ≡ 0
  pub silent : replying m.work ≡ false
  pub out : inside m.reader.mode ≡ false

-- "unknown byte or name, number with no instruction: 1"
unfoldable pub Unknown : Mark → Type 0
Unknown (stroke s) = ⊥
Unknown (refusal n t) = n ≡ unknown

-- what a plot of a stretch leaves: refusals with 1 alone, and a machine that may meet the next stretch
pub record Refuses (f : Plot) : Type 0 where
  pub marks : Every Unknown f.marks
  pub outside : Outside f.state
