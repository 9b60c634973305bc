-- Drive moves: what document 01 asks for a stroke, in exact numbers, and what an answer of floats must be to give it. Definitions only:
-- Laws.antt has what follows from them, Floats.antt why no product loses anything.
use Rattle.std.specs.Prelude.{◌≡◌, Bool, true, false, not, ◌&&◌, cond, ℕ, zero, suc, ltb, ℤ, pos, negsuc, nat_abs, ◌*ℤ◌, Float, Result, Ok, Err}
use Rattle.std.specs.Float.{binary32}
use Rattle.std.specs.Float.Ieee.{round}
use Rattle.std.specs.Float.Ieee.Exact.{HasValue}
use Rattle.exact.specs.Whole.{◌≡?◌}
use Rattle.exact.specs.Int16.{int16}
use Rattle.hpgl.specs.declared.Stroke.{Stroke}
use Rattle.drive.specs.declared.Place.{Place}
use Rattle.drive.specs.declared.Move.TheVariants.{Travel, Paint, Dot}
use Rattle.drive.specs.declared.Moves.{Moves}
use Rattle.drive.specs.declared.Moves.TheVariants.{Two, One}
use Rattle.drive.specs.declared.Refusal.{Refusal}
use Rattle.drive.specs.declared.Refusal.TheVariants.{Pitch, End}

-- ---- the answer, in exact numbers. A length is a whole number of eighths of a millimetre, as every pitch is

-- "Pitch codes 0 to 3: 0.125, 0.25, 0.5, 1." A code above the last has no pitch: `answer_of` refuses it
abbrev pub last_code : ℕ
last_code = 3

unfoldable pub pitch_of : ℕ → ℕ
pitch_of zero = 1
pitch_of (suc zero) = 2
pitch_of (suc (suc zero)) = 4
pitch_of (suc (suc (suc c))) = 8

-- A place, as two exact lengths: "units times the pitch"
pub record Spot : Type 0 where
  pub x : ℤ
  pub y : ℤ

unfoldable pub spot_of : ℤ → ℤ → ℕ → Spot
spot_of x y c = record { x = x *ℤ pos (pitch_of c); y = y *ℤ pos (pitch_of c) }

abbrev pub start_of : Stroke → ℕ → Spot
start_of s c = spot_of s.x0 s.y0 c

abbrev pub end_of : Stroke → ℕ → Spot
end_of s c = spot_of s.x1 s.y1 c

-- "Each end must be within −32768 to 32767."
unfoldable pub ends_inside_of : Stroke → Bool
ends_inside_of s = int16 s.x0 && (int16 s.y0 && (int16 s.x1 && int16 s.y1))

-- "its ends are equal"
unfoldable pub ends_equal_of : Stroke → Bool
ends_equal_of s = (s.x0 ≡? s.x1) && (s.y0 ≡? s.y1)

-- "a travel and a paint move, or one dot", or "number, no move"
pub data Answer : Type 0 where
  travel_paint : Spot → Spot → Answer
  one_dot : Spot → Answer
  refusal : ℕ → Answer

-- the causes "pitch code" and "stroke end, drive"
abbrev pub bad_pitch : ℕ
bad_pitch = 11

abbrev pub bad_end : ℕ
bad_end = 12

-- the number of each
abbrev pub number_of : Refusal → ℕ
number_of Pitch = bad_pitch
number_of End = bad_end

-- "A stroke becomes a travel and a paint move, or one dot if its ends are equal. Travel holds its start, paint its end, a dot its place." And
-- "11 before 12"
unfoldable pub answer_of : Stroke → ℕ → Answer
answer_of s c =
    cond (ltb last_code c) (refusal bad_pitch)
    (cond (not (ends_inside_of s)) (refusal bad_end)
    (cond (ends_equal_of s) (one_dot (start_of s c))
    (travel_paint (start_of s c) (end_of s c))))

-- ---- the same in floats, by the kit's account of IEEE 754 (lib.Ieee)

-- the sign bit: "zero being plus zero"
abbrev pub minus : ℤ → Bool
minus (pos n) = false
minus (negsuc n) = true

-- "exactly": the float x is k eighths of a millimetre. It is finite, has k's sign, and is |k| / 8 in size; no nan, no infinity and no minus zero is
abbrev pub Exactly : Float → ℤ → Type 0
Exactly x k = HasValue x (minus k) (nat_abs k) 8

-- the f32 that is nearest to k / 8; it is exactly that while |k| is below 2 ^ 24 (Floats.antt, `f32-exact`)
unfoldable pub f32_of : ℤ → Float
f32_of k = round binary32 (minus k) (nat_abs k) 8

-- "A place is two f32 millimetres"
unfoldable pub place_of : Spot → Place
place_of u = record { x = f32_of u.x; y = f32_of u.y }

abbrev pub ExactAt : Place → Spot → Type 0
ExactAt p u = Exactly p.x u.x × Exactly p.y u.y

-- Document 01's number and values for every case of the answer r: which moves they are, and that each place is exactly the one that is asked for
abbrev pub Gives : Result Moves Refusal → Answer → Type 0
Gives r (travel_paint u v) = (r ≡ Ok (Two (Travel (place_of u)) (Paint (place_of v)))) × (ExactAt (place_of u) u × ExactAt (place_of v) v)
Gives r (one_dot u) = (r ≡ Ok (One (Dot (place_of u)))) × ExactAt (place_of u) u
Gives r (refusal n) = (why : Refusal) × (r ≡ Err why) × (number_of why ≡ n)
