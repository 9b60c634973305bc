-- For the code that reads a turn's table, `rows_of`: the four numbers as the code has them; and what `along` asks of two of them, a row or a column, and what it
-- makes of them.
use mathlib.Core.Path.{◌≡◌, ◌∙◌}
use mathlib.Core.List.{List, []}
use Prim.Native.Nat.{ℕ, ◌<◌, ◌^◌}
use native.Mathlib.Omega.{arith}
use lib.IntN.{ℤ, pos}
use lib.ListN.{get_or}
use lib.Signed.{mag}
use mir.Syntax.{w64}
use mir.Val.{hbits}
use Rattle.exact.specs.Fit.{Bd, Num, m64, sized, val, got}
use Rattle.clip.specs.Reach.{SmallPoint}
use Rattle.clip.specs.declared.Point.{Point}
use Rattle.turns.specs.Turn.{turn_count, table_of, turn_of, along_of}
use Rattle.turns.proofs.TurnLaws.{turn-size}

-- ---- the table, as an array of arrays

-- an index of 0 or 1 is inside a row, and inside the two rows
pub low : {C : Type 0} → C → 0 < 2
low c = omega arith

pub high : {C : Type 0} → C → 1 < 2
high c = omega arith

-- the number that the code reads in row i and column j
abbrev read : List (List ℤ) → ℕ → ℕ → ℤ
read l i j = m64 (get_or (get_or l i []) j (pos 0))

-- l is the table of turn t: each number that is read is the turn's, of size at most 1
pub record Table (l : List (List ℤ)) (t : ℕ) : Type 0 where
  pub xx : Num (read l 0 0) (turn_of t 0 0) 1
  pub xy : Num (read l 0 1) (turn_of t 0 1) 1
  pub yx : Num (read l 1 0) (turn_of t 1 0) 1
  pub yy : Num (read l 1 1) (turn_of t 1 1) 1

pub table : {l : List (List ℤ)} {t : ℕ} → l ≡ table_of t → t < turn_count → Table l t
unfolding turn_of
table {l} {t} e h = record { xx = number 0 0 (low h) (low h); xy = number 0 1 (low h) (high h); yx = number 1 0 (high h) (low h); yy = number 1 1 (high h) (high h) }
  where
    number : (i j : ℕ) → i < 2 → j < 2 → Num (read l i j) (turn_of t i j) 1
    number i j a b = rw e (val w64 (turn-size t i j h a b) tt)

-- ---- `along` of two of its numbers

pub along-asks : {a' a b' b : ℤ} {p : Point} → Num a' a 1 → Num b' b 1 → SmallPoint p → Bd a' 1 × Bd b' 1 × SmallPoint p
along-asks a b h = (sized a tt, sized b tt, h)

pub along-is : {a' a b' b z : ℤ} (p : Point) → Num a' a 1 → Num b' b 1 → mag z < 2 ^ hbits w64 → z ≡ along_of a' b' p.x p.y → m64 z ≡ along_of a b p.x p.y
along-is p a b ok e = got w64 ok ∙ e ∙ (λ i. along_of (a.is i) (b.is i) p.x p.y)
