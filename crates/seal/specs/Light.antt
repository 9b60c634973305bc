-- How large the numbers of a list may be, so that its sum fits an i64: those of the rows before the edges as a centre of a circle, those of its other rows as a place on the page.
use Rattle.std.specs.Prelude.{◌≡◌, cond, List, ◌∷◌, ℕ, suc, ◌+◌, ◌*◌, ◌≤◌, ◌<◌, ltb, ℤ, pos, ◌+ℤ◌, ◌*ℤ◌, length, get_or, drop}
use Rattle.std.proofs.Common.{ap, ◌∙◌, arith, length-drop, drop_of_length-le, drop-cons}
use Rattle.exact.specs.Fit.{Bd}
use Rattle.rows.specs.declared.Row.{Row}
use Rattle.rows.specs.Rows.{lay, row_at}
use Rattle.seal.specs.Seal.{weighed}

-- how many rows, and how many of them before the edges
abbrev pub row_count : ℕ
row_count = 129

abbrev pub head_count : ℕ
head_count = 17

-- the largest number of row k
unfoldable pub most_at : ℕ → ℕ
most_at k = cond (ltb k head_count) 2000000001000001 1000000

pub record LightRow (n : ℕ) (r : Row) : Type 0 where
  pub a : Bd r.a n
  pub b : Bd r.b n
  pub c : Bd r.c n
  pub d : Bd r.d n
  pub e : Bd r.e n

pub record Light (zs : List ℤ) : Type 0 where
  pub long : length zs ≡ row_count * 5
  pub row : (k : ℕ) → k < row_count → LightRow (most_at k) (row_at zs (k * 5))

-- ---- a row's part of the sum

-- with p numbers before it
unfoldable pub weigh_of : ℤ → Row → ℤ
weigh_of p r = (p +ℤ pos 1) *ℤ r.a +ℤ (p +ℤ pos 2) *ℤ r.b +ℤ (p +ℤ pos 3) *ℤ r.c +ℤ (p +ℤ pos 4) *ℤ r.d +ℤ (p +ℤ pos 5) *ℤ r.e

-- ---- the sum, row by row

-- a list from a place on is the row there, and the list from the next row on
pub row_drop : (zs : List ℤ) (i : ℕ) → i + 5 ≤ length zs → drop i zs ≡ lay (row_at zs i) (drop (i + 5) zs)
unfolding row_at
row_drop zs i h =
    step i (i + 1) (omega (arith, h)) (omega arith)
    ∙ ap (λ (l : List ℤ). get_or zs i (pos 0) ∷ l)
    (step (i + 1) (i + 2) (omega (arith, h)) (omega arith)
    ∙ ap (λ (l : List ℤ). get_or zs (i + 1) (pos 0) ∷ l)
    (step (i + 2) (i + 3) (omega (arith, h)) (omega arith)
    ∙ ap (λ (l : List ℤ). get_or zs (i + 2) (pos 0) ∷ l)
    (step (i + 3) (i + 4) (omega (arith, h)) (omega arith)
    ∙ ap (λ (l : List ℤ). get_or zs (i + 3) (pos 0) ∷ l) (step (i + 4) (i + 5) (omega (arith, h)) (omega arith)))))
  where
    step : (j k : ℕ) → j < length zs → suc j ≡ k → drop j zs ≡ get_or zs j (pos 0) ∷ drop k zs
    step j k l e = drop-cons zs j (pos 0) l ∙ ap (λ (n : ℕ). get_or zs j (pos 0) ∷ drop n zs) e

-- none is left
pub weighed-all : (zs : List ℤ) (k : ℕ) → length zs ≡ row_count * 5 → row_count ≤ k → weighed (k * 5 + 1) (drop (k * 5) zs) ≡ pos 0
unfolding weighed
weighed-all zs k e h = ap (weighed (k * 5 + 1)) (drop_of_length-le zs {i = k * 5} (omega (arith, e, h)))

-- ---- a list whose rest is light has a header

pub header-long : (zs : List ℤ) → Light (drop 5 zs) → length zs ≡ 5 + row_count * 5
header-long zs h = omega (arith, h.long, length-drop 5 zs)
