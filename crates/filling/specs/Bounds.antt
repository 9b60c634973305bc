-- The numbers that the code takes, and how large the others are that it makes of them.
use Rattle.std.specs.Prelude.{ℕ, ◌+◌, ℤ, neg_ℤ}
use Rattle.exact.specs.Fit.{Bd, bd-neg}
use Rattle.exact.specs.Steps.{floor-size}
use Rattle.clip.specs.Reach.{reach, SmallPoint}
use Rattle.turns.specs.Turn.{lesser_of}
use Rattle.turns.proofs.BoxLaws.{lesser-by, greater-by}
use Rattle.filling.specs.Filling.{lower, upper, row_from, first_row, past_row}
use Rattle.filling.specs.declared.Side.{Side}

pub record SmallSide (e : Side) : Type 0 where
  pub from : SmallPoint e.from
  pub to : SmallPoint e.to

-- a row's number
abbrev pub most_row : ℕ
most_row = reach + 1

pub lower-size : {e : Side} → SmallSide e → Bd (lower e) reach
unfolding lower
lower-size {e} h = lesser-by (λ (z : ℤ). Bd z reach) e.from.y e.to.y (λ k. h.from.y) (λ k. h.to.y)

pub upper-size : {e : Side} → SmallSide e → Bd (upper e) reach
unfolding upper
upper-size {e} h = greater-by (λ (z : ℤ). Bd z reach) e.from.y e.to.y (λ k. h.from.y) (λ k. h.to.y)

row-size : (s : ℤ) {y : ℤ} → Bd y reach → Bd (row_from s y) most_row
unfolding row_from
row-size s {y} h = bd-neg (floor-size (neg_ℤ y) s (bd-neg h))

pub first-size : (s : ℤ) {e : Side} → SmallSide e → Bd (first_row s e) most_row
unfolding first_row
first-size s h = row-size s (lower-size h)

pub past-size : (s : ℤ) {e : Side} → SmallSide e → Bd (past_row s e) most_row
unfolding past_row
past-size s h = row-size s (upper-size h)

pub less-size : {a b : ℤ} {n : ℕ} → Bd a n → Bd b n → Bd (lesser_of a b) n
less-size {a} {b} {n} h k = lesser-by (λ (z : ℤ). Bd z n) a b (λ l. h) (λ l. k)
