-- The sum, row by row and by columns. It stands here, beside SealLaws.antt, so that a definition of the sum that weighs otherwise is refused by the law that it breaks.
use Rattle.std.specs.Prelude.{◌≡◌, List, ℕ, suc, ◌+◌, ◌*◌, ◌-◌, ◌≤◌, ◌<◌, ℤ, pos, ◌+ℤ◌, ◌*ℤ◌, length, drop}
use Rattle.std.proofs.Common.{sym, ap, ◌∙◌, subst, arith}
use Rattle.exact.specs.Whole.{is, Z}
use Rattle.rows.specs.declared.Row.{Row}
use Rattle.rows.specs.Rows.{lay, row_at}
use Rattle.seal.specs.Seal.{weighed}
use Rattle.seal.specs.Light.{row_count, weigh_of, row_drop}
use Rattle.seal.specs.Columns.{plus_of, columns_of, columns-more}

-- the sum over the row at the place p, and the rest
pub weighed-row : (p : ℕ) (r : Row) (zs : List ℤ) → weighed (p + 1) (lay r zs) ≡ weigh_of (pos p) r +ℤ weighed (p + 5 + 1) zs
unfolding weighed weigh_of
weighed-row p r zs =
    let two : suc (p + 1) ≡ p + 2 = omega arith in
    let three : suc (suc (p + 1)) ≡ p + 3 = omega arith in
    let four : suc (suc (suc (p + 1))) ≡ p + 4 = omega arith in
    let five : suc (suc (suc (suc (p + 1)))) ≡ p + 5 = omega arith in
    let six : suc (suc (suc (suc (suc (p + 1))))) ≡ p + 5 + 1 = omega arith in
    (λ i. pos (p + 1) *ℤ r.a +ℤ (pos (two i) *ℤ r.b +ℤ (pos (three i) *ℤ r.c +ℤ (pos (four i) *ℤ r.d +ℤ (pos (five i) *ℤ r.e +ℤ weighed (six i) zs)))))
    ∙ go (pos (p + 1) *ℤ r.a) (pos (p + 2) *ℤ r.b) (pos (p + 3) *ℤ r.c) (pos (p + 4) *ℤ r.d) (pos (p + 5) *ℤ r.e) (weighed (p + 5 + 1) zs)
  where
    go : (a b c d e w : ℤ) → a +ℤ (b +ℤ (c +ℤ (d +ℤ (e +ℤ w)))) ≡ a +ℤ b +ℤ c +ℤ d +ℤ e +ℤ w
    go a b c d e w = rw (is a, is b, is c, is d, is e, is w) (simp Z (omega arith))

-- row k is weighed, and those after it are left
pub weighed-more : (zs : List ℤ) (k : ℕ) → length zs ≡ row_count * 5 → k < row_count →
    weighed (k * 5 + 1) (drop (k * 5) zs) ≡ weigh_of (pos (k * 5)) (row_at zs (k * 5)) +ℤ weighed ((k + 1) * 5 + 1) (drop ((k + 1) * 5) zs)
weighed-more zs k e h =
    let next : k * 5 + 5 ≡ (k + 1) * 5 = omega arith in
    ap (weighed (k * 5 + 1)) (row_drop zs (k * 5) (omega (arith, e, h))) ∙ weighed-row (k * 5) (row_at zs (k * 5)) (drop (k * 5 + 5) zs)
    ∙ ap (λ (n : ℕ). weigh_of (pos (k * 5)) (row_at zs (k * 5)) +ℤ weighed (n + 1) (drop n zs)) next

-- so the row before those from k on, in the sum
pub columns-step : (zs : List ℤ) (k : ℕ) (part all : Row) → length zs ≡ row_count * 5 → 0 < k → k ≤ row_count → columns_of (pos (k * 5)) part all ≡ weighed (k * 5 + 1) (drop (k * 5) zs) →
    columns_of (pos ((k - 1) * 5)) (plus_of part (row_at zs ((k - 1) * 5))) (plus_of all part) ≡ weighed ((k - 1) * 5 + 1) (drop ((k - 1) * 5) zs)
columns-step zs k part all e l h inv =
    let j : ℕ = k - 1 in
    let next : k ≡ j + 1 = omega (arith, l) in
    let places : j * 5 + 5 ≡ (j + 1) * 5 = omega arith in
    let r : Row = row_at zs (j * 5) in
    let rest : columns_of (pos ((j + 1) * 5)) part all ≡ weighed ((j + 1) * 5 + 1) (drop ((j + 1) * 5) zs) = subst (λ (n : ℕ). columns_of (pos (n * 5)) part all ≡ weighed (n * 5 + 1) (drop (n * 5) zs)) next inv in
    columns-more (pos (j * 5)) r part all ∙ ap (λ (w : ℤ). weigh_of (pos (j * 5)) r +ℤ w) (ap (λ (n : ℕ). columns_of (pos n) part all) places ∙ rest) ∙ sym (weighed-more zs j e (omega (arith, l, h)))
