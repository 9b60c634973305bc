-- The sum by columns: rows are put together number by number, from the last to the first, so that no number needs a product of its own.
-- Why it is the sum: a row that stands five places further on weighs five times its numbers more, and a row is in as many parts as there are rows before it.
use Rattle.std.specs.Prelude.{◌≡◌, ℕ, zero, suc, ◌+◌, ◌*◌, ◌-◌, ◌≤◌, ◌<◌, ℤ, pos, ◌+ℤ◌, ◌*ℤ◌}
use Rattle.std.proofs.Common.{sym, ap, ap₂, ◌∙◌, arith, leb→le}
use Rattle.exact.specs.Whole.{is, Z}
use Rattle.exact.specs.Fit.{Bd, ◌⊞◌, ◌⊠◌, lit}
use Rattle.rows.specs.declared.Row.{Row}
use Rattle.rows.specs.Rows.{row}
use Rattle.seal.specs.Light.{row_count, most_at, LightRow, weigh_of}

unfoldable pub plus_of : Row → Row → Row
plus_of p q = row (p.a +ℤ q.a) (p.b +ℤ q.b) (p.c +ℤ q.c) (p.d +ℤ q.d) (p.e +ℤ q.e)

unfoldable pub total_of : Row → ℤ
total_of r = r.a +ℤ r.b +ℤ r.c +ℤ r.d +ℤ r.e

-- what the rows from some place on weigh, by their sum and that of the parts
unfoldable pub columns_of : ℤ → Row → Row → ℤ
columns_of p part all = pos 5 *ℤ total_of all +ℤ weigh_of p part

abbrev pub no_row : Row
no_row = row (pos 0) (pos 0) (pos 0) (pos 0) (pos 0)

-- what a row of std's default is
pub row-none : (r : Row) → r.a ≡ pos 0 × (r.b ≡ pos 0 × (r.c ≡ pos 0 × (r.d ≡ pos 0 × r.e ≡ pos 0))) → r ≡ no_row
row-none r h = λ i. row (h.0 i) (h.1.0 i) (h.1.1.0 i) (h.1.1.1.0 i) (h.1.1.1.1 i)

pub columns-none : (p : ℕ) → columns_of (pos p) no_row no_row ≡ pos 0
unfolding columns_of total_of weigh_of
columns-none p = go (pos p)
  where
    go : (z : ℤ) → pos 5 *ℤ pos 0 +ℤ ((z +ℤ pos 1) *ℤ pos 0 +ℤ (z +ℤ pos 2) *ℤ pos 0 +ℤ (z +ℤ pos 3) *ℤ pos 0 +ℤ (z +ℤ pos 4) *ℤ pos 0 +ℤ (z +ℤ pos 5) *ℤ pos 0) ≡ pos 0
    go z = rw (is z) (simp Z (omega arith))

-- ---- one row more

total-plus : (p q : Row) → total_of (plus_of p q) ≡ total_of p +ℤ total_of q
unfolding total_of plus_of
total-plus p q = regroup p.a q.a p.b q.b p.c q.c p.d q.d p.e q.e
  where
    regroup : (a f b g c h d i e j : ℤ) → a +ℤ f +ℤ (b +ℤ g) +ℤ (c +ℤ h) +ℤ (d +ℤ i) +ℤ (e +ℤ j) ≡ a +ℤ b +ℤ c +ℤ d +ℤ e +ℤ (f +ℤ g +ℤ h +ℤ i +ℤ j)
    regroup a f b g c h d i e j = rw (is a, is f, is b, is g, is c, is h, is d, is i, is e, is j) (simp Z (omega arith))

times-plus : (p x y : ℤ) → p *ℤ (x +ℤ y) ≡ p *ℤ x +ℤ p *ℤ y
times-plus p x y = rw (is p, is x, is y) (simp Z (omega arith))

weigh-plus : (p : ℤ) (q r : Row) → weigh_of p (plus_of q r) ≡ weigh_of p q +ℤ weigh_of p r
unfolding weigh_of plus_of
weigh-plus p q r =
    let a = times-plus (p +ℤ pos 1) q.a r.a in
    let b = times-plus (p +ℤ pos 2) q.b r.b in
    let c = times-plus (p +ℤ pos 3) q.c r.c in
    let d = times-plus (p +ℤ pos 4) q.d r.d in
    let e = times-plus (p +ℤ pos 5) q.e r.e in
    let at : ℕ → ℤ = λ j. p +ℤ pos j in
    (λ i. a i +ℤ b i +ℤ c i +ℤ d i +ℤ e i)
    ∙ regroup (at 1 *ℤ q.a) (at 1 *ℤ r.a) (at 2 *ℤ q.b) (at 2 *ℤ r.b) (at 3 *ℤ q.c) (at 3 *ℤ r.c) (at 4 *ℤ q.d) (at 4 *ℤ r.d) (at 5 *ℤ q.e) (at 5 *ℤ r.e)
  where
    regroup : (a f b g c h d i e j : ℤ) → a +ℤ f +ℤ (b +ℤ g) +ℤ (c +ℤ h) +ℤ (d +ℤ i) +ℤ (e +ℤ j) ≡ a +ℤ b +ℤ c +ℤ d +ℤ e +ℤ (f +ℤ g +ℤ h +ℤ i +ℤ j)
    regroup a f b g c h d i e j = rw (is a, is f, is b, is g, is c, is h, is d, is i, is e, is j) (simp Z (omega arith))

further : (p q x : ℤ) → (p +ℤ pos 5 +ℤ q) *ℤ x ≡ (p +ℤ q) *ℤ x +ℤ pos 5 *ℤ x
further p q x = rw (is p, is q, is x) (simp Z (omega arith))

-- five places further on
weigh-further : (p : ℤ) (r : Row) → weigh_of (p +ℤ pos 5) r ≡ weigh_of p r +ℤ pos 5 *ℤ total_of r
unfolding weigh_of total_of
weigh-further p r =
    let a = further p (pos 1) r.a in
    let b = further p (pos 2) r.b in
    let c = further p (pos 3) r.c in
    let d = further p (pos 4) r.d in
    let e = further p (pos 5) r.e in
    (λ i. a i +ℤ b i +ℤ c i +ℤ d i +ℤ e i) ∙ regroup ((p +ℤ pos 1) *ℤ r.a) ((p +ℤ pos 2) *ℤ r.b) ((p +ℤ pos 3) *ℤ r.c) ((p +ℤ pos 4) *ℤ r.d) ((p +ℤ pos 5) *ℤ r.e) r.a r.b r.c r.d r.e
  where
    regroup : (a b c d e f g h i j : ℤ) → a +ℤ pos 5 *ℤ f +ℤ (b +ℤ pos 5 *ℤ g) +ℤ (c +ℤ pos 5 *ℤ h) +ℤ (d +ℤ pos 5 *ℤ i) +ℤ (e +ℤ pos 5 *ℤ j) ≡ a +ℤ b +ℤ c +ℤ d +ℤ e +ℤ pos 5 *ℤ (f +ℤ g +ℤ h +ℤ i +ℤ j)
    regroup a b c d e f g h i j = rw (is a, is b, is c, is d, is e, is f, is g, is h, is i, is j) (simp Z (omega arith))

-- a row before the others, and the part with what it was before
pub columns-more : (p : ℤ) (r part all : Row) → columns_of p (plus_of part r) (plus_of all part) ≡ weigh_of p r +ℤ columns_of (p +ℤ pos 5) part all
unfolding columns_of
columns-more p r part all =
    ap₂ (λ (x y : ℤ). pos 5 *ℤ x +ℤ y) (total-plus all part) (weigh-plus p part r)
    ∙ regroup (total_of all) (total_of part) (weigh_of p part) (weigh_of p r)
    ∙ ap (λ (x : ℤ). weigh_of p r +ℤ (pos 5 *ℤ total_of all +ℤ x)) (sym (weigh-further p part))
  where
    regroup : (a t w r : ℤ) → pos 5 *ℤ (a +ℤ t) +ℤ (w +ℤ r) ≡ r +ℤ (pos 5 *ℤ a +ℤ (w +ℤ pos 5 *ℤ t))
    regroup a t w r = rw (is a, is t, is w, is r) (simp Z (omega arith))

-- ---- how large they are, once n rows are put together

unfoldable pub part_bound : ℕ → ℕ
part_bound zero = 0
part_bound (suc n) = part_bound n + most_at (row_count - suc n)

unfoldable pub all_bound : ℕ → ℕ
all_bound zero = 0
all_bound (suc n) = all_bound n + part_bound n

-- what a number of each is at most, and of either
abbrev pub most_part : ℕ
most_part = 35000000000000000

abbrev pub most_all : ℕ
most_all = 273000000000000000

abbrev pub most_column : ℕ
most_column = 1000000000000000000

part-grows : (n j : ℕ) → part_bound n ≤ part_bound (n + j)
unfolding part_bound
part-grows n zero = let e : n + 0 ≡ n = omega arith in rw e (omega arith)
part-grows n (suc j) = let e : n + suc j ≡ suc (n + j) = omega arith in rw e (omega (arith, part-grows n j))

all-grows : (n j : ℕ) → all_bound n ≤ all_bound (n + j)
unfolding all_bound
all-grows n zero = let e : n + 0 ≡ n = omega arith in rw e (omega arith)
all-grows n (suc j) = let e : n + suc j ≡ suc (n + j) = omega arith in rw e (omega (arith, all-grows n j))

pub part-most : (n : ℕ) → n ≤ row_count → part_bound n ≤ most_part
unfolding part_bound most_at
part-most n h =
    let all : n + (row_count - n) ≡ row_count = omega (arith, h) in
    let last : part_bound (n + (row_count - n)) ≡ part_bound row_count = ap part_bound all in
    let whole : part_bound row_count ≤ most_part = leb→le (part_bound row_count) most_part tt in
    omega (arith, part-grows n (row_count - n), last, whole)

pub all_most : (n : ℕ) → n ≤ row_count → all_bound n ≤ most_all
unfolding all_bound part_bound most_at
all_most n h =
    let all : n + (row_count - n) ≡ row_count = omega (arith, h) in
    let last : all_bound (n + (row_count - n)) ≡ all_bound row_count = ap all_bound all in
    let whole : all_bound row_count ≤ most_all = leb→le (all_bound row_count) most_all tt in
    omega (arith, all-grows n (row_count - n), last, whole)

pub part-more : (k : ℕ) → 0 < k → k ≤ row_count → part_bound (row_count - (k - 1)) ≡ part_bound (row_count - k) + most_at (k - 1)
unfolding part_bound
part-more k l h =
    let one : row_count - (k - 1) ≡ suc (row_count - k) = omega (arith, l, h) in
    let same : row_count - suc (row_count - k) ≡ k - 1 = omega (arith, l, h) in
    ap part_bound one ∙ ap (λ (n : ℕ). part_bound (row_count - k) + most_at n) same

pub all_more : (k : ℕ) → 0 < k → k ≤ row_count → all_bound (row_count - (k - 1)) ≡ all_bound (row_count - k) + part_bound (row_count - k)
unfolding all_bound
all_more k l h = let one : row_count - (k - 1) ≡ suc (row_count - k) = omega (arith, l, h) in ap all_bound one

pub none-light : (n : ℕ) → LightRow n no_row
none-light n = let b : Bd (pos 0) n = record { bd = omega arith } in record { a = b; b = b; c = b; d = b; e = b }

pub light-plus : (m n : ℕ) {p q : Row} → LightRow m p → LightRow n q → LightRow (m + n) (plus_of p q)
unfolding plus_of
light-plus m n h k = record { a = h.a ⊞ k.a; b = h.b ⊞ k.b; c = h.c ⊞ k.c; d = h.d ⊞ k.d; e = h.e ⊞ k.e }

pub light-most : {m n : ℕ} {r : Row} → m ≤ n → LightRow m r → LightRow n r
light-most {m} {n} l h = record { a = more h.a; b = more h.b; c = more h.c; d = more h.d; e = more h.e }
  where
    more : {z : ℤ} → Bd z m → Bd z n
    more b = record { bd = omega (arith, b.bd, l) }

pub weigh-size : (n : ℕ) {r : Row} → LightRow n r → Bd (weigh_of (pos 0) r) (15 * n)
unfolding weigh_of
weigh-size n h = let s = lit (pos 1) ⊠ h.a ⊞ lit (pos 2) ⊠ h.b ⊞ lit (pos 3) ⊠ h.c ⊞ lit (pos 4) ⊠ h.d ⊞ lit (pos 5) ⊠ h.e in record { bd = omega (arith, s.bd) }

pub total_size : (n : ℕ) {r : Row} → LightRow n r → Bd (total_of r) (5 * n)
unfolding total_of
total_size n h = let s = h.a ⊞ h.b ⊞ h.c ⊞ h.d ⊞ h.e in record { bd = omega (arith, s.bd) }
