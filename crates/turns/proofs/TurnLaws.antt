-- The laws of the turn, argued once for all turns: each row of a table, and each column, is a unit along x or y, forth or back. That this is so is the test of
-- the table, `units`, which is computed; no law and no proof has a case for one turn.
use Rattle.std.specs.Prelude.{◌≡◌, refl, Bool, true, false, cond, ◌&&◌, List, [], ◌∷◌, map, ℕ, zero, suc, ◌<◌, ℤ, pos, negsuc, neg_ℤ, length, get_or}
use Rattle.std.proofs.Common.{sym, ap, ◌∙◌, subst, arith}
use Rattle.std.proofs.lemmas.Bool.{false≢true}
use Rattle.exact.specs.Whole.{is, Z, ◌≡?◌, ≡?-true}
use Rattle.exact.specs.Fit.{Bd, lit, bd-le, bd-neg}
use Rattle.clip.specs.Reach.{reach, SmallPoint}
use Rattle.clip.specs.declared.Point.{Point}
use Rattle.turns.specs.Turn.{Turn, turn_count, turns, table_of, turn_of, rows_of, along_of, turned_by, turned_of, turned_back_of, rebased_of, UnitRows}

-- ---- units along x and y, and the tables that are made of them
pub data Row : ℤ → ℤ → Type 0 where
  east : Row (pos 1) (pos 0)
  north : Row (pos 0) (pos 1)
  west : Row (negsuc 0) (pos 0)
  south : Row (pos 0) (negsuc 0)

-- a table of such rows whose columns are such too. So each coordinate goes to one place and comes from one, and the transpose undoes the table (`back-forth`)
pub record Units (a b c d : ℤ) : Type 0 where
  pub row-x : Row a b
  pub row-y : Row c d
  pub column-x : Row a c
  pub column-y : Row b d

transposed : {a b c d : ℤ} → Units a b c d → Units a c b d
transposed u = record { row-x = u.column-x; row-y = u.column-y; column-x = u.row-x; column-y = u.row-y }

-- what a row makes of a point: one of its coordinates, or minus that
abbrev pub coord : {a b : ℤ} → Row a b → ℤ → ℤ → ℤ
coord east x y = x
coord north x y = y
coord west x y = neg_ℤ x
coord south x y = neg_ℤ y

pub coord-is : {a b : ℤ} (w : Row a b) (x y : ℤ) → along_of a b x y ≡ coord w x y
coord-is east x y = rw (is x, is y) (simp Z (omega arith))
coord-is north x y = rw (is x, is y) (simp Z (omega arith))
coord-is west x y = rw (is x, is y) (simp Z (omega arith))
coord-is south x y = rw (is x, is y) (simp Z (omega arith))

-- ---- a turn is its table
pub by_rows : (p : Point) (t : ℕ) → turned_by (rows_of t) p ≡ turned_of p t
unfolding rows_of turned_by turned_of
by_rows p t = refl

-- ---- the test of the table, computed: every row and every column is such a unit. All laws of the turn rest on it, and a turn more is a row more of the table alone
abbrev same : ℤ → ℤ → ℤ → ℤ → Bool
same a b u v = (a ≡? u) && (b ≡? v)

abbrev is_row : ℤ → ℤ → Bool
is_row a b = cond (same a b (pos 1) (pos 0)) true (cond (same a b (pos 0) (pos 1)) true (cond (same a b (negsuc 0) (pos 0)) true (same a b (pos 0) (negsuc 0))))

abbrev cell : List (List ℤ) → ℕ → ℕ → ℤ
cell m i j = get_or (get_or m i []) j (pos 0)

abbrev of_units : List (List ℤ) → Bool
of_units m = is_row (cell m 0 0) (cell m 0 1) && (is_row (cell m 1 0) (cell m 1 1) && (is_row (cell m 0 0) (cell m 1 0) && is_row (cell m 0 1) (cell m 1 1)))

abbrev each : List (List (List ℤ)) → Bool
each [] = true
each (m ∷ ms) = of_units m && each ms

-- what it shows of a row, of a table, and of each table of a list
and_both : (a b : Bool) → a && b ≡ true → (a ≡ true) × (b ≡ true)
and_both true b e = (refl, e)
and_both false b e = absurd (false≢true e)

row_is : (a b u v : ℤ) → Row u v → same a b u v ≡ true → Row a b
row_is a b u v w e =
    let h = and_both (a ≡? u) (b ≡? v) e in
    subst (λ (x : ℤ). Row x b) (sym (≡?-true a u h.0)) (subst (Row u) (sym (≡?-true b v h.1)) w)

row_of : (a b : ℤ) → is_row a b ≡ true → Row a b
row_of a b = go (same a b (pos 1) (pos 0)) (same a b (pos 0) (pos 1)) (same a b (negsuc 0) (pos 0)) refl refl refl
  where
    go : (p q r : Bool) → same a b (pos 1) (pos 0) ≡ p → same a b (pos 0) (pos 1) ≡ q → same a b (negsuc 0) (pos 0) ≡ r →
        cond p true (cond q true (cond r true (same a b (pos 0) (negsuc 0)))) ≡ true → Row a b
    go true q r e f g h = row_is a b (pos 1) (pos 0) east e
    go false true r e f g h = row_is a b (pos 0) (pos 1) north f
    go false false true e f g h = row_is a b (negsuc 0) (pos 0) west g
    go false false false e f g h = row_is a b (pos 0) (negsuc 0) south h

units_of : (m : List (List ℤ)) → of_units m ≡ true → Units (cell m 0 0) (cell m 0 1) (cell m 1 0) (cell m 1 1)
units_of m e =
    let h = and_both (is_row (cell m 0 0) (cell m 0 1)) _ e in
    let k = and_both (is_row (cell m 1 0) (cell m 1 1)) _ h.1 in
    let l = and_both (is_row (cell m 0 0) (cell m 1 0)) (is_row (cell m 0 1) (cell m 1 1)) k.1 in
    record { row-x = row_of _ _ h.0; row-y = row_of _ _ k.0; column-x = row_of _ _ l.0; column-y = row_of _ _ l.1 }

each_at : (ms : List (List (List ℤ))) → each ms ≡ true → (t : ℕ) → t < length ms → of_units (get_or ms t []) ≡ true
each_at [] e t h = absurd (omega (arith, h))
each_at (m ∷ ms) e zero h = (and_both (of_units m) (each ms) e).0
each_at (m ∷ ms) e (suc t) h = each_at ms (and_both (of_units m) (each ms) e).1 t (omega (arith, h))

pub units : (t : ℕ) → t < turn_count → Units (turn_of t 0 0) (turn_of t 0 1) (turn_of t 1 0) (turn_of t 1 1)
unfolding turn_of turns ◌≡?◌
units t h = units_of (table_of t) (each_at (map (λ (r : Turn). r.table) turns) refl t h)

-- ---- back after forth, and forth after back: what a column takes of the rows
neg-neg : (x : ℤ) → neg_ℤ (neg_ℤ x) ≡ x
neg-neg x = rw (is x) (simp Z (omega arith))

back-x : {a b c d : ℤ} (k : Row a c) → Row a b → Row c d → (x y : ℤ) → coord k (along_of a b x y) (along_of c d x y) ≡ x
back-x east east v x y = coord-is east x y
back-x west west v x y = ap neg_ℤ (coord-is west x y) ∙ neg-neg x
back-x north w east x y = coord-is east x y
back-x south w west x y = ap neg_ℤ (coord-is west x y) ∙ neg-neg x

back-y : {a b c d : ℤ} (k : Row b d) → Row a b → Row c d → (x y : ℤ) → coord k (along_of a b x y) (along_of c d x y) ≡ y
back-y east north v x y = coord-is north x y
back-y west south v x y = ap neg_ℤ (coord-is south x y) ∙ neg-neg y
back-y north w north x y = coord-is north x y
back-y south w south x y = ap neg_ℤ (coord-is south x y) ∙ neg-neg y

undone : {a b c d : ℤ} → Units a b c d → (x y : ℤ) → (along_of a c (along_of a b x y) (along_of c d x y) ≡ x) × (along_of b d (along_of a b x y) (along_of c d x y) ≡ y)
undone {a} {b} {c} {d} u x y =
    let v = along_of a b x y in
    let w = along_of c d x y in
    (coord-is u.column-x v w ∙ back-x u.column-x u.row-x u.row-y x y, coord-is u.column-y v w ∙ back-y u.column-y u.row-x u.row-y x y)

pub back-forth : (p : Point) (t : ℕ) → t < turn_count → turned_back_of (turned_of p t) t ≡ p
unfolding turned_of turned_back_of
back-forth p t h = let e = undone (units t h) p.x p.y in λ i. record { x = e.0 i; y = e.1 i }

pub forth-back : (p : Point) (t : ℕ) → t < turn_count → turned_of (turned_back_of p t) t ≡ p
unfolding turned_of turned_back_of
forth-back p t h = let e = undone (transposed (units t h)) p.x p.y in λ i. record { x = e.0 i; y = e.1 i }

-- "The page point stays"
pub rebased-stays : (p : Point) (old new : ℕ) → new < turn_count → turned_of (rebased_of p old new) new ≡ turned_of p old
unfolding rebased_of
rebased-stays p old new h = forth-back (turned_of p old) new h

-- ---- sizes: a table's number is at most 1, and a coordinate keeps its bound
row-unit : {a b : ℤ} → Row a b → Bd a 1 × Bd b 1
row-unit east = (lit (pos 1), bd-le (lit (pos 0)) tt)
row-unit north = (bd-le (lit (pos 0)) tt, lit (pos 1))
row-unit west = (lit (negsuc 0), bd-le (lit (pos 0)) tt)
row-unit south = (bd-le (lit (pos 0)) tt, lit (negsuc 0))

pub turn-size : (t i j : ℕ) → t < turn_count → i < 2 → j < 2 → Bd (turn_of t i j) 1
turn-size t zero zero h k l = (row-unit (units t h).row-x).0
turn-size t zero (suc zero) h k l = (row-unit (units t h).row-x).1
turn-size t (suc zero) zero h k l = (row-unit (units t h).row-y).0
turn-size t (suc zero) (suc zero) h k l = (row-unit (units t h).row-y).1
turn-size t zero (suc (suc j)) h k l = absurd (omega arith)
turn-size t (suc zero) (suc (suc j)) h k l = absurd (omega arith)
turn-size t (suc (suc i)) j h k l = absurd (omega arith)

pub rows-unit : {t : ℕ} → t < turn_count → UnitRows (rows_of t)
unfolding rows_of
rows-unit {t} h = let x = row-unit (units t h).row-x in let y = row-unit (units t h).row-y in record { xx = x.0; xy = x.1; yx = y.0; yy = y.1 }

coord-size : {a b : ℤ} {n : ℕ} (w : Row a b) (x y : ℤ) → Bd x n → Bd y n → Bd (coord w x y) n
coord-size east x y h k = h
coord-size north x y h k = k
coord-size west x y h k = bd-neg h
coord-size south x y h k = bd-neg k

along-size : {a b : ℤ} {n : ℕ} (w : Row a b) (x y : ℤ) → Bd x n → Bd y n → Bd (along_of a b x y) n
along-size {n = n} w x y h k = subst (λ (z : ℤ). Bd z n) (sym (coord-is w x y)) (coord-size w x y h k)

pub turned-size : (p : Point) (t n : ℕ) → t < turn_count → Bd p.x n → Bd p.y n → Bd (turned_of p t).x n × Bd (turned_of p t).y n
unfolding turned_of
turned-size p t n h hx hy = let u = units t h in (along-size u.row-x p.x p.y hx hy, along-size u.row-y p.x p.y hx hy)

pub turned-small : {p : Point} {t : ℕ} → SmallPoint p → t < turn_count → SmallPoint (turned_of p t)
turned-small {p} {t} h l = let k = turned-size p t reach l h.x h.y in record { x = k.0; y = k.1 }

pub back-small : {p : Point} {t : ℕ} → SmallPoint p → t < turn_count → SmallPoint (turned_back_of p t)
unfolding turned_back_of
back-small {p} {t} h l = let u = transposed (units t l) in record { x = along-size u.row-x p.x p.y h.x h.y; y = along-size u.row-y p.x p.y h.x h.y }

-- a location that is rebased stays in range
pub rebased-small : {p : Point} {old new : ℕ} → SmallPoint p → old < turn_count → new < turn_count → SmallPoint (rebased_of p old new)
unfolding rebased_of
rebased-small h k l = back-small (turned-small h k) l
