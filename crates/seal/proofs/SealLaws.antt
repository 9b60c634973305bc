-- What the seal tells: a list with its header passes, one that passes is a list with its header; and no changed number and no exchange of two passes.
-- Why the last: a change by d at the place p changes the sum by p × d, and an exchange at the places p and q of numbers that differ by d by (p − q) × d.
use Rattle.std.specs.Prelude.{◌≡◌, refl, Bool, true, false, ◌&&◌, List, [], ◌∷◌, ℕ, zero, suc, ◌+◌, ◌*◌, ◌-◌, ◌≤◌, ◌<◌, ℤ, pos, ◌+ℤ◌, ◌*ℤ◌, length, get_or, set, drop}
use Rattle.std.proofs.Common.{sym, ap, ◌∙◌, subst, arith, length-set, get_or-set_other}
use Rattle.std.proofs.lemmas.Bool.{false≢true}
use Rattle.std.proofs.Math.Nat.{eq_of_mul-eq-mul_left}
use Rattle.exact.specs.Whole.{◌≡?◌, ≡?-true, eq-≡?, is, Z, up, dn, up-mul, dn-mul, add_parts, ≡-parts, ext}
use Rattle.rows.specs.Rows.{row_at, with_row}
use Rattle.seal.specs.Seal.{weighed, checksum_of, version, header_of, sealed_of, header_sound, sum_stands}

-- ---- the header

pub seal-header : (zs : List ℤ) → header_sound (row_at (sealed_of zs) 0) ≡ true
unfolding header_sound sealed_of header_of row_at ◌≡?◌
seal-header zs = refl

pub seal-sum : (zs : List ℤ) → sum_stands (sealed_of zs) ≡ true
unfolding sum_stands sealed_of header_of row_at
seal-sum zs = eq-≡? refl

and_both : (a b : Bool) → a && b ≡ true → (a ≡ true) × (b ≡ true)
and_both true b e = (refl, e)
and_both false b e = absurd (false≢true e)

pub seal-back : (zs : List ℤ) → 5 ≤ length zs → header_sound (row_at zs 0) ≡ true → sum_stands zs ≡ true → zs ≡ sealed_of (drop 5 zs)
unfolding header_sound sum_stands sealed_of header_of row_at
seal-back [] h s t = absurd (omega (arith, h))
seal-back (a ∷ []) h s t = absurd (omega (arith, h))
seal-back (a ∷ b ∷ []) h s t = absurd (omega (arith, h))
seal-back (a ∷ b ∷ c ∷ []) h s t = absurd (omega (arith, h))
seal-back (a ∷ b ∷ c ∷ d ∷ []) h s t = absurd (omega (arith, h))
seal-back (a ∷ b ∷ c ∷ d ∷ e ∷ zs) h s t =
    let s1 = and_both (a ≡? pos version) ((c ≡? pos 0) && ((d ≡? pos 0) && (e ≡? pos 0))) s in
    let s2 = and_both (c ≡? pos 0) ((d ≡? pos 0) && (e ≡? pos 0)) s1.1 in
    let s3 = and_both (d ≡? pos 0) (e ≡? pos 0) s2.1 in
    let ea = ≡?-true a (pos version) s1.0 in
    let eb = ≡?-true b (checksum_of zs) t in
    let ec = ≡?-true c (pos 0) s2.0 in
    let ed = ≡?-true d (pos 0) s3.0 in
    let ee = ≡?-true e (pos 0) s3.1 in
    λ i. ea i ∷ eb i ∷ ec i ∷ ed i ∷ ee i ∷ zs

-- the header written over the first row
pub with-header : (zs : List ℤ) → 5 ≤ length zs → with_row (header_of (drop 5 zs)) 0 zs ≡ sealed_of (drop 5 zs)
unfolding with_row sealed_of
with-header [] h = absurd (omega (arith, h))
with-header (a ∷ []) h = absurd (omega (arith, h))
with-header (a ∷ b ∷ []) h = absurd (omega (arith, h))
with-header (a ∷ b ∷ c ∷ []) h = absurd (omega (arith, h))
with-header (a ∷ b ∷ c ∷ d ∷ []) h = absurd (omega (arith, h))
with-header (a ∷ b ∷ c ∷ d ∷ e ∷ zs) h = refl

-- ---- a number that is changed

-- the sum with another number, and the old number's part, are the sum and the new number's part
weighed-set : (zs : List ℤ) (p i : ℕ) (x : ℤ) → i < length zs → weighed p (set zs i x) +ℤ pos (p + i) *ℤ get_or zs i (pos 0) ≡ weighed p zs +ℤ pos (p + i) *ℤ x
unfolding weighed
weighed-set [] p i x h = absurd (omega (arith, h))
weighed-set (z ∷ zs) p zero x h = let at : p + 0 ≡ p = omega arith in rw at (swap (pos p *ℤ x) (weighed (suc p) zs) (pos p *ℤ z))
  where
    swap : (a w b : ℤ) → a +ℤ w +ℤ b ≡ b +ℤ w +ℤ a
    swap a w b = rw (is a, is w, is b) (simp Z (omega arith))
weighed-set (z ∷ zs) p (suc i) x h =
    let at : p + suc i ≡ suc p + i = omega arith in
    rw at (regroup (pos p *ℤ z) _ _ ∙ ap (λ (w : ℤ). pos p *ℤ z +ℤ w) (weighed-set zs (suc p) i x (omega (arith, h))) ∙ sym (regroup (pos p *ℤ z) _ _))
  where
    regroup : (a b c : ℤ) → a +ℤ b +ℤ c ≡ a +ℤ (b +ℤ c)
    regroup a b c = rw (is a, is b, is c) (simp Z (omega arith))

left-off : (w a b : ℤ) → w +ℤ a ≡ w +ℤ b → a ≡ b
left-off w a b e = ext a b (omega (arith, ≡-parts e, add_parts w a, add_parts w b))

factor-off : (k : ℕ) (a b : ℤ) → 0 < k → pos k *ℤ a ≡ pos k *ℤ b → a ≡ b
factor-off k a b h e =
    let u : k * up a ≡ k * up b = omega (arith, ap up e, up-mul (pos k) a, up-mul (pos k) b) in
    let d : k * dn a ≡ k * dn b = omega (arith, ap dn e, dn-mul (pos k) a, dn-mul (pos k) b) in
    ext a b (omega (arith, eq_of_mul-eq-mul_left k h (up a) (up b) u, eq_of_mul-eq-mul_left k h (dn a) (dn b) d))

-- a number that was changed changes the sum
pub checksum-changed : (zs : List ℤ) (i : ℕ) (x : ℤ) → i < length zs → checksum_of (set zs i x) ≡ checksum_of zs → x ≡ get_or zs i (pos 0)
unfolding checksum_of
checksum-changed zs i x h e =
    let z = get_or zs i (pos 0) in
    let both : weighed 1 zs +ℤ pos (1 + i) *ℤ z ≡ weighed 1 zs +ℤ pos (1 + i) *ℤ x = ap (λ (w : ℤ). w +ℤ pos (1 + i) *ℤ z) (sym e) ∙ weighed-set zs 1 i x h in
    sym (factor-off (1 + i) z x (omega arith) (left-off (weighed 1 zs) (pos (1 + i) *ℤ z) (pos (1 + i) *ℤ x) both))

-- ---- two numbers that are exchanged

abbrev pub exchanged : List ℤ → ℕ → ℕ → List ℤ
exchanged zs i j = set (set zs i (get_or zs j (pos 0))) j (get_or zs i (pos 0))

-- at the places p and p + d, with d no 0
apart : (p d : ℕ) (x y : ℤ) → 0 < d → pos p *ℤ y +ℤ pos (p + d) *ℤ x ≡ pos p *ℤ x +ℤ pos (p + d) *ℤ y → x ≡ y
apart p d x y h e = factor-off d x y h (ext (pos d *ℤ x) (pos d *ℤ y) (omega (
  arith,
  ≡-parts e,
  add_parts (pos p *ℤ y) (pos (p + d) *ℤ x),
  add_parts (pos p *ℤ x) (pos (p + d) *ℤ y),
  up-mul (pos p) y,
  dn-mul (pos p) y,
  up-mul (pos (p + d)) x,
  dn-mul (pos (p + d)) x,
  up-mul (pos p) x,
  dn-mul (pos p) x,
  up-mul (pos (p + d)) y,
  dn-mul (pos (p + d)) y,
  up-mul (pos d) x,
  dn-mul (pos d) x,
  up-mul (pos d) y,
  dn-mul (pos d) y,
)))

-- what an exchange does to the sum
weighed-exchanged : (zs : List ℤ) (i j : ℕ) → i < length zs → j < length zs → (j ≡ i → ⊥) → let x = get_or zs i (pos 0) in let y = get_or zs j (pos 0) in
    weighed 1 (exchanged zs i j) +ℤ (pos (1 + j) *ℤ y +ℤ pos (1 + i) *ℤ x) ≡ weighed 1 zs +ℤ (pos (1 + i) *ℤ y +ℤ pos (1 + j) *ℤ x)
weighed-exchanged zs i j h k n =
    let x = get_or zs i (pos 0) in
    let y = get_or zs j (pos 0) in
    let one = weighed-set zs 1 i y h in
    let two = weighed-set (set zs i y) 1 j x (rw (length-set zs i y) k) in
    let kept : get_or (set zs i y) j (pos 0) ≡ y = get_or-set_other zs i j y (pos 0) n in
    let two' : weighed 1 (exchanged zs i j) +ℤ pos (1 + j) *ℤ y ≡ weighed 1 (set zs i y) +ℤ pos (1 + j) *ℤ x = ap (λ (w : ℤ). weighed 1 (exchanged zs i j) +ℤ pos (1 + j) *ℤ w) (sym kept) ∙ two in
    put (weighed 1 (exchanged zs i j)) (weighed 1 (set zs i y)) (weighed 1 zs) (pos (1 + j) *ℤ y) (pos (1 + i) *ℤ x) (pos (1 + j) *ℤ x) (pos (1 + i) *ℤ y) two' one
  where
    put : (u v w a b c d : ℤ) → u +ℤ a ≡ v +ℤ c → v +ℤ b ≡ w +ℤ d → u +ℤ (a +ℤ b) ≡ w +ℤ (d +ℤ c)
    put u v w a b c d e f =
        ext (u +ℤ (a +ℤ b)) (w +ℤ (d +ℤ c))
        (omega (arith, ≡-parts e, ≡-parts f, add_parts u a, add_parts v c, add_parts v b, add_parts w d, add_parts u (a +ℤ b), add_parts a b, add_parts w (d +ℤ c), add_parts d c))

-- two different numbers that were exchanged change the sum
pub checksum-exchanged : (zs : List ℤ) (i j : ℕ) → i < j → j < length zs → checksum_of (exchanged zs i j) ≡ checksum_of zs → get_or zs i (pos 0) ≡ get_or zs j (pos 0)
unfolding checksum_of
checksum-exchanged zs i j h k e =
    let x = get_or zs i (pos 0) in
    let y = get_or zs j (pos 0) in
    let d : ℕ = j - i in
    let far : 1 + j ≡ 1 + i + d = omega (arith, h) in
    let all = weighed-exchanged zs i j (omega (arith, h, k)) k (λ q. omega (arith, q, h)) in
    let sums = ap (λ (w : ℤ). w +ℤ (pos (1 + j) *ℤ y +ℤ pos (1 + i) *ℤ x)) (sym e) ∙ all in
    let parts = left-off (weighed 1 zs) (pos (1 + j) *ℤ y +ℤ pos (1 + i) *ℤ x) (pos (1 + i) *ℤ y +ℤ pos (1 + j) *ℤ x) sums in
    let turned : pos (1 + i) *ℤ x +ℤ pos (1 + i + d) *ℤ y ≡ pos (1 + i) *ℤ y +ℤ pos (1 + i + d) *ℤ x = swapped (1 + i) x y far parts in
    sym (apart (1 + i) d y x (omega (arith, h)) turned)
  where
    turn : (a b : ℤ) → a +ℤ b ≡ b +ℤ a
    turn a b = rw (is a, is b) (simp Z (omega arith))

    swapped : (p : ℕ) {q r : ℕ} (x y : ℤ) → q ≡ r → pos q *ℤ y +ℤ pos p *ℤ x ≡ pos p *ℤ y +ℤ pos q *ℤ x → pos p *ℤ x +ℤ pos r *ℤ y ≡ pos p *ℤ y +ℤ pos r *ℤ x
    swapped p x y g e = subst (λ (k : ℕ). pos p *ℤ x +ℤ pos k *ℤ y ≡ pos p *ℤ y +ℤ pos k *ℤ x) g (turn (pos p *ℤ x) _ ∙ e)
