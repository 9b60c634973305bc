-- Equations and orders between polynomials over ℤ, by reflection. `norm e` is the polynomial of the expression e, as a list of coefficients with sorted lists of variables, which antt computes.
--     ring ρ a b tt        a ≡ b, where the polynomial of a − b is empty
--     fact ρ a b h         a fact h : a ≤ b as omega reads it, with each monomial an unknown of ℤ
--     goal ρ a b           a ≤ b from what omega proves
-- `# i` is the i-th number of ρ. Assumes nothing.
use Rattle.std.specs.Prelude.{◌≡◌, refl, Bool, true, false, List, [], ◌∷◌, T, eqb, ltb, ℤ, pos, negsuc, ◌+ℤ◌, ◌-ℤ◌, ◌*ℤ◌}
use Rattle.std.proofs.Common.{sym, ap, ◌∙◌, subst, arith, eqb→eq}
use Prim.Native.Nat.{ℕ, zero, suc, ◌+◌, ◌*◌, ◌≤◌, ◌<◌}
use Rattle.exact.specs.Whole.{◌≤ᶻ◌, ◌<ᶻ◌, is, Z, ord, up, dn, add_parts, up-mul, dn-mul}

infixl 6 ◌:+◌ ◌:-◌
infixl 7 ◌:*◌
pub data Ex : Type 0 where
  # : ℕ → Ex
  con : ℤ → Ex
  ◌:+◌ ◌:-◌ ◌:*◌ : Ex → Ex → Ex

abbrev pub nth : List ℤ → ℕ → ℤ
nth [] n = pos 0
nth (x ∷ xs) zero = x
nth (x ∷ xs) (suc n) = nth xs n

abbrev pub ⟦◌⟧ : Ex → List ℤ → ℤ
⟦◌⟧ (# i) ρ = nth ρ i
⟦◌⟧ (con c) ρ = c
⟦◌⟧ (a :+ b) ρ = ⟦◌⟧ a ρ +ℤ ⟦◌⟧ b ρ
⟦◌⟧ (a :- b) ρ = ⟦◌⟧ a ρ -ℤ ⟦◌⟧ b ρ
⟦◌⟧ (a :* b) ρ = ⟦◌⟧ a ρ *ℤ ⟦◌⟧ b ρ

-- ---- monomials
abbrev pub if_then : {A : Type 0} → Bool → A → A → A
if_then true a b = a
if_then false a b = b

abbrev pub eq_m : List ℕ → List ℕ → Bool
eq_m [] [] = true
eq_m [] (j ∷ n) = false
eq_m (i ∷ m) [] = false
eq_m (i ∷ m) (j ∷ n) = if_then (eqb i j) (eq_m m n) false

-- the longer first, then by the variables
abbrev pub lt_m : List ℕ → List ℕ → Bool
lt_m [] [] = false
lt_m [] (j ∷ n) = false
lt_m (i ∷ m) [] = true
lt_m (i ∷ m) (j ∷ n) = if_then (eqb i j) (lt_m m n) (ltb i j)

abbrev pub ins_m : ℕ → List ℕ → List ℕ
ins_m i [] = i ∷ []
ins_m i (j ∷ m) = if_then (ltb j i) (j ∷ ins_m i m) (i ∷ j ∷ m)

abbrev pub mul_m : List ℕ → List ℕ → List ℕ
mul_m [] n = n
mul_m (i ∷ m) n = ins_m i (mul_m m n)

-- ---- polynomials
abbrev pub Poly : Type 0
Poly = List (ℤ × List ℕ)

abbrev pub keep : ℤ → List ℕ → Poly → Poly
keep (pos zero) m p = p
keep (pos (suc c)) m p = (pos (suc c), m) ∷ p
keep (negsuc c) m p = (negsuc c, m) ∷ p

abbrev pub ins_p : ℤ → List ℕ → Poly → Poly
ins_p c m [] = keep c m []
ins_p c m (t ∷ p) = if_then (eq_m m t.1) (keep (c +ℤ t.0) m p) (if_then (lt_m m t.1) (keep c m (t ∷ p)) (t ∷ ins_p c m p))

abbrev pub add_p : Poly → Poly → Poly
add_p [] q = q
add_p (t ∷ p) q = ins_p t.0 t.1 (add_p p q)

abbrev pub mul_t : ℤ → List ℕ → Poly → Poly
mul_t c m [] = []
mul_t c m (t ∷ q) = ins_p (c *ℤ t.0) (mul_m m t.1) (mul_t c m q)

abbrev pub mul_p : Poly → Poly → Poly
mul_p [] q = []
mul_p (t ∷ p) q = add_p (mul_t t.0 t.1 q) (mul_p p q)

abbrev pub norm : Ex → Poly
norm (# i) = (pos 1, i ∷ []) ∷ []
norm (con c) = keep c [] []
norm (a :+ b) = add_p (norm a) (norm b)
norm (a :- b) = add_p (norm a) (mul_t (negsuc 0) [] (norm b))
norm (a :* b) = mul_p (norm a) (norm b)

-- ---- their values
abbrev pub eval_m : List ℤ → List ℕ → ℤ
eval_m ρ [] = pos 1
eval_m ρ (i ∷ m) = nth ρ i *ℤ eval_m ρ m

abbrev pub eval_p : List ℤ → Poly → ℤ
eval_p ρ [] = pos 0
eval_p ρ (t ∷ p) = t.0 *ℤ eval_m ρ t.1 +ℤ eval_p ρ p

module _ (ρ : List ℤ) where
  eq_m-ok : (m n : List ℕ) → T (eq_m m n) → m ≡ n
  eq_m-ok [] [] t = refl
  eq_m-ok [] (j ∷ n) t = absurd t
  eq_m-ok (i ∷ m) [] t = absurd t
  eq_m-ok (i ∷ m) (j ∷ n) t = go (eqb i j) refl (eq_m-ok m n) t
    where
      go : (b : Bool) → eqb i j ≡ b → (T (eq_m m n) → m ≡ n) → T (if_then b (eq_m m n) false) → i ∷ m ≡ j ∷ n
      go true e ih t = λ x. eqb→eq i j (subst T (sym e) tt) x ∷ ih t x
      go false e ih t = absurd t

  ins_m-ok : (i : ℕ) (m : List ℕ) → eval_m ρ (ins_m i m) ≡ nth ρ i *ℤ eval_m ρ m
  ins_m-ok i [] = refl
  ins_m-ok i (j ∷ m) = go (ltb j i) (ins_m-ok i m)
    where
      swap : (a b c : ℤ) → a *ℤ (b *ℤ c) ≡ b *ℤ (a *ℤ c)
      swap a b c = rw (is a, is b, is c) (simp Z (omega arith))

      go : (b : Bool) → eval_m ρ (ins_m i m) ≡ nth ρ i *ℤ eval_m ρ m → eval_m ρ (if_then b (j ∷ ins_m i m) (i ∷ j ∷ m)) ≡ nth ρ i *ℤ (nth ρ j *ℤ eval_m ρ m)
      go true ih = ap (λ (x : ℤ). nth ρ j *ℤ x) ih ∙ swap (nth ρ j) (nth ρ i) (eval_m ρ m)
      go false ih = refl

  mul_m-ok : (m n : List ℕ) → eval_m ρ (mul_m m n) ≡ eval_m ρ m *ℤ eval_m ρ n
  mul_m-ok [] n = one-mul (eval_m ρ n)
    where
      one-mul : (a : ℤ) → a ≡ pos 1 *ℤ a
      one-mul a = rw (is a) (simp Z (omega arith))
  mul_m-ok (i ∷ m) n = ins_m-ok i (mul_m m n) ∙ ap (λ (x : ℤ). nth ρ i *ℤ x) (mul_m-ok m n) ∙ assoc (nth ρ i) (eval_m ρ m) (eval_m ρ n)
    where
      assoc : (a b c : ℤ) → a *ℤ (b *ℤ c) ≡ (a *ℤ b) *ℤ c
      assoc a b c = rw (is a, is b, is c) (simp Z (omega arith))

  keep-ok : (c : ℤ) (m : List ℕ) (p : Poly) → eval_p ρ (keep c m p) ≡ c *ℤ eval_m ρ m +ℤ eval_p ρ p
  keep-ok (pos zero) m p = zero-mul (eval_m ρ m) (eval_p ρ p)
    where
      zero-mul : (a b : ℤ) → b ≡ pos 0 *ℤ a +ℤ b
      zero-mul a b = rw (is a, is b) (simp Z (omega arith))
  keep-ok (pos (suc c)) m p = refl
  keep-ok (negsuc c) m p = refl

  ins_p-ok : (c : ℤ) (m : List ℕ) (p : Poly) → eval_p ρ (ins_p c m p) ≡ c *ℤ eval_m ρ m +ℤ eval_p ρ p
  ins_p-ok c m [] = keep-ok c m []
  ins_p-ok c m (t ∷ p) = go (eq_m m t.1) (eq_m-ok m t.1) (lt_m m t.1) (ins_p-ok c m p)
    where
      join : (c d a b : ℤ) → (c +ℤ d) *ℤ a +ℤ b ≡ c *ℤ a +ℤ (d *ℤ a +ℤ b)
      join c d a b = rw (is c, is d, is a, is b) (simp Z (omega arith))

      past : (a b c : ℤ) → b +ℤ (a +ℤ c) ≡ a +ℤ (b +ℤ c)
      past a b c = rw (is a, is b, is c) (simp Z (omega arith))

      go : (b : Bool) → (T b → m ≡ t.1) → (l : Bool) → eval_p ρ (ins_p c m p) ≡ c *ℤ eval_m ρ m +ℤ eval_p ρ p → eval_p ρ (if_then b (keep (c +ℤ t.0) m p) (if_then l (keep c m (t ∷ p)) (t ∷ ins_p c m p))) ≡ c *ℤ eval_m ρ m +ℤ (t.0 *ℤ eval_m ρ t.1 +ℤ eval_p ρ p)
      go true e l ih =
          keep-ok (c +ℤ t.0) m p ∙ join c t.0 (eval_m ρ m) (eval_p ρ p)
          ∙ ap (λ (x : List ℕ). c *ℤ eval_m ρ m +ℤ (t.0 *ℤ eval_m ρ x +ℤ eval_p ρ p)) (e tt)
      go false e true ih = keep-ok c m (t ∷ p)
      go false e false ih =
          ap (λ (x : ℤ). t.0 *ℤ eval_m ρ t.1 +ℤ x) ih
          ∙ past (c *ℤ eval_m ρ m) (t.0 *ℤ eval_m ρ t.1) (eval_p ρ p)

  add_p-ok : (p q : Poly) → eval_p ρ (add_p p q) ≡ eval_p ρ p +ℤ eval_p ρ q
  add_p-ok [] q = zero-add (eval_p ρ q)
    where
      zero-add : (a : ℤ) → a ≡ pos 0 +ℤ a
      zero-add a = rw (is a) (simp Z (omega arith))
  add_p-ok (t ∷ p) q =
      ins_p-ok t.0 t.1 (add_p p q) ∙ ap (λ (x : ℤ). t.0 *ℤ eval_m ρ t.1 +ℤ x) (add_p-ok p q)
      ∙ assoc (t.0 *ℤ eval_m ρ t.1) (eval_p ρ p) (eval_p ρ q)
    where
      assoc : (a b c : ℤ) → a +ℤ (b +ℤ c) ≡ (a +ℤ b) +ℤ c
      assoc a b c = rw (is a, is b, is c) (simp Z (omega arith))

  mul_t-ok : (c : ℤ) (m : List ℕ) (q : Poly) → eval_p ρ (mul_t c m q) ≡ (c *ℤ eval_m ρ m) *ℤ eval_p ρ q
  mul_t-ok c m [] = mul-zero (c *ℤ eval_m ρ m)
    where
      mul-zero : (a : ℤ) → pos 0 ≡ a *ℤ pos 0
      mul-zero a = rw (is a) (simp Z (omega arith))
  mul_t-ok c m (t ∷ q) =
      ins_p-ok (c *ℤ t.0) (mul_m m t.1) (mul_t c m q)
      ∙ ap (λ (x : ℤ). (c *ℤ t.0) *ℤ x +ℤ eval_p ρ (mul_t c m q)) (mul_m-ok m t.1)
      ∙ ap (λ (x : ℤ). (c *ℤ t.0) *ℤ (eval_m ρ m *ℤ eval_m ρ t.1) +ℤ x) (mul_t-ok c m q)
      ∙ ap (λ (x : ℤ). x +ℤ (c *ℤ eval_m ρ m) *ℤ eval_p ρ q) (cross c t.0 (eval_m ρ m) (eval_m ρ t.1))
      ∙ dist (c *ℤ eval_m ρ m) (t.0 *ℤ eval_m ρ t.1) (eval_p ρ q)
    where
      assoc : (a b c : ℤ) → (a *ℤ b) *ℤ c ≡ a *ℤ (b *ℤ c)
      assoc a b c = rw (is a, is b, is c) (simp Z (omega arith))

      swap : (a b c : ℤ) → a *ℤ (b *ℤ c) ≡ b *ℤ (a *ℤ c)
      swap a b c = rw (is a, is b, is c) (simp Z (omega arith))

      cross : (a b c d : ℤ) → (a *ℤ b) *ℤ (c *ℤ d) ≡ (a *ℤ c) *ℤ (b *ℤ d)
      cross a b c d = assoc a b (c *ℤ d) ∙ ap (λ (x : ℤ). a *ℤ x) (swap b c d) ∙ sym (assoc a c (b *ℤ d))

      dist : (a b c : ℤ) → a *ℤ b +ℤ a *ℤ c ≡ a *ℤ (b +ℤ c)
      dist a b c = rw (is a, is b, is c) (simp Z (omega arith))

  mul_p-ok : (p q : Poly) → eval_p ρ (mul_p p q) ≡ eval_p ρ p *ℤ eval_p ρ q
  mul_p-ok [] q = zero-mul (eval_p ρ q)
    where
      zero-mul : (a : ℤ) → pos 0 ≡ pos 0 *ℤ a
      zero-mul a = rw (is a) (simp Z (omega arith))
  mul_p-ok (t ∷ p) q =
      add_p-ok (mul_t t.0 t.1 q) (mul_p p q)
      ∙ (λ i. mul_t-ok t.0 t.1 q i +ℤ mul_p-ok p q i)
      ∙ dist (t.0 *ℤ eval_m ρ t.1) (eval_p ρ p) (eval_p ρ q)
    where
      dist : (a b c : ℤ) → a *ℤ c +ℤ b *ℤ c ≡ (a +ℤ b) *ℤ c
      dist a b c = rw (is a, is b, is c) (simp Z (omega arith))

  pub norm-ok : (e : Ex) → eval_p ρ (norm e) ≡ ⟦◌⟧ e ρ
  norm-ok (# i) = one (nth ρ i)
    where
      one : (a : ℤ) → pos 1 *ℤ (a *ℤ pos 1) +ℤ pos 0 ≡ a
      one a = rw (is a) (simp Z (omega arith))
  norm-ok (con c) = keep-ok c [] [] ∙ one c
    where
      one : (a : ℤ) → a *ℤ pos 1 +ℤ pos 0 ≡ a
      one a = rw (is a) (simp Z (omega arith))
  norm-ok (a :+ b) = add_p-ok (norm a) (norm b) ∙ (λ i. norm-ok a i +ℤ norm-ok b i)
  norm-ok (a :- b) =
      add_p-ok (norm a) (mul_t (negsuc 0) [] (norm b))
      ∙ ap (λ (x : ℤ). eval_p ρ (norm a) +ℤ x) (mul_t-ok (negsuc 0) [] (norm b))
      ∙ minus (eval_p ρ (norm a)) (eval_p ρ (norm b)) ∙ (λ i. norm-ok a i -ℤ norm-ok b i)
    where
      minus : (a b : ℤ) → a +ℤ negsuc 0 *ℤ b ≡ a -ℤ b
      minus a b = rw (is a, is b) (simp Z (omega arith))
  norm-ok (a :* b) = mul_p-ok (norm a) (norm b) ∙ (λ i. norm-ok a i *ℤ norm-ok b i)

-- ---- an equation
abbrev pub is_nil : Poly → Bool
is_nil [] = true
is_nil (t ∷ p) = false

nil-zero : (ρ : List ℤ) (p : Poly) → T (is_nil p) → eval_p ρ p ≡ pos 0
nil-zero ρ [] t = refl
nil-zero ρ (u ∷ p) t = absurd t

pub ring : (ρ : List ℤ) (a b : Ex) → T (is_nil (norm (a :- b))) → ⟦◌⟧ a ρ ≡ ⟦◌⟧ b ρ
ring ρ a b t = same (⟦◌⟧ a ρ) (⟦◌⟧ b ρ) (sym (norm-ok ρ (a :- b)) ∙ nil-zero ρ (norm (a :- b)) t)
  where
    same : (a b : ℤ) → a -ℤ b ≡ pos 0 → a ≡ b
    same a b = rw (is a, is b) (simp Z (omega arith))

-- ---- an order, as omega reads it
abbrev pub plus : List ℤ → Poly → ℕ
plus ρ [] = 0
plus ρ (t ∷ p) = elim t.0 [ pos c ↦ c * up (eval_m ρ t.1) | negsuc c ↦ suc c * dn (eval_m ρ t.1) ] + plus ρ p

abbrev pub less : List ℤ → Poly → ℕ
less ρ [] = 0
less ρ (t ∷ p) = elim t.0 [ pos c ↦ c * dn (eval_m ρ t.1) | negsuc c ↦ suc c * up (eval_m ρ t.1) ] + less ρ p

plus-less : (ρ : List ℤ) (p : Poly) → up (eval_p ρ p) + less ρ p ≡ dn (eval_p ρ p) + plus ρ p
plus-less ρ [] = refl
plus-less ρ ((pos c, m) ∷ p) = omega (arith, plus-less ρ p, add_parts (pos c *ℤ eval_m ρ m) (eval_p ρ p), up-mul (pos c) (eval_m ρ m), dn-mul (pos c) (eval_m ρ m))
plus-less ρ ((negsuc c, m) ∷ p) = omega (arith, plus-less ρ p, add_parts (negsuc c *ℤ eval_m ρ m) (eval_p ρ p), up-mul (negsuc c) (eval_m ρ m), dn-mul (negsuc c) (eval_m ρ m))

module _ (ρ : List ℤ) (a b : Ex) where
  pub fact-≤ : ⟦◌⟧ a ρ ≤ᶻ ⟦◌⟧ b ρ → less ρ (norm (b :- a)) ≤ plus ρ (norm (b :- a))
  fact-≤ h = go (norm (b :- a)) (norm-ok ρ (b :- a)) (sub (⟦◌⟧ a ρ) (⟦◌⟧ b ρ) h)
    where
      sub : (x y : ℤ) → x ≤ᶻ y → pos 0 ≤ᶻ y -ℤ x
      sub x y = rw (is x, is y) (simp Z (omega arith))

      go : (p : Poly) → eval_p ρ p ≡ ⟦◌⟧ b ρ -ℤ ⟦◌⟧ a ρ → pos 0 ≤ᶻ ⟦◌⟧ b ρ -ℤ ⟦◌⟧ a ρ → less ρ p ≤ plus ρ p
      go p e h = omega (arith, ord, plus-less ρ p)

  pub goal-≤ : less ρ (norm (b :- a)) ≤ plus ρ (norm (b :- a)) → ⟦◌⟧ a ρ ≤ᶻ ⟦◌⟧ b ρ
  goal-≤ h = sub (⟦◌⟧ a ρ) (⟦◌⟧ b ρ) (go (norm (b :- a)) (norm-ok ρ (b :- a)) h)
    where
      sub : (x y : ℤ) → pos 0 ≤ᶻ y -ℤ x → x ≤ᶻ y
      sub x y = rw (is x, is y) (simp Z (omega arith))

      go : (p : Poly) → eval_p ρ p ≡ ⟦◌⟧ b ρ -ℤ ⟦◌⟧ a ρ → less ρ p ≤ plus ρ p → pos 0 ≤ᶻ ⟦◌⟧ b ρ -ℤ ⟦◌⟧ a ρ
      go p e h = omega (arith, ord, plus-less ρ p)

  pub fact-< : ⟦◌⟧ a ρ <ᶻ ⟦◌⟧ b ρ → less ρ (norm (b :- a)) < plus ρ (norm (b :- a))
  fact-< h = go (norm (b :- a)) (norm-ok ρ (b :- a)) (sub (⟦◌⟧ a ρ) (⟦◌⟧ b ρ) h)
    where
      sub : (x y : ℤ) → x <ᶻ y → pos 0 <ᶻ y -ℤ x
      sub x y = rw (is x, is y) (simp Z (omega arith))

      go : (p : Poly) → eval_p ρ p ≡ ⟦◌⟧ b ρ -ℤ ⟦◌⟧ a ρ → pos 0 <ᶻ ⟦◌⟧ b ρ -ℤ ⟦◌⟧ a ρ → less ρ p < plus ρ p
      go p e h = omega (arith, ord, plus-less ρ p)

  pub goal-< : less ρ (norm (b :- a)) < plus ρ (norm (b :- a)) → ⟦◌⟧ a ρ <ᶻ ⟦◌⟧ b ρ
  goal-< h = sub (⟦◌⟧ a ρ) (⟦◌⟧ b ρ) (go (norm (b :- a)) (norm-ok ρ (b :- a)) h)
    where
      sub : (x y : ℤ) → pos 0 <ᶻ y -ℤ x → x <ᶻ y
      sub x y = rw (is x, is y) (simp Z (omega arith))

      go : (p : Poly) → eval_p ρ p ≡ ⟦◌⟧ b ρ -ℤ ⟦◌⟧ a ρ → less ρ p < plus ρ p → pos 0 <ᶻ ⟦◌⟧ b ρ -ℤ ⟦◌⟧ a ρ
      go p e h = omega (arith, ord, plus-less ρ p)

  pub fact-≡ : ⟦◌⟧ a ρ ≡ ⟦◌⟧ b ρ → less ρ (norm (b :- a)) ≡ plus ρ (norm (b :- a))
  fact-≡ h = go (norm (b :- a)) (norm-ok ρ (b :- a)) (sub (⟦◌⟧ a ρ) (⟦◌⟧ b ρ) h)
    where
      sub : (x y : ℤ) → x ≡ y → pos 0 ≡ y -ℤ x
      sub x y = rw (is x, is y) (simp Z (omega arith))

      go : (p : Poly) → eval_p ρ p ≡ ⟦◌⟧ b ρ -ℤ ⟦◌⟧ a ρ → pos 0 ≡ ⟦◌⟧ b ρ -ℤ ⟦◌⟧ a ρ → less ρ p ≡ plus ρ p
      go p e h = omega (arith, ord, plus-less ρ p)
