-- Cases of tests, for the proofs that go rule by rule.
use Rattle.std.specs.Prelude.{◌≡◌, refl, Bool, true, false, cond}
use Rattle.std.proofs.Common.{sym, ◌∙◌}
use Rattle.std.proofs.lemmas.Bool.{false≢true}

pub never : {X : Type 0} {t : Bool} → t ≡ false → t ≡ true → X
never h k = absurd (false≢true (sym h ∙ k))

-- what holds of both ways holds of the choice
pub pick : {A : Type 0} (P : A → Type 0) (t : Bool) {x y : A} → P x → P y → P (cond t x y)
pick P true h k = h
pick P false h k = k

-- a choice that both sides make
pub choose : {A B : Type 0} (P : A → B → Type 0) (t : Bool) {a b : A} {x y : B} → P a x → P b y → P (cond t a b) (cond t x y)
choose P true f g = f
choose P false f g = g

-- a choice, with what its test says
pub whether : {A : Type 0} (P : A → Type 0) (t : Bool) {x y : A} → (t ≡ true → P x) → (t ≡ false → P y) → P (cond t x y)
whether P true f g = f refl
whether P false f g = g refl

pub cond-true : {A : Type 0} (t : Bool) (x y : A) → t ≡ true → cond t x y ≡ x
cond-true t x y e = rw e refl

pub cond-false : {A : Type 0} (t : Bool) (x y : A) → t ≡ false → cond t x y ≡ y
cond-false t x y e = rw e refl
