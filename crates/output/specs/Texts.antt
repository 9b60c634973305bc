-- A text that is put into the buffer: its bytes, one after another.
use Rattle.std.specs.Prelude.{List, [], ◌∷◌, ◌++◌, ◌≡◌, refl, ℕ}
use Rattle.std.proofs.Common.{subst}
use Rattle.io.specs.Digits.{last_digits, IsDigitCount}
use Rattle.output.specs.Gathered.{Put}

-- one thing and then another, with a count and a buffer between them
pub record Between (first second : ℕ → List ℕ → Type 0) : Type 0 where
  pub used : ℕ
  pub list : List ℕ
  pub before : first used list
  pub after : second used list

unfoldable pub PutsFrom : List ℕ → ℕ → List ℕ → ℕ → List ℕ → Type 0
PutsFrom [] used before r after = (r ≡ used) × (after ≡ before)
PutsFrom (b ∷ text) used before r after = Between (Put used b before) (λ (m : ℕ) (l : List ℕ). PutsFrom text m l r after)

pub record Puts (text : List ℕ) (used : ℕ) (before : List ℕ) (r : ℕ) (after : List ℕ) : Type 0 where
  pub puts : PutsFrom text used before r after

pub puts-nothing : (used : ℕ) (before : List ℕ) → Puts [] used before used before
unfolding PutsFrom
puts-nothing used before = record { puts = (refl, refl) }

more : (text : List ℕ) (b used : ℕ) (before : List ℕ) (m : ℕ) (l : List ℕ) (r : ℕ) (after : List ℕ) → PutsFrom text used before m l → Put m b l r after → PutsFrom (text ++ (b ∷ [])) used before r after
unfolding PutsFrom
more [] b used before m l r after p q = record {
  used = r;
  list = after;
  before = subst (λ (n : ℕ). Put n b before r after) p.0 (subst (λ (k : List ℕ). Put m b k r after) p.1 q);
  after = (refl, refl);
}
more (c ∷ text) b used before m l r after p q = record {
  used = p.used;
  list = p.list;
  before = p.before;
  after = more text b p.used p.list m l r after p.after q;
}

-- one byte more at the end
pub puts-more : {text : List ℕ} {b used : ℕ} {before : List ℕ} {m : ℕ} {l : List ℕ} {r : ℕ} {after : List ℕ} → Puts text used before m l → Put m b l r after → Puts (text ++ (b ∷ [])) used before r after
puts-more {text} {b} {used} {before} {m} {l} {r} {after} p q = record { puts = more text b used before m l r after p.puts q }

-- a number, in as few digits as it has
pub record PutsNatural (n used : ℕ) (before : List ℕ) (r : ℕ) (after : List ℕ) : Type 0 where
  pub count : ℕ
  pub fewest : IsDigitCount 10 1 n count
  pub puts : Puts (last_digits 10 count n) used before r after
