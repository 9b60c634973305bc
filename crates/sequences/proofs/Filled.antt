-- A list that is extended by an iterator: what is said of each run of the iterator is said of the items that came. And elements of a list that were read as references.
use Rattle.std.proofs.Common.{arith, refl, ap, sym, subst, ◌∙◌, ℕ, Bool, true, false, true≢false, ◌≡◌, ◌<◌, ◌≤◌, length, slice_get, slice_index_or, IfSome, IsSomeAnd, List, Option, Result, Ok, Err, Bor}
use Rattle.std.specs.declared.option.Option.TheVariants.{Some, None}
use Rattle.std.specs.List.{HoldsAt}
use Rattle.std.specs.Option.{option_map, MatchOption}
use Rattle.std.specs.Result.{MatchResult, OnErr}
use Rattle.std.specs.Iterator.{Drains, DrainsIf, Yields}
use Rattle.std.specs.Iterator.Runs.{Run, Trigger, YieldsRun}
use Rattle.std.proofs.lemmas.Option.{slice_get-get_or, get_or_from_slice_get, same_Some, none-some, slice_get_past}

-- ---- a run, made of the calls that were made

pub seen : (n : ℕ) → Trigger n
unfolding Trigger
seen n = tt

module _ {S A : Type 0} (steps : S → Option A → S → Type 0) (s : S) (xs : List A) (whole : Bool) (t : DrainsIf steps (whole ≡ true) s xs) where
  pub gave : YieldsRun steps s xs whole (slice_get xs)
  unfolding YieldsRun
  gave = (t, λ k. refl)

  abbrev pub run : Run steps
  run = record {
    from = s;
    items = xs;
    whole = whole;
    len = length xs;
    at = slice_get xs;
    seen = seen (length xs);
    long = refl;
    reads = λ k d h. ap (option_map (λ z. z)) (slice_get-get_or xs k d h);
    gave = gave;
  }

module _ {S A : Type 0} {steps : S → Option A → S → Type 0} {it s : S} {P : Run steps → Type 0} (each : (p : Run steps) → Trigger p.len → p.from ≡ s → P p) (xs : List A) (e : it ≡ s) where
  module _ {E R : Type 0} (r : Result R E) (came : MatchResult r (λ _. Drains steps it xs) (λ _. (t : S) × Yields steps it xs t)) where
    pub came_on : DrainsIf steps (false ≡ true) it xs
    came_on = go r came
      where
        go : (r : Result R E) → MatchResult r (λ _. Drains steps it xs) (λ _. (t : S) × Yields steps it xs t) → DrainsIf steps (false ≡ true) it xs
        go (Ok v) d = (d.1.0, d.1.1, λ e. absurd (true≢false (sym e)))
        go (Err x) y = (y.0, y.1, λ e. absurd (true≢false (sym e)))

    -- it is said of the items that came, whether there was room for all of them or not
    pub filled : P (run steps it xs false came_on)
    filled = each (run steps it xs false came_on) (seen (length xs)) e

    module _ {n most : ℕ} (full : OnErr r (n ≡ most)) (h : n < most) where
      pub came_all : DrainsIf steps (true ≡ true) it xs
      came_all = go r came full
        where
          go : (r : Result R E) → MatchResult r (λ _. Drains steps it xs) (λ _. (t : S) × Yields steps it xs t) → OnErr r (n ≡ most) → DrainsIf steps (true ≡ true) it xs
          go (Ok v) d f = (d.1.0, d.1.1, λ _. (d.0, d.1.2))
          go (Err x) y f = absurd (omega (arith, f, h))

      -- where room is left it is said of all items
      pub filled_by_all : P (run steps it xs true came_all)
      filled_by_all = each (run steps it xs true came_all) (seen (length xs)) e

-- ---- what is known of the reference to an element is known of the element

module _ {C B : Type 0} (list : List C) (k : ℕ) {P : Bor C → B → Type 0} (Q : C → B → Type 0) (known : (x : Bor C) (y : B) → P x y → Q x.now y) where
  beside : (x : Bor C) (c : C) → x.now ≡ c → (b : Option B) → IsSomeAnd b (P x) → IsSomeAnd b (Q c)
  beside x c e (Some y) h = subst (λ z. Q z y) e (known x y h)
  beside x c e None h = h

  -- what is known of a reference and the answer that stands beside it
  pub at_place : (o : Option (Bor C)) → ((d : C) → option_map (λ x. x.now) o ≡ Some (slice_index_or list k d)) → (b : Option B)
      → IfSome o (λ x. IsSomeAnd b (P x)) → IfSome (slice_get list k) (λ c. IsSomeAnd b (Q c))
  at_place o reads b h = go (slice_get list k) refl
    where
      of : (o : Option (Bor C)) (c : C) → option_map (λ x. x.now) o ≡ Some c → IfSome o (λ x. IsSomeAnd b (P x)) → IsSomeAnd b (Q c)
      of (Some x) c e h = beside x c (same_Some _ _ e) b h
      of None c e h = absurd (none-some _ e)

      go : (g : Option C) → slice_get list k ≡ g → IfSome g (λ c. IsSomeAnd b (Q c))
      go (Some c) e = of o c (reads c ∙ ap Some (get_or_from_slice_get list k c c e)) h
      go None e = tt

module _ {C : Type 0} (list : List C) (k : ℕ) {P : Bor C → Type 0} (Q : C → Type 0) (known : (x : Bor C) → P x → Q x.now) where
  -- what is known of the reference at which a run ended, if it did not end with the list
  pub at_end : {Ended : Type 0} → (Ended → length list ≤ k) → (o : Option (Bor C)) → IfSome o (λ x. HoldsAt (λ c. x.now ≡ c) list k) → MatchOption o Ended P
      → IfSome (slice_get list k) Q
  at_end {Ended} past = go (slice_get list k) refl
    where
      go : (g : Option C) → slice_get list k ≡ g → (o : Option (Bor C)) → IfSome o (λ x. HoldsAt (λ c. x.now ≡ c) list k) → MatchOption o Ended P → IfSome g Q
      go None e o reads h = tt
      go (Some c) e None reads h = absurd (none-some c (sym (slice_get_past list k (past h)) ∙ e))
      go (Some c) e (Some x) reads h = subst Q (reads c ∙ get_or_from_slice_get list k c c e) (known x h)
