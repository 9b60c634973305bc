-- What bytes up to the first that means something leave: a place among them, a readable reader, and the one step that told the event.
-- Why: each by the bytes, one after the other.
use Rattle.std.specs.Prelude.{◌≡◌, refl, Bool, true, false, List, [], ◌∷◌, ◌++◌, ℕ, suc, ◌+◌, ◌-◌, ◌≤◌, ◌<◌, length, drop, get_or}
use Rattle.std.proofs.Common.{sym, ap, ◌∙◌, true≢false, arith, drop_of_length-le, length-drop, drop-cons, get_or-drop}
use Rattle.std.proofs.Math.Seq.{get_or-append_seam}
use Rattle.reader.specs.declared.Event.{Event}
use Rattle.reader.specs.declared.Event.TheVariants.{Nothing, Named, Pair, Ended, Refused}
use Rattle.reader.specs.declared.Reader.{Reader}
use Rattle.reader.specs.declared.Next.{Next}
use Rattle.reader.specs.Step.{step_of}
use Rattle.reader.specs.Stream.{◌telling◌, Means, done, quiet}
use Rattle.reader.specs.Sizes.{Readable}
use Rattle.reader.proofs.SizeLaws.{step-sized}
use Rattle.reader.specs.Next.{is_nothing, placed, next_of}

-- ---- one byte

pub next-end : (r : Reader) (at : ℕ) → next_of r [] at ≡ placed (r telling Nothing) at
unfolding next_of
next-end r at = refl

module _ (r : Reader) (b : ℕ) (bs : List ℕ) (at : ℕ) where
  pub next-quiet : is_nothing (step_of r b).event ≡ true → next_of r (b ∷ bs) at ≡ next_of (step_of r b).reader bs (at + 1)
  unfolding next_of
  next-quiet e = simp e

  pub next-event : is_nothing (step_of r b).event ≡ false → next_of r (b ∷ bs) at ≡ placed (step_of r b) (at + 1)
  unfolding next_of
  next-event e = simp e

  -- what holds either way holds
  by_byte :
      (P : Next → Type 0)
      → (is_nothing (step_of r b).event ≡ true → P (next_of (step_of r b).reader bs (at + 1)))
      → (is_nothing (step_of r b).event ≡ false → P (placed (step_of r b) (at + 1)))
      → P (next_of r (b ∷ bs) at)
  by_byte P f g = go (is_nothing (step_of r b).event) refl
    where
      go : (t : Bool) → is_nothing (step_of r b).event ≡ t → P (next_of r (b ∷ bs) at)
      go true e = rw (next-quiet e) (f e)
      go false e = rw (next-event e) (g e)

nothing_is : (e : Event) → is_nothing e ≡ true → e ≡ Nothing
unfolding is_nothing
nothing_is Nothing t = refl
nothing_is (Named op) t = absurd (true≢false (sym t))
nothing_is (Pair p) t = absurd (true≢false (sym t))
nothing_is (Ended op ns) t = absurd (true≢false (sym t))
nothing_is (Refused n) t = absurd (true≢false (sym t))

quiet_step : (r : Reader) (b : ℕ) → is_nothing (step_of r b).event ≡ true → step_of r b ≡ (step_of r b).reader telling Nothing
quiet_step r b t = ap (λ (e : Event). (step_of r b).reader telling e) (nothing_is (step_of r b).event t)

-- ---- the place

place-from : (r : Reader) (bs : List ℕ) (at : ℕ) → (at ≤ (next_of r bs at).at) × ((next_of r bs at).at ≤ at + length bs)
place-from r [] at = rw (next-end r at) (omega arith, omega arith)
place-from r (b ∷ bs) at =
    let h = place-from (step_of r b).reader bs (at + 1) in
    by_byte r b bs at (λ q. (at ≤ q.at) × (q.at ≤ at + suc (length bs)))
    (λ e. (omega (arith, h.0), omega (arith, h.1)))
    (λ e. (omega arith, omega arith))

takes-from : (r : Reader) (b : ℕ) (bs : List ℕ) (at : ℕ) → at < (next_of r (b ∷ bs) at).at
takes-from r b bs at = by_byte r b bs at (λ q. at < q.at) (λ e. omega (arith, (place-from (step_of r b).reader bs (at + 1)).0)) (λ e. omega arith)

module _ (r : Reader) (s : List ℕ) (from : ℕ) where
  -- no byte is read twice, and none past the end
  pub next_place : from ≤ length s → (from ≤ (next_of r (drop from s) from).at) × ((next_of r (drop from s) from).at ≤ length s)
  next_place h = let p = place-from r (drop from s) from in (p.0, omega (arith, p.1, length-drop from s))

  -- where a byte is left, one is read
  pub next-takes : from < length s → from < (next_of r (drop from s) from).at
  next-takes h = rw (drop-cons s from 0 h) (takes-from r _ _ from)

  -- past the end nothing is read
  pub next_past : length s ≤ from → next_of r (drop from s) from ≡ placed (r telling Nothing) from
  next_past h = rw (drop_of_length-le s h) (next-end r from)

-- ---- the reader and the event

pub next-readable : (r : Reader) (bs : List ℕ) (at : ℕ) → Readable r → Readable (next_of r bs at).reader
next-readable r [] at h = rw (next-end r at) h
next-readable r (b ∷ bs) at h =
    let k = (step-sized r h b).reader in
    by_byte r b bs at (λ q. Readable q.reader) (λ e. next-readable (step_of r b).reader bs (at + 1) k) (λ e. k)

-- where the event is Nothing, every byte was read and none meant anything
pub next-through :
    (r : Reader) (bs : List ℕ) (at : ℕ)
    → is_nothing (next_of r bs at).event ≡ true
    → Means r bs [] (next_of r bs at).reader × ((next_of r bs at).at ≡ at + length bs)
next-through r [] at = rw (next-end r at) (λ t. (done, omega arith))
next-through r (b ∷ bs) at =
    by_byte r b bs at (λ q. is_nothing q.event ≡ true → Means r (b ∷ bs) [] q.reader × (q.at ≡ at + suc (length bs)))
    (λ e t. let h = next-through (step_of r b).reader bs (at + 1) t in (quiet (quiet_step r b e) h.0, omega (arith, h.1)))
    (λ e t. absurd (true≢false (sym t ∙ e)))

-- An event that is more than Nothing is what one byte means to a readable reader, which the bytes before it lead to and mean
-- nothing.
pub record Came (r : Reader) (bs : List ℕ) (at : ℕ) (q : Next) : Type 0 where
  pub before : List ℕ
  pub byte : ℕ
  pub rest : List ℕ
  pub last : Reader
  pub split : bs ≡ before ++ (byte ∷ rest)
  pub quiet : Means r before [] last
  pub readable : Readable last
  pub step : step_of last byte ≡ q.reader telling q.event
  pub place : q.at ≡ at + length before + 1

pub next-came : (r : Reader) (bs : List ℕ) (at : ℕ) → Readable r → is_nothing (next_of r bs at).event ≡ false → Came r bs at (next_of r bs at)
unfolding is_nothing
next-came r [] at h = rw (next-end r at) none
  where
    none : is_nothing Nothing ≡ false → Came r [] at (placed (r telling Nothing) at)
    none t = absurd (true≢false t)
next-came r (b ∷ bs) at h =
    by_byte r b bs at (λ q. is_nothing q.event ≡ false → Came r (b ∷ bs) at q)
    (λ e t. later e (next-came (step_of r b).reader bs (at + 1) (step-sized r h b).reader t))
    (λ e t. record { before = []; byte = b; rest = bs; last = r; split = refl; quiet = done; readable = h; step = refl; place = omega arith })
  where
    later : {q : Next} → is_nothing (step_of r b).event ≡ true → Came (step_of r b).reader bs (at + 1) q → Came r (b ∷ bs) at q
    later e c =
        record {
          before = b ∷ c.before;
          byte = c.byte;
          rest = c.rest;
          last = c.last;
          split = ap (λ (l : List ℕ). b ∷ l) c.split;
          quiet = quiet (quiet_step r b e) c.quiet;
          readable = c.readable;
          step = c.step;
          place = omega (arith, c.place);
        }

-- that byte is the last one that was read
pub came-byte : {r : Reader} {q : Next} (s : List ℕ) (from : ℕ) (c : Came r (drop from s) from q) → get_or s (q.at - 1) 0 ≡ c.byte
came-byte {q = q} s from c =
    let n = length c.before in
    let e : q.at - 1 ≡ from + n = omega (arith, c.place) in
    rw e (sym (get_or-drop from s n 0) ∙ ap (λ (l : List ℕ). get_or l n 0) c.split ∙ get_or-append_seam c.before c.byte c.rest 0)
