-- The byte at a place, and what `next` makes of it: a run of digits, or a step.
use mathlib.Core.Path.{◌≡◌, refl, sym, ◌∙◌}
use mathlib.Core.Bool.{Bool, true, false, cond, true≢false}
use mathlib.Core.List.{List}
use Prim.Native.Nat.{ℕ, zero, suc, ◌+◌, ◌-◌, ◌*◌, ◌≤◌, ◌<◌}
use Prim.Native.Char.{code}
use native.Mathlib.Numerals.{add-one}
use native.Mathlib.Omega.{arith}
use borrow.Author.Tests.{ltb-true, ltb-false}
use lib.Dec.{leb, ltb}
use lib.ListN.{length, drop, get_or}
use lib.Seq.{drop-cons}
use Rattle.numerals.specs.declared.number.Number.{Number}
use Rattle.numerals.specs.declared.number.Run.{Run}
use Rattle.numerals.specs.declared.number.Scanned.{Scanned}
use Rattle.numerals.specs.Bytes.{is_digit}
use Rattle.numerals.specs.Number.{places, bottom, counted_of, digit_of}
use Rattle.numerals.specs.Run.{run_of, counts_whole, with_run, scanned_of}
use Rattle.numerals.specs.RunLaws.{digit-class, run_end, run-stop, run_past, run_on, run-place, counted-digit, counts_whole-parts}
use Rattle.reader.specs.Reader.{open_of}
use Rattle.reader.specs.Step.{in_number_of, by_mode, step_of}
use Rattle.reader.specs.Stream.{◌telling◌}
use Rattle.reader.specs.Next.{more_digits, is_nothing, placed, next_of}
use Rattle.reader.proofs.NextLaws.{next-quiet, next-event}
use Rattle.reader.specs.declared.Event.TheVariants.{Nothing}
use Rattle.reader.specs.declared.Mode.{Mode}
use Rattle.reader.specs.declared.Mode.TheVariants.{Idle, First, Parameters, InNumber, PassOver, Label}
use Rattle.reader.specs.declared.Reader.{Reader}
use Rattle.reader.specs.declared.Step.{Step}

-- ---- the byte by itself

-- The reader with another number.
abbrev with_number : Reader → Number → Reader
with_number r n = record { mode = r.mode; op = r.op; numbers = r.numbers; number = n }

pub in-number : (m : Mode) (b : ℕ) → more_digits m b ≡ true → (m ≡ InNumber) × (is_digit b ≡ true)
unfolding more_digits
in-number InNumber b t = (refl, t)
in-number Idle b t = absurd (true≢false (sym t))
in-number (First l) b t = absurd (true≢false (sym t))
in-number Parameters b t = absurd (true≢false (sym t))
in-number PassOver b t = absurd (true≢false (sym t))
in-number Label b t = absurd (true≢false (sym t))

digit-step :
    (r : Reader) (b : ℕ)
    → r.mode ≡ InNumber
    → is_digit b ≡ true
    → step_of r b ≡ with_number r (digit_of r.number (b - code "0")) telling Nothing
unfolding step_of by_mode in_number_of open_of
digit-step r b e d = rw (e, (digit-class b d).2) refl

-- ---- the byte at a place

module _ (r : Reader) (s : List ℕ) (at : ℕ) (h : at < length s) where
  pub quiet_at : (q : Step) → q ≡ step_of r (get_or s at 0) → is_nothing q.event ≡ true → next_of r (drop at s) at ≡ next_of q.reader (drop (at + 1) s) (at + 1)
  quiet_at q k e = rw (drop-cons s at 0 h, ← add-one at, k) (next-quiet r (get_or s at 0) (drop (at + 1) s) at (rw k at e))

  pub event-at : (q : Step) → q ≡ step_of r (get_or s at 0) → is_nothing q.event ≡ false → next_of r (drop at s) at ≡ placed q (at + 1)
  event-at q k e = rw (drop-cons s at 0 h, k) (next-event r (get_or s at 0) (drop (suc at) s) at (rw k at e))

  pub digit_at :
      (n : Number)
      → r.mode ≡ InNumber
      → is_digit (get_or s at 0) ≡ true
      → digit_of r.number (get_or s at 0 - code "0") ≡ n
      → next_of r (drop at s) at ≡ next_of (with_number r n) (drop (at + 1) s) (at + 1)
  unfolding is_nothing
  digit_at n m d k = quiet_at (with_number r n telling Nothing) (rw (← k) (sym (digit-step r (get_or s at 0) m d))) refl

module _ (r : Reader) (s : List ℕ) (m : r.mode ≡ InNumber) (k : leb places r.number.decimals ≡ false) (p : r.number.pointed ≡ false) where
  abbrev with : ℕ → Reader
  with g = with_number r (counted_of r.number r.number.decimals g)

  abbrev Through : ℕ → ℕ → Run → Type 0
  Through g at q = next_of (with g) (drop at s) at ≡ next_of (with q.magnitude) (drop q.at s) q.at

  run-next : (j g at : ℕ) → length s ≤ at + j → Through g at (run_of g (drop at s) at)
  unfolding counted_of
  run-next zero g at h = rw (run_end g s at (omega (arith, h))) refl
  run-next (suc j) g at h =
      go (ltb at (length s)) (is_digit (get_or s at 0)) (ltb bottom g) refl refl refl (run-next j (g * 10 + (get_or s at 0 - code "0")) (at + 1) (omega (arith, h)))
    where
      after : Run
      after = run_of (g * 10 + (get_or s at 0 - code "0")) (drop (at + 1) s) (at + 1)

      go :
          (x y z : Bool)
          → ltb at (length s) ≡ x
          → is_digit (get_or s at 0) ≡ y
          → ltb bottom g ≡ z
          → Through (g * 10 + (get_or s at 0 - code "0")) (at + 1) after
          → Through g at (run_of g (drop at s) at)
      go false y z a d b i = rw (run_end g s at (ltb-false at (length s) a)) refl
      go true false z a d b i = rw (run-stop g s at (ltb-true at (length s) a) d) refl
      go true true true a d b i = rw (run_past g s at (ltb-true at (length s) a) d b) refl
      go true true false a d b i =
          let l = ltb-true at (length s) a in
          let n = counted_of r.number r.number.decimals g in
          rw (run_on g s at l d b) (digit_at (with g) s at l _ m d (counted-digit n (get_or s at 0 - code "0") k b p) ∙ i)

-- The digit at a place, with those that are taken after it: they are read on, and mean nothing.
module _ (r : Reader) (s : List ℕ) (at : ℕ) (h : at < length s) (t : more_digits r.mode (get_or s at 0) ≡ true) where
  abbrev Scans : Scanned → Type 0
  Scans q = (at < q.at) × (next_of r (drop at s) at ≡ next_of (with_number r q.number) (drop q.at s) q.at)

  pub scanned-at : (q : Scanned) → q ≡ scanned_of r.number s at → Scans q
  unfolding scanned_of counted_of
  scanned-at q e = rw e (go (counts_whole r.number) refl)
    where
      d : ℕ
      d = get_or s at 0 - code "0"

      m : (r.mode ≡ InNumber) × (is_digit (get_or s at 0) ≡ true)
      m = in-number r.mode (get_or s at 0) t

      run : Run
      run = run_of r.number.magnitude (drop at s) at

      go : (c : Bool) → counts_whole r.number ≡ c → Scans (cond c (with_run r.number run) (record { number = digit_of r.number d; at = at + 1 }))
      go false c = (omega arith, digit_at r s at h _ m.0 m.1 refl)
      go true c =
          let w = counts_whole-parts r.number c in
          let g = r.number.magnitude * 10 + d in
          rw (run_on r.number.magnitude s at h m.1 w.2) (
            omega (arith, run-place g (drop (at + 1) s) (at + 1)),
            digit_at r s at h _ m.0 m.1 (counted-digit r.number d w.1 w.2 w.0)
                ∙ run-next r s m.0 w.1 w.0 (length s) g (at + 1) (omega arith),
          )
