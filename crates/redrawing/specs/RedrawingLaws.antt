-- Laws for the code: how long the parts of the text are, the strokes of a list one by one, how far the text is put, the answer by its two tests, and a text that is put from
-- the start of the output on.
use Rattle.std.specs.Prelude.{true, false, ◌&&◌, List, [], ◌∷◌, ◌++◌, ◌≡◌, ℤ, pos, negsuc, nat_abs, drop, Result, Ok, Err}
use Rattle.std.proofs.Math.Path.{refl, ap}
use Rattle.std.proofs.Common.{sym, ◌∙◌, zero-add, add-one, ne_eqb, eq-eqb, length-append, append-nil, append_assoc}
use Prim.Native.Char.{code}
use Prim.Native.Nat.{ℕ, zero, suc, ◌+◌, ◌/◌, ◌-◌, ◌≤◌, ◌<◌}
use Rattle.std.proofs.Math.Nat.{sub-zero}
use native.Mathlib.Omega.{arith}
use Rattle.std.proofs.Math.ListN.{length, drop_of_length-le}
use Rattle.std.proofs.Math.Seq.{drop-cons}
use Rattle.std.proofs.lemmas.List.Edits.{sets-eq}
use Rattle.exact.specs.Int16.{int16, int16-size}
use Rattle.decimals.specs.Decimal.{decimal, sign, whole}
use Rattle.decimals.proofs.DecimalLaws.{decimal-one, more-length, decimal-length}
use Rattle.decimals.specs.Puts.{Puts, puts-same, puts-length, puts_then}
use Rattle.hpgl.specs.declared.Stroke.{Stroke}
use Rattle.redrawn.specs.declared.Refusal.{Refusal}
use Rattle.redrawn.specs.declared.Refusal.TheVariants.{NotWritable, TooShort}
use Rattle.redrawn.specs.Redrawn.{fits_in, number_of, written_of, output_of, writable, all_writable, start_text, pen_text, move_text, line_text, change_text, stroke_text, strokes_text, text_of, stroke_at, strokes_from, strokes_in}
use Rattle.redrawn.proofs.FirstStroke.{text-from, text-long}
use Rattle.redrawing.specs.Lists.{no_stroke, nth}
use Rattle.redrawn.specs.RedrawnLaws.{Writable, natural-long, whole_long}

-- ---- lengths

-- digits by their number
pub digits_1 : (n : ℕ) → n < 10 → length (decimal n) ≡ 1
digits_1 n h = ap length (decimal-one n h)

pub digits_2 : (n : ℕ) → 10 ≤ n → n < 100 → length (decimal n) ≡ 2
digits_2 n l h = omega (arith, more-length n l, digits_1 (n / 10) (omega arith))

pub digits_3 : (n : ℕ) → 100 ≤ n → n < 1000 → length (decimal n) ≡ 3
digits_3 n l h = omega (arith, more-length n (omega arith), digits_2 (n / 10) (omega arith) (omega arith))

pub digits_4 : (n : ℕ) → 1000 ≤ n → n < 10000 → length (decimal n) ≡ 4
digits_4 n l h = omega (arith, more-length n (omega arith), digits_3 (n / 10) (omega arith) (omega arith))

pub digits_5 : (n : ℕ) → 10000 ≤ n → n < 100000 → length (decimal n) ≡ 5
digits_5 n l h = omega (arith, more-length n (omega arith), digits_4 (n / 10) (omega arith) (omega arith))

-- a number with the byte after it, whichever that is
pub same-long : (z : ℤ) (a b : ℕ) → length (whole z a) ≡ length (whole z b)
same-long z a b = whole_long z a ∙ sym (whole_long z b)

-- so a comma will do
abbrev pub bytes_of : ℤ → ℕ
bytes_of z = length (whole z (code ","))

pub pen-long : (p : ℕ) → p < 10 → length (pen_text p) ≡ 4
unfolding pen_text
pen-long p h = omega (arith, natural-long p (code ";"), digits_1 p h)

pub move-long : (letter : ℕ) (x y : ℤ) → length (move_text letter x y) ≡ 2 + bytes_of x + bytes_of y
unfolding move_text
move-long letter x y = omega (arith, length-append (whole x (code ",")) (whole y (code ";")), same-long y (code ";") (code ","))

abbrev pub ends_length : Stroke → ℕ
ends_length s = bytes_of s.x0 + bytes_of s.y0 + (bytes_of s.x1 + bytes_of s.y1)

line-long : (s : Stroke) → length (line_text s) ≡ 4 + ends_length s
unfolding line_text
line-long s =
    omega (arith, length-append (move_text (code "U") s.x0 s.y0) (move_text (code "D") s.x1 s.y1), move-long (code "U") s.x0 s.y0, move-long (code "D") s.x1 s.y1)

pub same-pen-long : (before : ℕ) (s : Stroke) → s.pen ≡ before → length (stroke_text before s) ≡ 4 + ends_length s
unfolding stroke_text change_text
same-pen-long before s e = rw (eq-eqb s.pen before e) (line-long s)

pub other-pen-long : (before : ℕ) (s : Stroke) → (s.pen ≡ before → ⊥) → s.pen < 10 → length (stroke_text before s) ≡ 8 + ends_length s
unfolding stroke_text change_text
other-pen-long before s e h = rw (ne_eqb s.pen before e) (omega (arith, length-append (pen_text s.pen) (line_text s), pen-long s.pen h, line-long s))

-- an end of a stroke has at most five digits
pub end-small : (z : ℤ) → int16 z ≡ true → nat_abs z < 100000
end-small z h = omega (arith, (int16-size z h).bd)

sign-short : (z : ℤ) → length (sign z) ≤ 1
sign-short (pos n) = omega arith
sign-short (negsuc n) = omega arith

end_short : (z : ℤ) → int16 z ≡ true → bytes_of z ≤ 7
end_short z h = omega (arith, whole_long z (code ","), sign-short z, decimal-length 4 (nat_abs z) (omega (arith, end-small z h)))

-- and both ends of a stroke together
pub ends-short : (s : Stroke) → Writable s → ends_length s ≤ 28
ends-short s w = omega (arith, end_short s.x0 w.x0, end_short s.y0 w.y0, end_short s.x1 w.x1, end_short s.y1 w.y1)

-- ---- strokes one by one

module _ (ss : List Stroke) (i : ℕ) where
  module _ (h : i < length ss) where
    -- the i-th is the first of those that are left
    pub first : drop i ss ≡ nth ss i ∷ drop (i + 1) ss
    first = drop-cons ss i no_stroke h ∙ ap (λ (k : ℕ). nth ss i ∷ drop k ss) (sym (add-one i))

    pub writable-more : all_writable (drop i ss) ≡ writable (nth ss i) && all_writable (drop (i + 1) ss)
    unfolding all_writable
    writable-more = ap all_writable first

    pub text-more : (before : ℕ) → strokes_text before (drop i ss) ≡ stroke_text before (nth ss i) ++ strokes_text (nth ss i).pen (drop (i + 1) ss)
    unfolding strokes_text
    text-more before = ap (strokes_text before) first

    pub long-more : (before : ℕ) → length (strokes_text before (drop i ss)) ≡ length (stroke_text before (nth ss i)) + length (strokes_text (nth ss i).pen (drop (i + 1) ss))
    long-more before = ap length (text-more before) ∙ length-append (stroke_text before (nth ss i)) (strokes_text (nth ss i).pen (drop (i + 1) ss))

  module _ (h : length ss ≤ i) where
    pub writable-end : all_writable (drop i ss) ≡ true
    unfolding all_writable
    writable-end = ap all_writable (drop_of_length-le ss h)

    pub text-end : (before : ℕ) → strokes_text before (drop i ss) ≡ []
    unfolding strokes_text
    text-end before = ap (strokes_text before) (drop_of_length-le ss h)

-- those of a list of numbers
module _ (numbers : List ℤ) where
  from-long : (i k : ℕ) → length (strokes_from numbers i k) ≡ k
  unfolding strokes_from
  from-long i zero = refl
  from-long i (suc k) = ap suc (from-long (i + 1) k)

  from-nth : (i k j : ℕ) → j < k → nth (strokes_from numbers i k) j ≡ stroke_at numbers (i + j)
  unfolding strokes_from
  from-nth i zero j h = absurd (omega (arith, h))
  from-nth i (suc k) zero h = let e : i ≡ i + 0 = omega arith in ap (stroke_at numbers) e
  from-nth i (suc k) (suc j) h = let e : i + 1 + j ≡ i + suc j = omega arith in from-nth (i + 1) k j (omega (arith, h)) ∙ ap (stroke_at numbers) e

  pub numbers-long : length (strokes_in numbers) ≡ length numbers / 5
  unfolding strokes_in
  numbers-long = from-long 0 (length numbers / 5)

  pub numbers-nth : (i : ℕ) → i < length (strokes_in numbers) → nth (strokes_in numbers) i ≡ stroke_at numbers i
  unfolding strokes_in
  numbers-nth i h = from-nth 0 (length numbers / 5) i (omega (arith, h, numbers-long)) ∙ ap (stroke_at numbers) (zero-add i)

-- those of a list of numbers that are left from the i-th on
module _ (numbers : List ℤ) where
  abbrev pub left : ℕ → List Stroke
  left i = strokes_from numbers i (length numbers / 5 - i)

  pub left-all : left 0 ≡ strokes_in numbers
  unfolding strokes_in
  left-all = ap (strokes_from numbers 0) (sub-zero (length numbers / 5))

  pub left-none : {i : ℕ} → length numbers / 5 ≤ i → left i ≡ []
  unfolding strokes_from
  left-none {i} h = let e : length numbers / 5 - i ≡ 0 = omega arith in ap (strokes_from numbers i) e

  pub left-some : {i : ℕ} → i < length numbers / 5 → left i ≡ stroke_at numbers i ∷ left (i + 1)
  unfolding strokes_from
  left-some {i} h = let e : length numbers / 5 - i ≡ suc (length numbers / 5 - (i + 1)) = omega arith in ap (strokes_from numbers i) e

-- ---- how far the text is put: what is put, `done`, and what is left of the strokes from the i-th on are the text

pub record Putting (ss : List Stroke) (first now : List ℕ) (i before end : ℕ) : Type 0 where
  pub done : List ℕ
  pub puts : Puts done first now 0 end
  pub left : done ++ strokes_text before (drop i ss) ≡ start_text ++ strokes_text 0 ss

module _ {ss : List Stroke} {out now : List ℕ} {i before end : ℕ} (p : Putting ss out now i before end) where
  putting-long : length p.done + length (strokes_text before (drop i ss)) ≡ 3 + length (strokes_text 0 ss)
  putting-long = sym (length-append p.done (strokes_text before (drop i ss))) ∙ ap length p.left ∙ length-append start_text (strokes_text 0 ss)

  module _ (h : i < length ss) where
    pub putting-room : all_writable ss ≡ true → length (text_of ss) ≤ length out → end + length (stroke_text before (nth ss i)) ≤ length now
    putting-room w room = omega (arith, room, text-long ss w, putting-long, long-more ss i h before, p.puts.ends, puts-length p.puts)

    pub putting-more : {after : List ℕ} {next : ℕ} → Puts (stroke_text before (nth ss i)) now after end next → Putting ss out after (i + 1) (nth ss i).pen next
    putting-more q = record {
      done = p.done ++ stroke_text before (nth ss i);
      puts = puts_then p.puts q;
      left =
          append_assoc p.done (stroke_text before (nth ss i)) (strokes_text (nth ss i).pen (drop (i + 1) ss))
          ∙ ap (λ (l : List ℕ). p.done ++ l) (sym (text-more ss i h before)) ∙ p.left;
    }

  pub putting-end : length ss ≤ i → all_writable ss ≡ true → Puts (text_of ss) out now 0 end
  putting-end h w =
      puts-same (sym (append-nil p.done) ∙ ap (λ (l : List ℕ). p.done ++ l) (sym (text-end ss i h before)) ∙ p.left ∙ sym (text-from ss w)) p.puts

-- ---- the answer and the output, by the two tests

module _ (ss : List Stroke) (out : List ℕ) where
  abbrev pub Answers : List ℕ → Result ℕ Refusal → Type 0
  Answers after r = (r ≡ written_of ss (length out)) × (after ≡ output_of ss out)

  pub not_written : all_writable ss ≡ false → Answers out (Err NotWritable)
  unfolding written_of number_of output_of
  not_written e = (rw e refl, rw e refl)

  module _ (w : all_writable ss ≡ true) where
    pub no_room : fits_in ss (length out) ≡ false → Answers out (Err TooShort)
    unfolding written_of number_of output_of
    no_room e = (rw w (rw e refl), rw w (rw e refl))

    pub all-written : fits_in ss (length out) ≡ true → Answers (text_of ss ++ drop (length (text_of ss)) out) (Ok (length (text_of ss)))
    unfolding written_of number_of output_of
    all-written e = (rw w (rw e refl), rw w (rw e refl))

-- ---- the output

pub puts-front : {text before after : List ℕ} {end : ℕ} → Puts text before after 0 end → after ≡ text ++ drop (length text) before
puts-front {text} {before} p = p.list ∙ sets-eq text before 0 (omega (arith, p.ends, p.room)) ∙ ap (λ (k : ℕ). text ++ drop k before) (zero-add (length text))
