-- A number's text is read as one number, byte by byte, and a label's text as nothing at all.
use Rattle.std.specs.Prelude.{◌≡◌, Bool, true, false, cond, ℕ, ◌+◌, ◌-◌, ◌*◌, ◌<◌, leb, ltb}
use Rattle.std.proofs.Math.Path.{refl}
use Rattle.std.proofs.Common.{◌∙◌, arith, le-ltb, le-leb, ne_eqb}
use mathlib.Core.List.{List, [], ◌∷◌, ◌++◌}
use Prim.Native.Char.{code}
use Rattle.std.proofs.Math.Dec.{T}
use Rattle.numerals.specs.declared.bytes.Class.TheVariants as class
use Rattle.numerals.specs.declared.number.Number.{Number}
use Rattle.reader.specs.declared.Numbers.{Numbers}
use Rattle.reader.specs.declared.Event.{Event}
use Rattle.reader.specs.declared.Event.TheVariants.{Nothing, Refused}
use Rattle.reader.specs.declared.Mode.{Mode}
use Rattle.reader.specs.declared.Mode.TheVariants.{Idle, Parameters, InNumber, Label}
use Rattle.reader.specs.declared.Reader.{Reader}
use Rattle.numerals.specs.Bytes.{class_of, low_class_of}
use Rattle.numerals.specs.Number.{places, past_of, bottom, start_of, point_of, counted_of, digit_of}
use Rattle.mnemonics.specs.Table.{is_label}
use Rattle.reader.specs.Reader.{unknown, label_end, go_on_of, quiet_of, refuse_of, open_of}
use Rattle.reader.specs.Step.{name_of, idle_of, first_of, parameters_of, in_number_of, label_of, by_mode, step_of}
use Rattle.numerals.specs.Marks.{read_digits, read_fraction, read_numeral}
use Rattle.reader.specs.Stream.{NoEnd, reader, ◌telling◌, Means, done, quiet, loud}
use Rattle.numerals.specs.Numeral.{Sign, bare, plus, minus, Fraction, none, point, Numeral, text, digits_text, fraction_text, Digits, decimals, some}

abbrev Quiet : Reader → List ℕ → Reader → Type 0
Quiet r bs q = Means r bs [] q

pub then : {r q s : Reader} {xs ys : List ℕ} {es : List Event} → Quiet r xs q → Means q ys es s → Means r (xs ++ ys) es s
then done k = k
then (quiet e h) k = quiet e (then h k)

-- The byte of a digit.
digit-class : (d : ℕ) → d < 10 → class_of (code "0" + d) ≡ class.Digit d
unfolding class_of
digit-class d h =
    let a : 48 + d - 48 ≡ d = omega arith in
    simp (le-ltb (48 + d) 48 (omega arith), le-leb (48 + d) 57 (omega arith), a)

-- A digit leaves the point as it is.
pointed-digit : (n : Number) (d : ℕ) → (digit_of n d).pointed ≡ n.pointed
unfolding digit_of counted_of
pointed-digit n d = go (leb places n.decimals) (ltb bottom n.magnitude) n.pointed
  where
    go : (a b c : Bool) → (cond a (counted_of n (past_of n.decimals d) n.magnitude) (cond b (counted_of n n.decimals n.magnitude) (cond c (counted_of n (n.decimals + 1) (n.magnitude * 10 + d)) (counted_of n n.decimals (n.magnitude * 10 + d))))).pointed ≡ n.pointed
    go true b c = refl
    go false true c = refl
    go false false true = refl
    go false false false = refl

pointed-digits : (n : Number) (ds : List ℕ) → (read_digits n ds).pointed ≡ n.pointed
pointed-digits n [] = refl
pointed-digits n (d ∷ ds) = pointed-digits (digit_of n d) ds ∙ pointed-digit n d

module _ (op : ℕ) (ns : Numbers) where
  abbrev here : Mode → Number → Reader
  here m n = reader op ns m n

  open-digit : (n : Number) (d : ℕ) → d < 10 → step_of (here InNumber n) (code "0" + d) ≡ here InNumber (digit_of n d) telling Nothing
  unfolding step_of by_mode in_number_of open_of
  open-digit n d h = rw (digit-class d h) refl

  digits : (n : Number) (ds : List ℕ) → Digits ds → Quiet (here InNumber n) (digits_text ds) (here InNumber (read_digits n ds))
  digits n [] h = done
  digits n (d ∷ ds) h = quiet (open-digit n d h.0) (digits (digit_of n d) ds h.1)

  open-point : (n : Number) → n.pointed ≡ false → step_of (here InNumber n) (code ".") ≡ here InNumber (point_of n) telling Nothing
  unfolding step_of by_mode class_of low_class_of in_number_of open_of
  open-point n e = simp e

  fraction : (n : Number) (f : Fraction) → n.pointed ≡ false → Digits (decimals f) → Quiet (here InNumber n) (fraction_text f) (here InNumber (read_fraction n f))
  fraction n none e h = done
  fraction n (point ds) e h = quiet (open-point n e) (digits (point_of n) ds h)

  rest : (n : Number) (ds : List ℕ) (f : Fraction) → n.pointed ≡ false → Digits ds → Digits (decimals f) → Quiet (here InNumber n) (digits_text ds ++ fraction_text f) (here InNumber (read_fraction (read_digits n ds) f))
  rest n ds f e h k = then (digits n ds h) (fraction (read_digits n ds) f (pointed-digits n ds ∙ e) k)

  first-digit : (last : Number) (d : ℕ) → d < 10 → step_of (here Parameters last) (code "0" + d) ≡ here InNumber (digit_of (start_of false) d) telling Nothing
  unfolding step_of by_mode parameters_of open_of
  first-digit last d h = rw (digit-class d h) refl

  -- In an instruction with no number open, a number's text that is not empty opens that number, and means nothing yet.
  pub numeral-text : (last : Number) (t : Numeral) → T (some (text t)) → Digits t.whole → Digits (decimals t.fraction) → Quiet (here Parameters last) (text t) (here InNumber (read_numeral t))
  unfolding step_of by_mode class_of low_class_of parameters_of open_of start_of point_of
  numeral-text last t i h k = go t.sign t.whole t.fraction i h k
    where
      go : (s : Sign) (ds : List ℕ) (f : Fraction) → T (some (text (record { sign = s; whole = ds; fraction = f }))) → Digits ds → Digits (decimals f) → Quiet (here Parameters last) (text (record { sign = s; whole = ds; fraction = f })) (here InNumber (read_numeral (record { sign = s; whole = ds; fraction = f })))
      go plus ds f i h k = quiet refl (rest (start_of false) ds f refl h k)
      go minus ds f i h k = quiet refl (rest (start_of true) ds f refl h k)
      go bare (d ∷ ds) f i h k = quiet (first-digit last d h.0) (rest (digit_of (start_of false) d) ds f (pointed-digit (start_of false) d) h.1 k)
      go bare [] (point ds) i h k = quiet refl (digits (point_of (start_of false)) ds k)
      go bare [] none i h k = absurd i

  -- "LB is refused with 1 on its B; its text, to and including byte 3, is passed over." Every byte but 3 leaves the reader as
  -- it is, and 3 leads to between instructions.
  pub label-byte : (n : Number) (b : ℕ) → (b ≡ label_end → ⊥) → step_of (here Label n) b ≡ here Label n telling Nothing
  unfolding step_of by_mode label_of quiet_of go_on_of
  label-byte n b h = simp (ne_eqb b label_end h)

  pub label-end : (n : Number) → step_of (here Label n) label_end ≡ here Idle n telling Nothing
  unfolding step_of by_mode label_of quiet_of go_on_of
  label-end n = refl

  label-text : (n : Number) (bs : List ℕ) → NoEnd bs → Quiet (here Label n) (bs ++ (label_end ∷ [])) (here Idle n)
  label-text n [] h = quiet (label-end n) done
  label-text n (b ∷ bs) h = quiet (label-byte n b h.0) (label-text n bs h.1)

  pub label-whole : (n : Number) (bs : List ℕ) → NoEnd bs → Means (here Idle n) (code "L" ∷ code "B" ∷ (bs ++ (label_end ∷ []))) (Refused unknown ∷ []) (here Idle n)
  unfolding step_of by_mode class_of idle_of first_of name_of is_label quiet_of refuse_of go_on_of
  label-whole n bs h = quiet refl (loud tt refl (label-text n bs h))
