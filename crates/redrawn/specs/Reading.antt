-- What the reader tells of the text: for each stroke SP where it is written, and then PU and PD, each with one pair.
use Rattle.std.specs.Prelude.{true, ◌≡◌, ℕ, ℤ, pos}
use mathlib.Core.List.{List, [], ◌∷◌, ◌++◌, append_assoc}
use Rattle.std.proofs.Math.Path.{refl, ap}
use Rattle.std.proofs.Common.{sym, ◌∙◌, subst, lit<}
use Prim.Native.Char.{code}
use Rattle.exact.specs.Int16.{int16}
use Rattle.decimals.specs.Decimal.{whole}
use Rattle.numerals.specs.declared.number.Number.{Number}
use Rattle.numerals.specs.Marks.{read_numeral}
use Rattle.numerals.specs.Numeral.{text}
use Rattle.mnemonics.specs.Table.{IN, SP, PU, PD, cell_of, takes_pairs, count_fits}
use Rattle.reader.specs.declared.Coordinates.{Coordinates}
use Rattle.reader.specs.declared.Numbers.{Numbers}
use Rattle.reader.specs.declared.Event.{Event}
use Rattle.reader.specs.declared.Event.TheVariants.{Named, Pair, Ended}
use Rattle.reader.specs.declared.Mode.TheVariants.{Idle}
use Rattle.reader.specs.declared.Reader.{Reader}
use Rattle.reader.specs.Reader.{none_of, stored_of}
use Rattle.reader.specs.Stream.{reader, Means, done, quiet, loud}
use Rattle.reader.proofs.InstructionLaws.{instruction-of-numbers, instruction-of-pairs}
use Rattle.redrawn.specs.Numerals.{kept, numeral_of, numeral-text, literal}
use Rattle.redrawn.specs.Redrawn.{pen_text, move_text, start_text}

-- ---- texts between instructions

-- the bytes lead from between two instructions to between two, and mean these events
pub record Reads (r : Reader) (bs : List ℕ) (es : List Event) : Type 0 where
  pub op : ℕ
  pub numbers : Numbers
  pub number : Number
  pub means : Means r bs es (reader op numbers Idle number)

-- whatever was read before
abbrev pub Always : List ℕ → List Event → Type 0
Always bs es = (o : ℕ) (ns : Numbers) (n : Number) → Reads (reader o ns Idle n) bs es

means-then : {r q s : Reader} {xs ys : List ℕ} {es fs : List Event} → Means r xs es q → Means q ys fs s → Means r (xs ++ ys) (es ++ fs) s
means-then done k = k
means-then (quiet e h) k = quiet e (means-then h k)
means-then (loud l e h) k = loud l e (means-then h k)

pub always-none : Always [] []
always-none o ns n = record { op = o; numbers = ns; number = n; means = done }

pub always-then : (xs ys : List ℕ) (es fs : List Event) → Always xs es → Always ys fs → Always (xs ++ ys) (es ++ fs)
always-then xs ys es fs h k o ns n =
    let a = h o ns n in
    let b = k a.op a.numbers a.number in
    record { op = b.op; numbers = b.numbers; number = b.number; means = means-then a.means b.means }

pub always-same : {xs ys : List ℕ} {es : List Event} → xs ≡ ys → Always xs es → Always ys es
always-same {es = es} e h = subst (λ (l : List ℕ). Always l es) e h

-- ---- instructions

pub reads-start : Always start_text (Named IN ∷ Ended IN none_of ∷ [])
unfolding cell_of takes_pairs count_fits
reads-start o ns n = record { op = IN; numbers = none_of; number = n; means = instruction-of-numbers o ns n IN (lit< tt) [] refl refl }

module _ (p : ℕ) (h : int16 (pos p) ≡ true) where
  plain-pen : code "S" ∷ code "P" ∷ (text (numeral_of (pos p)) ++ (code ";" ∷ [])) ≡ pen_text p
  unfolding pen_text whole
  plain-pen = ap (λ (l : List ℕ). code "S" ∷ code "P" ∷ l) (numeral-text (pos p) (code ";"))

  read-pen : Always (code "S" ∷ code "P" ∷ (text (numeral_of (pos p)) ++ (code ";" ∷ []))) (Named SP ∷ Ended SP (stored_of none_of (kept (pos p))) ∷ [])
  unfolding cell_of takes_pairs count_fits
  read-pen o ns n = record {
    op = SP;
    numbers = stored_of none_of (kept (pos p));
    number = read_numeral (numeral_of (pos p));
    means = instruction-of-numbers o ns n SP (lit< tt) (literal (pos p) h ∷ []) refl refl;
  }

  pub reads-pen : Always (pen_text p) (Named SP ∷ Ended SP (stored_of none_of (kept (pos p))) ∷ [])
  reads-pen = always-same plain-pen read-pen

-- a pair, in ten-thousandths
abbrev pub pair : ℤ → ℤ → Coordinates
pair x y = record { x = kept x; y = kept y }

module _ (x y : ℤ) (h : int16 x ≡ true) (k : int16 y ≡ true) where
  abbrev plain : List ℕ
  plain = text (numeral_of x) ++ (code "," ∷ (text (numeral_of y) ++ (code ";" ∷ [])))

  plain-numbers : plain ≡ whole x (code ",") ++ whole y (code ";")
  plain-numbers =
      sym (append_assoc (text (numeral_of x)) (code "," ∷ []) (text (numeral_of y) ++ (code ";" ∷ [])))
      ∙ (λ i. numeral-text x (code ",") i ++ numeral-text y (code ";") i)

  plain-move : (letter : ℕ) → code "P" ∷ letter ∷ plain ≡ move_text letter x y
  unfolding move_text
  plain-move letter = ap (λ (l : List ℕ). code "P" ∷ letter ∷ l) plain-numbers

  read_up : Always (code "P" ∷ code "U" ∷ plain) (Named PU ∷ Pair (pair x y) ∷ [])
  unfolding cell_of takes_pairs
  read_up o ns n = record {
    op = PU;
    numbers = none_of;
    number = read_numeral (numeral_of y);
    means = instruction-of-pairs o ns n PU (lit< tt) (record { x = literal x h; y = literal y k } ∷ []) refl;
  }

  read_down : Always (code "P" ∷ code "D" ∷ plain) (Named PD ∷ Pair (pair x y) ∷ [])
  unfolding cell_of takes_pairs
  read_down o ns n = record {
    op = PD;
    numbers = none_of;
    number = read_numeral (numeral_of y);
    means = instruction-of-pairs o ns n PD (lit< tt) (record { x = literal x h; y = literal y k } ∷ []) refl;
  }

  pub reads_up : Always (move_text (code "U") x y) (Named PU ∷ Pair (pair x y) ∷ [])
  reads_up = always-same (plain-move (code "U")) read_up

  pub reads-down : Always (move_text (code "D") x y) (Named PD ∷ Pair (pair x y) ∷ [])
  reads-down = always-same (plain-move (code "D")) read_down
