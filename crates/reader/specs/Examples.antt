-- Worked examples: texts, and what is told of them. Every row is computed.
use Rattle.std.specs.Prelude.{◌≡◌, refl, List, [], ◌∷◌, ◌++◌, ℕ, ℤ, pos, neg_ℤ}
use Prim.Native.String.{String}
use Rattle.reader.specs.declared.Event.{Event}
use Rattle.reader.specs.declared.Event.TheVariants.{Named, Pair, Ended, Refused}
use Rattle.numerals.specs.Bytes.{low_class_of, class_of}
use Rattle.mnemonics.specs.Table.{IN, SC, SP, PU, PD, PA, PR, cell_of, named_of, find_from, find_of, count_fits, takes_pairs, has_room, is_label}
use Rattle.numerals.specs.Number.{start_of, point_of, counted_of, past_of, digit_of, unit_of, ten_thousandths, signed_of, largest_of, carry_of, nearest_of, finish_of}
use Rattle.reader.specs.Reader.{none_of, stored_of, pair_of, fresh_reader, go_on_of, quiet_of, refuse_of, begin_of, open_of, with_numbers}
use Rattle.reader.specs.Step.{found_of, name_of, kept_of, judged_of, closed_of, end_of, complete_of, passed_mode, ending_of, after_number_of, close_with, close_of, idle_of, first_of, parameters_of, in_number_of, pass_over_of, label_of, by_mode, step_of}
use Rattle.reader.specs.Inside.{inside}
use Rattle.reader.specs.Stream.{bytes, EventAt, ◌at◌, tell, tells, reads}

infix 60 ◌gives◌
pub data Row : Type 0 where
  ◌gives◌ : String → List EventAt → Row

-- What the definitions tell of the rows' texts, and what the rows say.
abbrev pub told : List Row → List (List EventAt)
told [] = []
told ((s gives es) ∷ rows) = reads s ∷ told rows

abbrev pub said : List Row → List (List EventAt)
said [] = []
said ((s gives es) ∷ rows) = es ∷ said rows

-- A pair, in ten-thousandths, and an instruction that ended with no number or with one.
abbrev pair : ℤ → ℤ → Event
pair x y = Pair (record { x = x; y = y })

abbrev none : ℕ → Event
none op = Ended op (record { count = 0; first = pos 0; second = pos 0; third = pos 0; fourth = pos 0 })

abbrev one : ℕ → ℤ → Event
one op v = Ended op (record { count = 1; first = v; second = pos 0; third = pos 0; fourth = pos 0 })

-- Names, and what is passed over after a refusal.
abbrev pub names : List Row
names =
    ("@ 5 @;5;" gives (Refused 1 at 1 ∷ Refused 1 at 7 ∷ []))
    ∷ ("P A1,1;" gives (Refused 1 at 2 ∷ Refused 1 at 4 ∷ []))
    ∷ ("P;;" gives (Refused 1 at 2 ∷ []))
    ∷ ("P;5;" gives (Refused 1 at 2 ∷ Refused 1 at 3 ∷ []))
    ∷ ("XX5,@;5;" gives (Refused 1 at 2 ∷ Refused 1 at 7 ∷ []))
    ∷ ("-5;" gives (Refused 1 at 1 ∷ []))
    ∷ ("PQPA1,1;" gives (Refused 1 at 2 ∷ Named PA at 4 ∷ pair (pos 10000) (pos 10000) at 8 ∷ []))
    ∷ ("pA1,1pD2,2;" gives (Named PA at 2 ∷ pair (pos 10000) (pos 10000) at 6 ∷ Named PD at 7 ∷ pair (pos 20000) (pos 20000) at 11 ∷ []))
    ∷ ("PA1e5,2;" gives (Named PA at 2 ∷ Refused 2 at 4 ∷ Refused 1 at 5 ∷ []))
    ∷ ("PA1,2@;" gives (Named PA at 2 ∷ Refused 1 at 6 ∷ []))
    ∷ ("LBPD5,5;\u{3}5;" gives (Refused 1 at 2 ∷ Refused 1 at 10 ∷ []))
    ∷ []

-- Numbers. The last two are those of figure (m) that are refused.
abbrev pub numbers : List Row
numbers =
    ("PA2.5,-2.5;" gives (Named PA at 2 ∷ pair (pos 25000) (neg_ℤ (pos 25000)) at 11 ∷ []))
    ∷ ("PA-.5,+1.;" gives (Named PA at 2 ∷ pair (neg_ℤ (pos 5000)) (pos 10000) at 10 ∷ []))
    ∷ ("PA1 .5;" gives (Named PA at 2 ∷ pair (pos 10000) (pos 5000) at 7 ∷ []))
    ∷ ("PA- 5,0;" gives (Named PA at 2 ∷ Refused 3 at 4 ∷ []))
    ∷ ("PA+-1,0;" gives (Named PA at 2 ∷ Refused 3 at 4 ∷ []))
    ∷ ("PA1..,0;" gives (Named PA at 2 ∷ Refused 3 at 5 ∷ []))
    ∷ ("PA000000000001,0;" gives (Named PA at 2 ∷ pair (pos 10000) (pos 0) at 17 ∷ []))
    ∷ ("PA999999999999,0;" gives (Named PA at 2 ∷ Refused 3 at 15 ∷ []))
    ∷ ("PA-32768.00005,0;" gives (Named PA at 2 ∷ pair (neg_ℤ (pos 327680000)) (pos 0) at 17 ∷ []))
    ∷ ("PA-32768.000050001,0;" gives (Named PA at 2 ∷ Refused 3 at 19 ∷ []))
    ∷ ("PA.00025,-.00005;" gives (Named PA at 2 ∷ pair (pos 3) (pos 0) at 17 ∷ []))
    ∷ ("PA32767.9999,-32768;" gives (Named PA at 2 ∷ pair (pos 327679999) (neg_ℤ (pos 327680000)) at 20 ∷ []))
    ∷ ("PA32768,0;" gives (Named PA at 2 ∷ Refused 3 at 8 ∷ []))
    ∷ ("PR-32768.0001,0;" gives (Named PR at 2 ∷ Refused 3 at 14 ∷ []))
    ∷ []

-- Counts, and the order of causes on one byte.
abbrev pub counts : List Row
counts =
    ("IN5;" gives (Named IN at 2 ∷ Refused 2 at 4 ∷ []))
    ∷ ("IN-;" gives (Named IN at 2 ∷ Refused 3 at 4 ∷ []))
    ∷ ("SC0,0,1;" gives (Named SC at 2 ∷ Refused 2 at 8 ∷ []))
    ∷ ("SC0,1,0,1,40000,;" gives (Named SC at 2 ∷ Refused 3 at 16 ∷ []))
    ∷ ("SC0,0,1,1,5;" gives (Named SC at 2 ∷ Refused 2 at 12 ∷ []))
    ∷ ("PA1,40000;" gives (Named PA at 2 ∷ Refused 3 at 10 ∷ []))
    ∷ ("PU1,2,3;" gives (Named PU at 2 ∷ pair (pos 10000) (pos 20000) at 6 ∷ Refused 2 at 8 ∷ []))
    ∷ ("PA5PD1,1;" gives (Named PA at 2 ∷ Refused 2 at 4 ∷ Named PD at 5 ∷ pair (pos 10000) (pos 10000) at 9 ∷ []))
    ∷ ("PA,,1,,2,,;" gives (Named PA at 2 ∷ pair (pos 10000) (pos 20000) at 9 ∷ none PA at 11 ∷ []))
    ∷ ("SP1\nPU" gives (Named SP at 2 ∷ one SP (pos 10000) at 5 ∷ Named PU at 6 ∷ []))
    ∷ []

-- The example of the program that prints strokes: its refusal is on byte 35.
abbrev pub program : List Row
program =
    ("IN;SP1;PA0,0;PD100,50;PD20000,50;XX;" gives
    (Named IN at 2
    ∷ none IN at 3
    ∷ Named SP at 5
    ∷ one SP (pos 10000) at 7
    ∷ Named PA at 9
    ∷ pair (pos 0) (pos 0) at 13
    ∷ Named PD at 15
    ∷ pair (pos 1000000) (pos 500000) at 22
    ∷ Named PD at 24
    ∷ pair (pos 200000000) (pos 500000) at 33
    ∷ Refused 1 at 35
    ∷ []))
    ∷ []

abbrev pub table : List Row
table = names ++ numbers ++ counts ++ program

pub examples : told table ≡ said table
unfolding low_class_of class_of cell_of named_of find_from find_of count_fits takes_pairs has_room start_of point_of counted_of past_of digit_of unit_of ten_thousandths signed_of largest_of carry_of nearest_of finish_of none_of stored_of pair_of fresh_reader go_on_of quiet_of refuse_of begin_of open_of with_numbers is_label found_of name_of kept_of judged_of closed_of end_of complete_of inside passed_mode ending_of after_number_of close_with close_of idle_of first_of parameters_of in_number_of pass_over_of label_of by_mode step_of bytes tell tells reads
examples = refl
