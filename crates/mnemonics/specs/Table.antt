-- The table of instructions, row by row as in the source, and what is looked up in it.
use Rattle.std.specs.Prelude.{ℕ, zero, suc, ◌+◌, ◌-◌, ◌%◌, Bool, true, false, cond, List, [], ◌∷◌, get_or, leb, ltb, eqb, Option, None, Some}
use Prim.Native.Char.{Char, code}

-- An instruction's code is its place in the table. The four that take pairs come first; another instruction is another row at the end, so that no code changes.
abbrev pub PU : ℕ
PU = 0

abbrev pub PD : ℕ
PD = 1

abbrev pub PA : ℕ
PA = 2

abbrev pub PR : ℕ
PR = 3

abbrev pub IN : ℕ
IN = 4

abbrev pub DF : ℕ
DF = 5

abbrev pub EP : ℕ
EP = 6

abbrev pub IP : ℕ
IP = 7

abbrev pub SC : ℕ
SC = 8

abbrev pub IW : ℕ
IW = 9

abbrev pub RO : ℕ
RO = 10

abbrev pub SP : ℕ
SP = 11

abbrev pub PM : ℕ
PM = 12

abbrev pub CI : ℕ
CI = 13

abbrev pub EA : ℕ
EA = 14

abbrev pub ER : ℕ
ER = 15

abbrev pub AA : ℕ
AA = 16

abbrev pub AR : ℕ
AR = 17

abbrev pub OA : ℕ
OA = 18

abbrev pub OP : ℕ
OP = 19

abbrev pub OW : ℕ
OW = 20

abbrev pub OH : ℕ
OH = 21

abbrev pub OE : ℕ
OE = 22

abbrev pub rows : ℕ
rows = 23

-- The columns.
abbrev pub first_letter : ℕ
first_letter = 0

abbrev pub second_letter : ℕ
second_letter = 1

abbrev pub least : ℕ
least = 2

abbrev pub most : ℕ
most = 3

abbrev pub step : ℕ
step = 4

abbrev pub polygon : ℕ
polygon = 5

abbrev pub settings : ℕ
settings = 6

-- As most: no limit.
abbrev pub any : ℕ
any = 255

abbrev row : Char → Char → ℕ → ℕ → ℕ → ℕ → ℕ → List ℕ
row a b l m s p c = code a ∷ code b ∷ l ∷ m ∷ s ∷ p ∷ c ∷ []

-- Two letters; the least and the most numbers, and what their count goes up by between them; 1 if the instruction is known
-- in polygon mode ("only PU, PD, PA, PR, PM, IN", and the five of document 02, CR 5); 1 if it changes settings.
abbrev pub table : List (List ℕ)
table =
    row "P" "U" 0 any 2 1 0
    ∷ row "P" "D" 0 any 2 1 0
    ∷ row "P" "A" 0 any 2 1 0
    ∷ row "P" "R" 0 any 2 1 0
    ∷ row "I" "N" 0 0 1 1 1
    ∷ row "D" "F" 0 0 1 0 1
    ∷ row "E" "P" 0 0 1 0 0
    ∷ row "I" "P" 0 4 2 0 1
    ∷ row "S" "C" 0 4 4 0 1
    ∷ row "I" "W" 0 4 4 0 1
    ∷ row "R" "O" 0 1 1 0 1
    ∷ row "S" "P" 0 1 1 0 0
    ∷ row "P" "M" 0 1 1 1 0
    ∷ row "C" "I" 1 2 1 0 0
    ∷ row "E" "A" 2 2 1 0 0
    ∷ row "E" "R" 2 2 1 0 0
    ∷ row "A" "A" 3 4 1 0 0
    ∷ row "A" "R" 3 4 1 0 0
    ∷ row "O" "A" 0 0 1 1 0
    ∷ row "O" "P" 0 0 1 1 0
    ∷ row "O" "W" 0 0 1 1 0
    ∷ row "O" "H" 0 0 1 1 0
    ∷ row "O" "E" 0 0 1 1 0
    ∷ []

-- The row of an instruction, and what stands in its column.
abbrev pub row_of : ℕ → List ℕ
row_of op = get_or table op []

unfoldable pub cell_of : ℕ → ℕ → ℕ
cell_of op column = get_or (row_of op) column 0

-- Whether a row has these two letters, and so whether they name an instruction.
abbrev pub names_of : List ℕ → ℕ → ℕ → Bool
names_of row a b = cond (eqb (get_or row first_letter 0) a) (eqb (get_or row second_letter 0) b) false

unfoldable pub named_of : ℕ → ℕ → ℕ → Bool
named_of op a b = names_of (row_of op) a b

-- The instruction that two letters name, of n from place i on.
unfoldable pub find_from : ℕ → ℕ → ℕ → ℕ → Option ℕ
find_from a b i zero = None
find_from a b i (suc n) = cond (named_of i a b) (Some i) (find_from a b (i + 1) n)

unfoldable pub find_of : ℕ → ℕ → Option ℕ
find_of a b = find_from a b 0 rows

-- Whether a name of the table begins with this letter, of n from place i on.
unfoldable pub begins_from : ℕ → ℕ → ℕ → Bool
begins_from a i zero = false
begins_from a i (suc n) = cond (eqb (cell_of i first_letter) a) true (begins_from a (i + 1) n)

unfoldable pub begins_name : ℕ → Bool
begins_name a = begins_from a 0 rows

-- LB, a name beside the table.
unfoldable pub is_label : ℕ → ℕ → Bool
is_label a b = cond (eqb a (code "L")) (eqb b (code "B")) false

-- Whether an instruction may end after n numbers. No name gives a code beyond the table; this and what follows
-- say no of one.
unfoldable pub count_fits : ℕ → ℕ → Bool
count_fits op n =
    cond (ltb op rows)
    (cond (leb (cell_of op least) n) (cond (leb n (cell_of op most)) (eqb ((n - cell_of op least) % cell_of op step) 0) false) false)
    false

-- Whether n numbers leave room for one more.
unfoldable pub has_room : ℕ → ℕ → Bool
has_room op n = cond (ltb op rows) (ltb n (cell_of op most)) false

-- "A pair of the last four is carried out on the byte that ends its second number": of 01's list PU, PD, PA, PR, which have no most.
unfoldable pub takes_pairs : ℕ → Bool
takes_pairs op = cond (ltb op rows) (eqb (cell_of op most) any) false

unfoldable pub known_in_polygon : ℕ → Bool
known_in_polygon op = cond (ltb op rows) (eqb (cell_of op polygon) 1) false

unfoldable pub changes_settings : ℕ → Bool
changes_settings op = cond (ltb op rows) (eqb (cell_of op settings) 1) false
