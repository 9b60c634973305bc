-- The documents' own sentences on the instructions, written out a second time beside the table: what is looked up in it is what they say, for every
-- instruction and every count that a byte holds, by computation.
use Rattle.std.specs.Prelude.{◌≡◌, refl, Bool, true, false, cond, ◌&&◌, ◌||◌, List, [], ◌∷◌, ℕ, zero, suc, ◌+◌, ◌%◌, ◌<◌, T, ltb, eqb, Option, None, Some}
use Rattle.std.proofs.Common.{sym, ltb-true, ltb-false}
use Prim.Native.Char.{code}
use Prim.Native.String.{String, char_at}
use Rattle.mnemonics.specs.Table.{IN, DF, EP, IP, SC, IW, RO, SP, PM, CI, EA, ER, PU, PD, PA, PR, AA, AR, OA, OP, OW, OH, OE, rows, most, polygon, settings, any, cell_of, named_of, find_from, find_of, is_label, count_fits, has_room, takes_pairs, known_in_polygon, changes_settings}
use Rattle.mnemonics.specs.Every.{every, every-at, same, same-equal}
use Rattle.mnemonics.specs.Among.{among, below, beyond}

-- ---- what 01 says, and 02

-- "IN, DF, EP 0; IP 0, 2 or 4; SC, IW 0 or 4; RO, SP, PM 0 or 1; CI 1 or 2; EA, ER 2; PU, PD, PA, PR any even count"; AA and AR "three or four numbers";
-- OA, OP, OW, OH and OE: "takes no numbers"
abbrev pub allowed : ℕ → ℕ → Bool
allowed op n =
    among op (IN ∷ DF ∷ EP ∷ OA ∷ OP ∷ OW ∷ OH ∷ OE ∷ []) && eqb n 0
    || eqb op IP && among n (0 ∷ 2 ∷ 4 ∷ [])
    || among op (SC ∷ IW ∷ []) && among n (0 ∷ 4 ∷ [])
    || among op (RO ∷ SP ∷ PM ∷ []) && among n (0 ∷ 1 ∷ [])
    || eqb op CI && among n (1 ∷ 2 ∷ [])
    || among op (EA ∷ ER ∷ []) && eqb n 2
    || among op (AA ∷ AR ∷ []) && among n (3 ∷ 4 ∷ [])
    || among op (PU ∷ PD ∷ PA ∷ PR ∷ []) && eqb (n % 2) 0

-- "too many": after n numbers one more is not. Pairs have no most; their count is a byte, and of a pair no number is kept
abbrev pub room : ℕ → ℕ → Bool
room op n =
    among op (RO ∷ SP ∷ PM ∷ []) && ltb n 1
    || among op (CI ∷ EA ∷ ER ∷ []) && ltb n 2
    || among op (IP ∷ SC ∷ IW ∷ AA ∷ AR ∷ []) && ltb n 4
    || among op (PU ∷ PD ∷ PA ∷ PR ∷ []) && ltb n 255

-- "A pair of the last four", of 01's list: PU, PD, PA, PR
abbrev pub pairs : List ℕ
pairs = PU ∷ PD ∷ PA ∷ PR ∷ []

-- "There only PU, PD, PA, PR, PM, IN are known"; OA, OP, OW, OH and OE: "works in polygon mode too"
abbrev pub known : List ℕ
known = PU ∷ PD ∷ PA ∷ PR ∷ PM ∷ IN ∷ OA ∷ OP ∷ OW ∷ OH ∷ OE ∷ []

-- the instructions that "Position" has under the settings of the sheet
abbrev pub sets : List ℕ
sets = IN ∷ DF ∷ IP ∷ SC ∷ RO ∷ IW ∷ []

-- ---- what is looked up

-- two tests that agree on every instruction and every count of a byte
agree : (ℕ → ℕ → Bool) → (ℕ → ℕ → Bool) → Bool
agree f g = every (λ op. every (λ n. same (f op n) (g op n)) 256) rows

agree_at : (f g : ℕ → ℕ → Bool) → T (agree f g) → (op n : ℕ) → op < rows → n < 256 → f op n ≡ g op n
unfolding agree
agree_at f g t op n h k =
    same-equal (f op n) (g op n) (every-at (λ m. same (f op m) (g op m)) 256 (every-at (λ o. every (λ m. same (f o m) (g o m)) 256) rows t op h) n k)

pub counts-said : (op n : ℕ) → op < rows → n < 256 → count_fits op n ≡ allowed op n
unfolding agree same count_fits cell_of
counts-said = agree_at count_fits allowed tt

pub room-said : (op n : ℕ) → op < rows → n < 256 → has_room op n ≡ room op n
unfolding agree same has_room cell_of
room-said = agree_at has_room room tt

-- and of an instruction alone, by its column: the listed ones, and no code beyond the table
agree-one : (f : ℕ → Bool) (ks : List ℕ) → T (every (λ op. same (f op) (among op ks)) rows) → T (below rows ks) → (op : ℕ) → cond (ltb op rows) (f op) false ≡ among op ks
agree-one f ks t b op = go (ltb op rows) refl
  where
    go : (x : Bool) → ltb op rows ≡ x → cond x (f op) false ≡ among op ks
    go true e = same-equal (f op) (among op ks) (every-at (λ o. same (f o) (among o ks)) rows t op (ltb-true op rows e))
    go false e = sym (beyond rows ks b op (ltb-false op rows e))

pub pairs-said : (op : ℕ) → takes_pairs op ≡ among op pairs
unfolding same takes_pairs cell_of
pairs-said = agree-one (λ op. eqb (cell_of op most) any) pairs tt tt

pub known-said : (op : ℕ) → known_in_polygon op ≡ among op known
unfolding same known_in_polygon cell_of
known-said = agree-one (λ op. eqb (cell_of op polygon) 1) known tt tt

pub sets-said : (op : ℕ) → changes_settings op ≡ among op sets
unfolding same changes_settings cell_of
sets-said = agree-one (λ op. eqb (cell_of op settings) 1) sets tt tt

-- ---- names: each is found at its code, and of all pairs of capitals no more than twenty-three name an instruction; LB alone is a label

abbrev find : String → Option ℕ
find s = find_of (code (char_at s 0)) (code (char_at s 1))

abbrev one : Option ℕ → ℕ
one (Some op) = 1
one None = 0

abbrev label : Bool → ℕ
label true = 1
label false = 0

-- the sum over the capitals
abbrev sum : (ℕ → ℕ) → ℕ → ℕ
sum f zero = 0
sum f (suc n) = f (code "A" + n) + sum f n

abbrev all : (ℕ → ℕ → ℕ) → ℕ
all f = sum (λ a. sum (f a) 26) 26

pub record Names : Type 0 where
  pub found :
      find "IN" ∷ find "DF" ∷ find "EP" ∷ find "IP" ∷ find "SC" ∷ find "IW" ∷ find "RO" ∷ find "SP" ∷ find "PM" ∷ find "CI" ∷ find "EA" ∷ find "ER" ∷ find "PU" ∷ find "PD" ∷ find "PA" ∷ find "PR" ∷ find "AA" ∷ find "AR" ∷ find "OA" ∷ find "OP" ∷ find "OW" ∷ find "OH" ∷ find "OE" ∷ []
      ≡ Some IN ∷ Some DF ∷ Some EP ∷ Some IP ∷ Some SC ∷ Some IW ∷ Some RO ∷ Some SP ∷ Some PM ∷ Some CI ∷ Some EA ∷ Some ER ∷ Some PU ∷ Some PD ∷ Some PA ∷ Some PR ∷ Some AA ∷ Some AR ∷ Some OA ∷ Some OP ∷ Some OW ∷ Some OH ∷ Some OE ∷ []
  pub no_more : all (λ a b. one (find_of a b)) ≡ 23
  pub label-found : is_label (code "L") (code "B") ≡ true
  pub no-more-labels : all (λ a b. label (is_label a b)) ≡ 1

pub names-said : Names
unfolding cell_of named_of find_from find_of is_label
names-said = record { found = refl; no_more = refl; label-found = refl; no-more-labels = refl }
