-- The end of an instruction by cases, for claims about `end_rule`: a line for each instruction that does something when it ends, and one for all others. A claim goes
-- through here and not through the chain of tests, so that another instruction is another line.
use Rattle.std.specs.Prelude.{◌≡◌, refl, Bool, true, false, List, [], ◌∷◌, ℕ, eqb}
use Rattle.std.proofs.Common.{sym, ◌∙◌, subst}
use Rattle.reader.specs.declared.Numbers.{Numbers}
use Rattle.mnemonics.specs.Table as code
use Rattle.mnemonics.specs.Table.{takes_pairs}
use Rattle.mnemonics.specs.Among.{among, none, ◌⨾◌, listed, apart}
use Rattle.mnemonics.specs.Said.{pairs, pairs-said}
use Rattle.hpgl.specs.declared.Core.{Core}
use Rattle.hpgl.specs.declared.Action.TheVariants.{Keep}
use Rattle.hpgl.specs.declared.Acted.{Acted}
use Rattle.hpgl.specs.Rules.{done, end_rule}

-- "the others on the byte that ends the instruction"
pub data Works : ℕ → Type 0 where
  IN : Works code.IN
  DF : Works code.DF
  EP : Works code.EP
  IP : Works code.IP
  SC : Works code.SC
  IW : Works code.IW
  RO : Works code.RO
  SP : Works code.SP
  PM : Works code.PM
  CI : Works code.CI
  EA : Works code.EA
  ER : Works code.ER
  AA : Works code.AA
  AR : Works code.AR
  OA : Works code.OA
  OP : Works code.OP
  OW : Works code.OW
  OH : Works code.OH
  OE : Works code.OE

abbrev pub working : List ℕ
working = code.IN ∷ code.DF ∷ code.EP ∷ code.IP ∷ code.SC ∷ code.IW ∷ code.RO ∷ code.SP ∷ code.PM ∷ code.CI ∷ code.EA ∷ code.ER ∷ code.AA ∷ code.AR ∷ code.OA ∷ code.OP ∷ code.OW ∷ code.OH ∷ code.OE ∷ []

works : (op : ℕ) → among op working ≡ true → Works op
works = listed Works working (IN ⨾ DF ⨾ EP ⨾ IP ⨾ SC ⨾ IW ⨾ RO ⨾ SP ⨾ PM ⨾ CI ⨾ EA ⨾ ER ⨾ AA ⨾ AR ⨾ OA ⨾ OP ⨾ OW ⨾ OH ⨾ OE ⨾ none)

-- PU, PD, PA, PR have done their work, and no name gives a code beyond the table.
pub record Rests (op : ℕ) : Type 0 where
  pub is : among op working ≡ false

-- so that a test for one that works fails
pub other : {op : ℕ} → Rests op → (k : ℕ) → among k working ≡ true → eqb op k ≡ false
other {op} r = apart working op r.is

pub rests : (c : Core) (op : ℕ) (n : Numbers) → Rests op → end_rule c op n ≡ done c Keep
unfolding end_rule
rests c op n r =
    rw (
      other r code.IN refl,
      other r code.DF refl,
      other r code.EP refl,
      other r code.IP refl,
      other r code.SC refl,
      other r code.IW refl,
      other r code.RO refl,
      other r code.SP refl,
      other r code.PM refl,
      other r code.CI refl,
      other r code.EA refl,
      other r code.ER refl,
      other r code.AA refl,
      other r code.AR refl,
      other r code.OA refl,
      other r code.OP refl,
      other r code.OW refl,
      other r code.OH refl,
      other r code.OE refl,
    ) refl

pub pairs_end : (c : Core) (op : ℕ) (n : Numbers) → takes_pairs op ≡ true → end_rule c op n ≡ done c Keep
pairs_end c op n h = rests c op n (record { is = listed (λ (k : ℕ). among k working ≡ false) pairs (refl ⨾ refl ⨾ refl ⨾ refl ⨾ none) op (sym (pairs-said op) ∙ h) })

pub by_end : (c : Core) (n : Numbers) (P : ℕ → Acted → Type 0) → ((op : ℕ) → Works op → P op (end_rule c op n)) → ((op : ℕ) → Rests op → P op (done c Keep)) →
    (op : ℕ) → P op (end_rule c op n)
by_end c n P each rest op = go (among op working) refl
  where
    go : (b : Bool) → among op working ≡ b → P op (end_rule c op n)
    go true e = each op (works op e)
    go false e = let r : Rests op = record { is = e } in subst (P op) (sym (rests c op n r)) (rest op r)
