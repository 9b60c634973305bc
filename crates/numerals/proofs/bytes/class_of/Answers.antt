-- The ways of `class_of`: each return is that definition under the tests and calls that led there. From the letters on its first tests fail.
use mathlib.Core.Path.{◌≡◌, refl, sym, subst}
use mathlib.Core.Bool.{cond}
use Prim.Native.Nat.{ℕ, ◌-◌, ◌≤◌}
use native.Mathlib.Omega.{arith}
use lib.Dec.{leb, ltb}
use borrow.Author.Tests.{le-ltb, lt-leb, ne_eqb}
use Rattle.exact.proofs.Rules.{rules}
use Rattle.numerals.specs.declared.bytes.Class.TheVariants.{Semicolon, Letter, Other}
use Rattle.numerals.specs.Bytes.{class_of}
use Rattle.numerals.proofs.bytes.class_of.Goals as goal
use Rattle.numerals.proofs.bytes.class_of.Lts
use Rattle.numerals.proofs.bytes.class_of.Tie
use Rattle.numerals.proofs.bytes.class_of.Reads

abbrev Else-byte-lt65 : Type 0
Else-byte-lt65 = Lts.Else1 Tie.the-claims Reads.Pre Reads.Post

letters-on : (b : ℕ) → 65 ≤ b → class_of b ≡ cond (leb b 90) (Letter b) (cond (ltb b 97) Other (cond (leb b 122) (Letter (b - 32)) Other))
unfolding class_of
letters-on b h = rw (le-ltb b 48 (omega (arith, h)), lt-leb b 57 (omega (arith, h)), ne_eqb b 59 (λ e. omega (arith, h, e)), le-ltb b 65 h) refl

abbrev above : (e : Else-byte-lt65) → 65 ≤ e.args.byte
above e = e.if-byte-lt65.false

pub returns-then-byte-lt48 : goal.returns-then-byte-lt48
unfolding class_of
returns-then-byte-lt48 c = search (rules, ← c.low_class.ensures)

pub returns-then-byte-eq59 : goal.returns-then-byte-eq59
unfolding class_of
returns-then-byte-eq59 c = subst (λ (b : ℕ). Semicolon ≡ class_of b) (sym c.if-byte-eq59.true) refl

pub returns-then-byte-le57 : goal.returns-then-byte-le57
unfolding class_of
returns-then-byte-le57 c = search rules

pub returns-then-byte-lt65 : goal.returns-then-byte-lt65
unfolding class_of
returns-then-byte-lt65 c = search rules

pub returns-then-byte-le90 : goal.returns-then-byte-le90
returns-then-byte-le90 c = let e = c.before in search (rules, letters-on _ (above e))

pub returns-then-byte-lt97 : goal.returns-then-byte-lt97
returns-then-byte-lt97 c = let e = c.before.before in search (rules, letters-on _ (above e))

pub returns-then-byte-le122 : goal.returns-then-byte-le122
returns-then-byte-le122 c = let e = c.before.before.before in search (rules, letters-on _ (above e))

pub returns : goal.returns
returns c = let e = c.before.before.before in search (rules, letters-on _ (above e))
