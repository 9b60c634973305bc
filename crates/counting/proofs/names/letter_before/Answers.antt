-- At the start, past the bytes, and among them.
use Rattle.std.proofs.Common.{◌≡◌, refl, sym, ap, ◌∙◌, ℕ, ◌-◌, ◌<◌, length, get_or, arith}
use Rattle.counting.specs.Names.{seen, letter_of, letter_before}
use Rattle.counting.specs.Laws.{letter_at, letter-past}
use Rattle.counting.proofs.names.letter_before.Goals as goal

pub returns-in_err-checked_sub : goal.returns-in_err-checked_sub
unfolding seen letter_before
returns-in_err-checked_sub c =
    let z : c.args.at ≡ 0 = omega (arith, c.in_err-checked_sub.ensures) in
    c.from_residual.ensures ∙ rw z refl

pub returns-in_err-get : goal.returns-in_err-get
unfolding seen
returns-in_err-get c =
    let a = c.in_ok-checked_sub.ensures in
    let b = c.in_err-get.ensures.lookup in
    let p : length c.args.bytes.now < c.args.at = omega (arith, a.0, a.1, b.3) in
    c.from_residual-in_err-get.ensures ∙ rw (letter-past c.args.bytes.now c.args.at p) refl

pub returns : goal.returns
returns c =
    let a = c.in_ok-checked_sub.ensures in
    let b = c.in_ok-get.ensures.lookup in
    let bytes = c.args.bytes.now in
    let e : c.in_ok-get.field-0.now ≡ get_or bytes (c.args.at - 1) 0 = b.3.1 0 ∙ ap (λ (n : ℕ). get_or bytes n 0) a.1 in
    c.letter.ensures ∙ ap (λ (b : ℕ). seen (letter_of b)) e ∙ ap seen (sym (letter_at bytes c.args.at (λ z. omega (arith, a.0, z))))
