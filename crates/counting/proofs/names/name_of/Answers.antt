-- The definition, case by case.
use Rattle.std.proofs.Common.{refl, sym, ap, ◌∙◌, ne_eqb, eq-eqb}
use Rattle.counting.specs.Names.{letters, letter_before, letters_before, name_of}
use Rattle.counting.specs.Laws.{some-seen, none-seen}
use Rattle.counting.proofs.names.name_of.Goals as goal

pub returns-then-number-ne1 : goal.returns-then-number-ne1
unfolding name_of
returns-then-number-ne1 c = rw (ne_eqb c.args.number 1 c.if-number-ne1.true) (c.letters_before.ensures ∙ ap (letters_before c.args.l c.args.bytes.now) c.saturating_sub-earlier.ensures)

pub returns-in_default : goal.returns-in_default
unfolding name_of
returns-in_default c =
    rw (eq-eqb c.args.number 1 c.if-number-ne1.false, eq-eqb (letter_before c.args.bytes.now c.args.at) 0 (none-seen _ (sym c.letter_before.ensures ∙ c.in_default.is))) refl

pub returns : goal.returns
unfolding name_of
returns c =
    let s = some-seen _ c.in-Some.second (sym c.letter_before.ensures ∙ c.in-Some.is) in
    let b = c.letters_before-before.ensures ∙ ap (letters_before c.args.l c.args.bytes.now) c.saturating_sub-earlier.ensures in
    rw (eq-eqb c.args.number 1 c.if-number-ne1.false, ne_eqb (letter_before c.args.bytes.now c.args.at) 0 s.1)
    (λ i. letters (b i).second (sym s.0 i))
