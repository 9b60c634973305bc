-- The definition, by what the two searches find.
use Rattle.std.proofs.Common.{sym, ◌∙◌}
use Rattle.counting.specs.Laws.{letters-none, letters-one, letters-two}
use Rattle.counting.proofs.names.letters_before.Goals as goal

pub returns-in_default : goal.returns-in_default
returns-in_default c = sym (letters-none c.args.bytes.now c.args.at c.args.l (sym c.last_letter.ensures ∙ c.in_default.is))

pub returns-in-Some-last_letter : goal.returns-in-Some-last_letter
returns-in-Some-last_letter c =
    sym (letters-two c.args.bytes.now c.args.at c.in-Some.end c.in-Some.second c.in-Some-last_letter.field-0-0 c.in-Some-last_letter.first c.args.l (sym c.last_letter.ensures ∙ c.in-Some.is) (sym c.last_letter-2.ensures ∙ c.in-Some-last_letter.is))

pub returns-in-None : goal.returns-in-None
returns-in-None c =
    sym (letters-one c.args.bytes.now c.args.at c.in-Some.end c.in-Some.second (sym c.last_letter.ensures ∙ c.in-Some.is) c.args.l (sym c.last_letter-2.ensures ∙ c.in-None.is))
