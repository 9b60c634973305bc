-- A pen of 0 makes a refusal, whose numbers are not below 0.
use Rattle.std.proofs.Common.{◌≡◌, ℕ, ◌+◌, ◌*◌, ◌%◌, ◌^◌, get_or, ℤ, pos, nat_abs, sym, ap, ◌∙◌, w64, SFits, rules}
use Rattle.exact.specs.Fit.{arg, m64, eq64-t, eq64-f}
use Rattle.textlines.specs.Text.{refusal_text}
use Rattle.textlines.specs.TextLaws.{mark-refusal, mark-stroke}
use Rattle.decimals.specs.Puts.{puts-same}
use Rattle.textlines.proofs.mark_line.Goals as goal
use Rattle.textlines.proofs.mark_line.Lts
use Rattle.textlines.proofs.mark_line.Tie
use Rattle.textlines.proofs.mark_line.Reads

abbrev Start : Type 0
Start = Lts.Start Tie.the-claims Reads.Pre Reads.Post Tie.handed_clauses

abbrev nth : Start → ℕ → ℤ
nth s k = get_or s.args.numbers.now k (pos 0)

-- the size of a number of the list
sized : {z : ℤ} {n : ℕ} → SFits w64 z → n ≡ nat_abs (m64 z) → n ≡ nat_abs z
sized f e = e ∙ ap nat_abs (arg w64 f).is

pub returns-then-numbers-pen-eq0 : goal.returns-then-numbers-pen-eq0
returns-then-numbers-pen-eq0 c =
    let s : Start = search in
    let number = sized {z = nth s (s.args.i * 5 + 1)} (search rules) c.size-number.ensures in
    let place = sized {z = nth s (s.args.i * 5 + 2)} (search rules) c.size.ensures in
    let byte = ap (λ (n : ℕ). (s.args.before + n) % 2 ^ 64) place in
    let e = c.refusal_line.ensures in
    record { puts = puts-same ((λ i. refusal_text (number i) (byte i)) ∙ sym (mark-refusal s.args.before s.args.numbers.now s.args.i (eq64-t (nth s (s.args.i * 5)) (pos 0) (search rules) (search rules) c.if-numbers-pen-eq0.true))) e.puts; upper_bound = e.upper_bound }

pub returns : goal.returns
returns c =
    let s : Start = search in
    let e = c.stroke_line.ensures in
    record { puts = puts-same (sym (mark-stroke s.args.before s.args.numbers.now s.args.i (eq64-f (nth s (s.args.i * 5)) (pos 0) (search rules) (search rules) c.if-numbers-pen-eq0.false))) e.puts; upper_bound = e.upper_bound }
