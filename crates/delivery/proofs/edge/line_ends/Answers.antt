-- The bytes that end a line are counted.
use Rattle.std.proofs.Common.{◌≡◌, sym, ◌∙◌, ◌==◌, rules, count_by}
use Rattle.textlines.specs.Text.{line_end}
use Rattle.delivery.specs.ComparedLaws.{line_ends-is}
use Rattle.delivery.proofs.edge.line_ends.Goals as goal

pub returns : goal.returns
returns c =
    let count : c.count.result ≡ count_by (λ b. b == line_end) c.args.text.now = search rules in
    count ∙ sym (line_ends-is c.args.text.now)
