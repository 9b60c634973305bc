-- Those before the first letter, counted.
use Rattle.std.proofs.Common.{◌∙◌, drop}
use Rattle.counting.specs.Laws.{letterless_taken}
use Rattle.counting.proofs.names.letterless.Goals as goal

pub returns : goal.returns
returns c = c.before_letter.ensures ∙ letterless_taken c.args.most (drop c.args.from c.args.bytes.now)
