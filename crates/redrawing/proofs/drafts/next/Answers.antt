-- Judged, or put after what stands there.
use Rattle.std.proofs.Common.{◌+◌, ℕ, ap, ◌∙◌}
use Rattle.redrawing.specs.declared.drafts.Draft.{Draft}
use Rattle.redrawing.specs.declared.drafts.Written.{Written}
use Rattle.redrawing.proofs.drafts.next.Goals as goal
use Rattle.redrawing.proofs.drafts.next.Goals.{then-d, else-d}

pub returns-clause-value : goal.returns-clause-value
returns-clause-value c =
    let after : Written → Draft = λ written. record { judging = c.args.d.judging; at = c.args.d.at + 1; before = c.args.s.pen; written = written } in
    elim c.if-d.branch [
      | then-d w ↦ ap after (rw w.if-d.true (w.written-is ∙ w.judged-written.ensures))
      | else-d w ↦ ap after (rw w.if-d.false (w.written-is ∙ ap (λ (n : ℕ). record { length = n; number = c.args.d.written.number }) w.put_stroke.ensures.ends))
    ]
