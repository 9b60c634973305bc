-- The proof of `gather`: a feed told as a plot is the feed (GatherLaws.antt).
use mathlib.Core.Path.{sym, ap, subst, ◌∙◌}
use Prim.Native.Nat.{◌/◌}
use lib.ListN.{length, drop}
use Rattle.feeding.specs.Feed.{feed_from}
use Rattle.feeding.proofs.FeedLaws.{feed-usable}
use Rattle.gathering.specs.declared.Stopped.{Stopped}
use Rattle.gathering.specs.Gather.{gather_from}
use Rattle.hpgl.specs.Valid.{Usable}
use Rattle.machine.specs.GatherLaws.{marked-answer, marked-laid}
use Rattle.machine.proofs.Machine.gather.Goals as goal

pub gather-requires : goal.gather-requires
gather-requires c = c.args.self.usable.valid

pub returns : goal.returns
unfolding gather_from
returns c =
    let f = feed_from c.args.self.state (drop c.args.from c.args.bytes.now) c.args.from (length c.args.numbers.now / 5) in
    record { value = c.answered.ensures ∙ c.gather.ensures.0 ∙ marked-answer f; numbers_after = c.gather.ensures.1 ∙ marked-laid f c.args.numbers.now }

pub answered-requires : goal.answered-requires
unfolding gather_from
answered-requires c = subst Usable (sym (ap (λ (g : Stopped). g.state) c.gather.ensures.0)) (feed-usable c.args.self.state _ _ _ c.args.self.usable)
