-- The proof of `fetch`: by whether a reply waits.
use Rattle.std.proofs.Common.{◌≡◌, refl, subst}
use Rattle.hpgl.specs.declared.Work.{Work}
use Rattle.hpgl.specs.declared.Work.TheVariants.{Nothing, Line, Chords, Edges, Answer}
use Rattle.hpgl.specs.declared.Reply.{Reply}
use Rattle.hpgl.specs.Replies.{no_reply}
use Rattle.hpgl.specs.Machine.{replied}
use Rattle.hpgl.specs.Valid.{ValidWork}
use Rattle.replies.specs.Fetch.{no-fetch}
use Rattle.replies.proofs.writing.fetch.Goals as goal

none : (w : Work) → ((r : Reply) → w ≡ Answer r → ⊥) → replied w ≡ no_reply
unfolding replied
none Nothing h = refl
none (Line a b) h = refl
none (Chords o i n) h = refl
none (Edges i n) h = refl
none (Answer r) h = absurd (h r refl)

pub write_reply-requires : goal.write_reply-requires
write_reply-requires c = subst ValidWork c.in-Answer.is c.requires

pub returns-in-Answer : goal.returns-in-Answer
unfolding replied
returns-in-Answer c = rw c.in-Answer.is c.write_reply.ensures

pub returns-in_default : goal.returns-in_default
returns-in_default c = rw (none c.args.w c.in_default.not-Answer) (no-fetch _)
