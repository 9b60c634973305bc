-- The proof of `write_reply`: no reply is longer than the buffer aside.
use Rattle.std.proofs.Common.{arith}
use Rattle.hpgl.proofs.ReplyLaws.{short}
use Rattle.replies.specs.Fetch.{fits, too_short}
use Rattle.replies.proofs.writing.write_reply.Goals as goal

pub put_reply-length-requires : goal.put_reply-length-requires
put_reply-length-requires c = record { valid_reply = c.requires; r_in_bounds = omega (arith, short c.args.r c.requires) }

pub returns-then-length-out : goal.returns-then-length-out
returns-then-length-out c =
    fits c.args.r c.requires (omega (arith, c.if-length-out.true, c.put_reply-length.ensures.ends)) c.put_reply.ensures

pub returns-else-length-out : goal.returns-else-length-out
returns-else-length-out c =
    too_short c.args.r c.requires (omega (arith, c.if-length-out.false, c.put_reply-length.ensures.ends)) _
