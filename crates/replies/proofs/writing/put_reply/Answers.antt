-- The proof of `put_reply`: its numbers are so many of the four, each as it is read.
use Rattle.std.proofs.Common.{◌≡◌, [], ◌∷◌, take, rules}
use mir.Syntax.{w64}
use mir.Val.{SFits}
use Rattle.exact.specs.Fit.{m64, arg}
use Rattle.decimals.specs.Puts.{puts-same}
use Rattle.hpgl.specs.declared.Reply.{Reply}
use Rattle.hpgl.specs.Replies.{numbers_told, text_of, reply_text}
use Rattle.replies.proofs.writing.put_reply.Goals as goal

read : (r : Reply) → SFits w64 r.first → SFits w64 r.second → SFits w64 r.third → SFits w64 r.fourth →
    text_of (take r.count (m64 r.first ∷ m64 r.second ∷ m64 r.third ∷ m64 r.fourth ∷ [])) ≡ reply_text r
unfolding numbers_told reply_text
read r f g h k = λ i. text_of (take r.count ((arg w64 f).is i ∷ (arg w64 g).is i ∷ (arg w64 h).is i ∷ (arg w64 k).is i ∷ []))

pub put_numbers-requires : goal.put_numbers-requires
put_numbers-requires c = rw (read c.args.r (search rules) (search rules) (search rules) (search rules)) c.requires.r_in_bounds

pub returns : goal.returns
returns c = puts-same (read c.args.r (search rules) (search rules) (search rules) (search rules)) c.put_numbers.ensures
