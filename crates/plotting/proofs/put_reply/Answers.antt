-- The reply stands at the start of the part that is lent, and so in the text at the place where that part begins.
use mathlib.Core.Path.{◌≡◌, sym, ap, ◌∙◌}
use Prim.Native.Nat.{ℕ, ◌+◌, ◌-◌}
use native.Mathlib.Omega.{arith}
use lib.ListN.{length}
use Rattle.hpgl.specs.Machine.{fetch_text}
use Rattle.machine.specs.Calls.{Told, fetched_from}
use Rattle.plotting.specs.PlottedLaws.{reply-fits, puts-at, part_length, reply-put}
use Rattle.hpgl.specs.Numbers.{most_reply}
use Rattle.plotting.proofs.put_reply.Goals as goal

pub returns : goal.returns
unfolding fetched_from
returns c =
    let m = c.args.machine.state in
    let text = c.args.text.now in
    let at = c.args.at in
    let n : at + most_reply - at ≡ most_reply = omega arith in
    let is = c.fetch.ensures.value ∙ ap (fetched_from m) (part_length m text at _ c.requires n) in
    let long : c.fetch.result.length ≡ length (fetch_text m most_reply) = ap (λ (r : Told). r.length) is in
    record {
      value = is;
      puts = puts-at (ap (λ (k : ℕ). at + k) (sym long)) (reply-put m text at _ c.requires n c.fetch.ensures.out_after);
      length_bound = omega (arith, long, reply-fits m);
    }
