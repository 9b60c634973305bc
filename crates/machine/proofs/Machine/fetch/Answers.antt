-- The proof of `fetch`: the reply is gone exactly where bytes were written (FetchLaws.antt).
use Rattle.std.specs.Prelude.{Result, List, ℕ, length}
use Rattle.std.proofs.Common.{◌≡◌, sym, ap, subst, ◌∙◌}
use Rattle.replies.specs.declared.writing.ShortBuffer.{ShortBuffer}
use Rattle.replies.specs.Fetch.{number_for, bytes_of, number_of, Fetches}
use Rattle.hpgl.specs.declared.State.{State}
use Rattle.hpgl.specs.Machine.{replied, replying, fetch_number, fetch_text, fetch_out}
use Rattle.hpgl.specs.Valid.{Usable}
use Rattle.hpgl.proofs.FetchLaws.{unfetched, fetched}
use Rattle.hpgl.proofs.ValidKept.{usable-fetch}
use Rattle.machine.specs.Calls.{fetched_from}
use Rattle.machine.proofs.Machine.fetch.Goals as goal

-- what is answered and written, as the machine's calls have it
module _ (m : State) {before after : List ℕ} {w : Result ℕ ShortBuffer} (f : Fetches (replied m.work) before after w) where
  bytes : bytes_of w ≡ length (fetch_text m (length before))
  unfolding fetch_text
  bytes = f.count

  number : number_of w ≡ fetch_number m (length before)
  unfolding fetch_number replying number_for
  number = f.number

  writes : after ≡ fetch_out m before
  unfolding fetch_out fetch_text
  writes = f.out

pub fetch-requires : goal.fetch-requires
fetch-requires c = c.args.self.usable.valid.work

pub returns-then-length-eq0 : goal.returns-then-length-eq0
unfolding fetched_from
returns-then-length-eq0 c =
    let m = c.args.self.state in
    let none = sym c.if-length-eq0.true ∙ sym (ap bytes_of c.in-Ok.is) ∙ bytes m c.fetch.ensures in
    let zero = sym (ap number_of c.in-Ok.is) ∙ number m c.fetch.ensures in
    record { value = (λ i. record { state = sym (unfetched m (length c.args.out.now) (sym none)) i; length = none i; number = zero i }); out_after = writes m c.fetch.ensures }

pub invariant_of-result : goal.invariant_of-result
invariant_of-result c =
    let m = c.args.self.state in
    let some = sym (ap bytes_of c.in-Ok.is) ∙ bytes m c.fetch.ensures in
    let left = fetched m (length c.args.out.now) (λ z. c.if-length-eq0.false (some ∙ z)) in
    record { usable = subst Usable left (usable-fetch (length c.args.out.now) c.args.self.usable) }

pub returns-else-length-eq0 : goal.returns-else-length-eq0
unfolding fetched_from
returns-else-length-eq0 c =
    let m = c.args.self.state in
    let some = sym (ap bytes_of c.in-Ok.is) ∙ bytes m c.fetch.ensures in
    let zero = sym (ap number_of c.in-Ok.is) ∙ number m c.fetch.ensures in
    record { value = (λ i. record { state = sym (fetched m (length c.args.out.now) (λ z. c.if-length-eq0.false (some ∙ z))) i; length = some i; number = zero i }); out_after = writes m c.fetch.ensures }

pub returns-in-Err : goal.returns-in-Err
unfolding fetched_from
returns-in-Err c =
    let m = c.args.self.state in
    let none = sym (ap bytes_of c.in-Err.is) ∙ bytes m c.fetch.ensures in
    let short = sym (ap number_of c.in-Err.is) ∙ number m c.fetch.ensures in
    record { value = (λ i. record { state = sym (unfetched m (length c.args.out.now) (sym none)) i; length = none i; number = short i }); out_after = writes m c.fetch.ensures }
