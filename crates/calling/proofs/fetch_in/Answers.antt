-- The proof of `fetch_in`: the reply is gone exactly where bytes were written (FetchLaws.antt), and its rows alone are others then (SavedLaws.antt).
use mathlib.Core.Path.{◌≡◌, sym, ap, ◌∙◌, subst}
use mathlib.Core.List.{List, [], ◌∷◌}
use Prim.Native.Nat.{ℕ}
use lib.IntN.{ℤ}
use lib.ListN.{length, set}
use Rattle.rows.specs.Rows.{over}
use Rattle.std.specs.Prelude.{Result}
use Rattle.hpgl.specs.declared.State.{State}
use Rattle.hpgl.specs.declared.Work.{Work}
use Rattle.hpgl.specs.declared.Work.TheVariants.{Nothing}
use Rattle.hpgl.specs.Valid.{ValidWork}
use Rattle.hpgl.specs.Machine.{replying, replied, fetch_state, fetch_number, fetch_text, fetch_out}
use Rattle.hpgl.proofs.FetchLaws.{unfetched, fetched}
use Rattle.replies.specs.declared.writing.ShortBuffer.{ShortBuffer}
use Rattle.replies.specs.Fetch.{Fetches, number_for, bytes_of, number_of}
use Rattle.saved.specs.Places.{work_place}
use Rattle.saved.specs.Saved.{work_numbers, saved_of, loaded_of}
use Rattle.saved.proofs.SavedLaws.{saved-work}
use Rattle.calling.proofs.fetch_in.Goals as goal

-- what was written of the work of a list is what its machine answers
module _ (m : State) (out left : List ℕ) (w : Result ℕ ShortBuffer) (f : Fetches (replied m.work) out left w) where
  counts : bytes_of w ≡ length (fetch_text m (length out))
  unfolding fetch_text
  counts = f.count

  numbers : number_of w ≡ fetch_number m (length out)
  unfolding fetch_number replying number_for
  numbers = f.number

  writes : left ≡ fetch_out m out
  unfolding fetch_out fetch_text
  writes = f.out

  answers : (zs : List ℕ) → set zs 0 (bytes_of w) ≡ over zs 0 (length (fetch_text m (length out)) ∷ [])
  unfolding over
  answers zs = ap (λ (n : ℕ). set zs 0 n) counts

pub fetch-requires : goal.fetch-requires
unfolding loaded_of
fetch-requires c = subst ValidWork (sym c.work_at.ensures) c.requires.0.usable.valid.work

pub returns-then-length-eq0 : goal.returns-then-length-eq0
unfolding loaded_of
returns-then-length-eq0 c =
    let m = loaded_of c.args.numbers.now in
    let out = c.args.out.now in
    let w = c.fetch.result in
    let left = c.fetch.new.out in
    let f = subst (λ (k : Work). Fetches (replied k) out left w) c.work_at.ensures c.fetch.ensures in
    let n = ap bytes_of c.in-Ok.is in
    record {
      value = sym (ap number_of c.in-Ok.is) ∙ numbers m out left w f;
      numbers_after = sym (ap saved_of (unfetched m (length out) (sym (counts m out left w f) ∙ n ∙ c.if-length-eq0.true)) ∙ c.requires.1);
      out_after = writes m out left w f;
      answer_after = ap (λ (k : ℕ). set c.args.answer.now 0 k) (sym n) ∙ answers m out left w f c.args.answer.now;
    }

pub returns-else-length-eq0 : goal.returns-else-length-eq0
unfolding loaded_of
returns-else-length-eq0 c =
    let m = loaded_of c.args.numbers.now in
    let out = c.args.out.now in
    let w = c.fetch.result in
    let left = c.fetch.new.out in
    let f = subst (λ (k : Work). Fetches (replied k) out left w) c.work_at.ensures c.fetch.ensures in
    let n = ap bytes_of c.in-Ok.is in
    let gone : c.put_work.new.numbers ≡ saved_of (fetch_state m (length out)) =
    c.put_work.ensures ∙ ap (λ (l : List ℤ). over l work_place (work_numbers Nothing)) (sym c.requires.1) ∙ saved-work m Nothing
    ∙ ap saved_of (sym (fetched m (length out) (λ z. c.if-length-eq0.false (sym n ∙ counts m out left w f ∙ z)))) in
    record {
      value = sym (ap number_of c.in-Ok.is) ∙ numbers m out left w f;
      numbers_after = gone;
      out_after = writes m out left w f;
      answer_after = ap (λ (k : ℕ). set c.args.answer.now 0 k) (sym n) ∙ answers m out left w f c.args.answer.now;
    }

pub returns-in-Err : goal.returns-in-Err
unfolding loaded_of
returns-in-Err c =
    let m = loaded_of c.args.numbers.now in
    let out = c.args.out.now in
    let w = c.fetch.result in
    let left = c.fetch.new.out in
    let f = subst (λ (k : Work). Fetches (replied k) out left w) c.work_at.ensures c.fetch.ensures in
    let none = ap bytes_of c.in-Err.is in
    record {
      value = sym (ap number_of c.in-Err.is) ∙ numbers m out left w f;
      numbers_after = sym (ap saved_of (unfetched m (length out) (sym (counts m out left w f) ∙ none)) ∙ c.requires.1);
      out_after = writes m out left w f;
      answer_after = ap (λ (k : ℕ). set c.args.answer.now 0 k) (sym none) ∙ answers m out left w f c.args.answer.now;
    }
