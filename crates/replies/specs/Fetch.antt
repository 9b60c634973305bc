-- What is written of a reply, and answered: of a reply of no numbers nothing, and 0.
use Rattle.std.specs.Prelude.{Result, Ok, Err, ◌≡◌, refl, false, cond, not, List, [], ◌∷◌, ◌++◌, ℕ, ◌+◌, ◌≤◌, ◌<◌, eqb, leb, length, drop}
use Rattle.std.proofs.Common.{ap, ◌∙◌, arith, le-leb, ne_eqb}
use Rattle.std.proofs.lemmas.Bool.{lt-leb}
use Rattle.std.proofs.lemmas.List.Edits.{sets-eq}
use Rattle.decimals.specs.Puts.{Puts}
use Rattle.hpgl.specs.declared.Reply.{Reply}
use Rattle.hpgl.specs.Replies.{no_reply, numbers_told, text_of, reply_text}
use Rattle.hpgl.specs.Machine.{fetched_of}
use Rattle.hpgl.specs.Valid.{ReplyCount, one, three, four, ValidReply}
use Rattle.replies.specs.declared.writing.ShortBuffer.{ShortBuffer}

-- 02's number of a fetch: "31: buffer shorter than the reply"
unfoldable pub number_for : Reply → ℕ → ℕ
number_for r room = cond (not (eqb r.count 0)) (cond (leb (length (reply_text r)) room) 0 31) 0

-- how many bytes an answer says were written, and its number
abbrev pub bytes_of : Result ℕ ShortBuffer → ℕ
bytes_of (Ok n) = n
bytes_of (Err e) = 0

abbrev pub number_of : Result ℕ ShortBuffer → ℕ
number_of (Ok n) = 0
number_of (Err e) = 31

pub record Fetches (r : Reply) (before after : List ℕ) (w : Result ℕ ShortBuffer) : Type 0 where
  pub count : bytes_of w ≡ length (fetched_of r (length before))
  pub number : number_of w ≡ number_for r (length before)
  pub out : after ≡ fetched_of r (length before) ++ drop (length (fetched_of r (length before))) before

-- ---- the texts of a reply that may wait, by its count

pub text-one : (r : Reply) → r.count ≡ 1 → reply_text r ≡ text_of (r.first ∷ [])
unfolding reply_text numbers_told
text-one r e = rw e refl

pub text-three : (r : Reply) → r.count ≡ 3 → reply_text r ≡ text_of (r.first ∷ r.second ∷ r.third ∷ [])
unfolding reply_text numbers_told
text-three r e = rw e refl

four-left : {k : ℕ} → ReplyCount k → (k ≡ 1 → ⊥) → (k ≡ 3 → ⊥) → k ≡ 4
four-left one a b = absurd (a refl)
four-left three a b = absurd (b refl)
four-left four a b = refl

pub text-four : (r : Reply) → ValidReply r → (r.count ≡ 1 → ⊥) → (r.count ≡ 3 → ⊥) → reply_text r ≡ text_of (r.first ∷ r.second ∷ r.third ∷ r.fourth ∷ [])
unfolding reply_text numbers_told
text-four r v a b = rw (four-left v.count a b) refl

-- ---- the two ways of a reply that waits

some : {k : ℕ} → ReplyCount k → k ≡ 0 → ⊥
some one e = omega (arith, e)
some three e = omega (arith, e)
some four e = omega (arith, e)

counts : (r : Reply) → ValidReply r → eqb r.count 0 ≡ false
counts r v = ne_eqb r.count 0 (some v.count)

puts-start : {text before after : List ℕ} {end : ℕ} → Puts text before after 0 end → after ≡ text ++ drop (length text) before
puts-start {text} {before} p =
    let k : 0 + length text ≡ length text = omega arith in
    p.list ∙ sets-eq text before 0 (omega (arith, p.room, p.ends)) ∙ ap (λ (n : ℕ). text ++ drop n before) k

pub fits : (r : Reply) → ValidReply r → {before after : List ℕ} {end : ℕ} → length (reply_text r) ≤ length before → Puts (reply_text r) before after 0 end →
    Fetches r before after (Ok end)
unfolding fetched_of number_for
fits r v {before} {after} {end} h p =
    let l = le-leb (length (reply_text r)) (length before) h in
    record {
      count = rw l (omega (arith, p.ends));
      number = rw (counts r v, l) refl;
      out = rw l (puts-start p);
    }

pub too_short : (r : Reply) → ValidReply r → {before : List ℕ} → length before < length (reply_text r) → (e : ShortBuffer) → Fetches r before before (Err e)
unfolding fetched_of number_for
too_short r v {before} h e =
    let l = lt-leb (length (reply_text r)) (length before) h in
    record { count = rw l refl; number = rw (counts r v, l) refl; out = rw l refl }

-- and none
pub no-fetch : (before : List ℕ) → Fetches no_reply before before (Ok 0)
unfolding fetched_of number_for reply_text numbers_told text_of
no-fetch before = let l = le-leb 0 (length before) (omega arith) in record { count = rw l refl; number = refl; out = rw l refl }
