-- What a fetch does, by cases, and what it leaves of the machine: the reply is gone exactly where bytes were written. Why: no reply has an empty text.
use Rattle.std.specs.Prelude.{◌≡◌, Bool, true, false, not, ℕ, zero, suc, ◌≤◌, ◌<◌, eqb, leb, ℤ, length, take}
use Rattle.std.proofs.Math.Path.{refl}
use mathlib.Core.List.{List, [], ◌∷◌}
use Prim.Native.Char.{code}
use Rattle.std.proofs.Common.{arith, le-leb, length-append}
use Rattle.std.proofs.Math.Dec.{eqb-suc-zero}
use Rattle.decimals.specs.Decimal.{whole}
use Rattle.decimals.proofs.DecimalLaws.{whole-some}
use Rattle.hpgl.specs.declared.Reply.{Reply}
use Rattle.hpgl.specs.declared.State.{State}
use Rattle.hpgl.specs.declared.Work.{Work}
use Rattle.hpgl.specs.declared.Work.TheVariants.{Nothing}
use Rattle.hpgl.specs.Change.{with_work}
use Rattle.hpgl.proofs.Cases.{never, pick}
use Rattle.hpgl.specs.Replies.{numbers_told, text_of, reply_text}
use Rattle.hpgl.specs.Machine.{waiting, replied, replying, fetch_state, fetched_of, fetch_text}

-- ---- a reply has some text

text-some : (z : ℤ) (zs : List ℤ) → 0 < length (text_of (z ∷ zs))
unfolding text_of
text-some z [] = omega (arith, length-append (whole z 13) (10 ∷ []))
text-some z (y ∷ zs) = omega (arith, whole-some z (code ","), length-append (whole z (code ",")) (text_of (y ∷ zs)))

counted-some : (r : Reply) (k : ℕ) → r.count ≡ suc k → 0 < length (reply_text r)
unfolding reply_text numbers_told
counted-some r k e = rw e (text-some r.first (take k (r.second ∷ r.third ∷ r.fourth ∷ [])))

uncounted : (r : Reply) → r.count ≡ 0 → reply_text r ≡ []
unfolding reply_text numbers_told text_of
uncounted r e = rw e refl

pub reply-some : (w : Work) → replying w ≡ true → 0 < length (reply_text (replied w))
unfolding replying
reply-some w = go (replied w).count refl
  where
    go : (k : ℕ) → (replied w).count ≡ k → not (eqb (replied w).count 0) ≡ true → 0 < length (reply_text (replied w))
    go zero e h = never (rw e refl) h
    go (suc k) e h = counted-some (replied w) k e

pub reply-none : (w : Work) → replying w ≡ false → reply_text (replied w) ≡ []
unfolding replying
reply-none w = go (replied w).count refl
  where
    go : (k : ℕ) → (replied w).count ≡ k → not (eqb (replied w).count 0) ≡ false → reply_text (replied w) ≡ []
    go zero e h = uncounted (replied w) e
    go (suc k) e h = never h (rw (e, eqb-suc-zero k) refl)

-- ---- the three ways of a fetch

module _ (m : State) (room : ℕ) where
  -- so many bytes were written, and the machine is this
  abbrev pub Fetches : List ℕ → State → Type 0
  Fetches text next = (fetch_text m room ≡ text) × (fetch_state m room ≡ next)

  abbrev fits : Bool
  fits = leb (length (reply_text (replied m.work))) room

  pub fetch-none : replying m.work ≡ false → Fetches [] m
  unfolding fetch_text fetched_of fetch_state
  fetch-none h = (rw (reply-none m.work h) (pick (λ (l : List ℕ). l ≡ []) (leb 0 room) refl refl), rw h refl)

  pub fetch-whole : replying m.work ≡ true → fits ≡ true → Fetches (reply_text (replied m.work)) (with_work m Nothing)
  unfolding fetch_text fetched_of fetch_state
  fetch-whole h f = (rw f refl, rw (h, f) refl)

  pub fetch-short : replying m.work ≡ true → fits ≡ false → Fetches [] m
  unfolding fetch_text fetched_of fetch_state
  fetch-short h f = (rw f refl, rw (h, f) refl)

-- what holds of a fetch in each of them holds of it
pub fetch-cases : (P : List ℕ → State → Type 0) (m : State) (room : ℕ) → (Fetches m room [] m → P [] m)
    → (replying m.work ≡ true → P (reply_text (replied m.work)) (with_work m Nothing)) → P (fetch_text m room) (fetch_state m room)
fetch-cases P m room none whole = go (replying m.work) (fits m room) refl refl
  where
    by : {text : List ℕ} {next : State} → Fetches m room text next → P text next → P (fetch_text m room) (fetch_state m room)
    by e p = rw (e.0, e.1) p

    go : (r f : Bool) → replying m.work ≡ r → fits m room ≡ f → P (fetch_text m room) (fetch_state m room)
    go false f h e = by (fetch-none m room h) (none (fetch-none m room h))
    go true true h e = by (fetch-whole m room h e) (whole h)
    go true false h e = by (fetch-short m room h e) (none (fetch-short m room h e))

module _ (m : State) (room : ℕ) where
  pub unfetched : length (fetch_text m room) ≡ 0 → fetch_state m room ≡ m
  unfetched = fetch-cases (λ text next. length text ≡ 0 → next ≡ m) m room (λ e h. refl) (λ r h. absurd (omega (arith, h, reply-some m.work r)))

  pub fetched : (length (fetch_text m room) ≡ 0 → ⊥) → fetch_state m room ≡ with_work m Nothing
  fetched = fetch-cases (λ text next. (length text ≡ 0 → ⊥) → next ≡ with_work m Nothing) m room (λ e h. absurd (h refl)) (λ r h. refl)

  -- a second fetch finds nothing more
  pub fetch-again : Fetches (fetch_state m room) room [] (fetch_state m room)
  unfolding replying replied
  fetch-again = fetch-cases (λ text next. Fetches next room [] next) m room (λ e. e) (λ r. fetch-none (with_work m Nothing) room refl)

  -- and no segment comes to wait
  pub fetch-idle : waiting m.work ≡ 0 → waiting (fetch_state m room).work ≡ 0
  unfolding waiting
  fetch-idle h = fetch-cases (λ text next. waiting next.work ≡ 0) m room (λ e. h) (λ r. refl)

  -- into a buffer that is long enough a reply goes whole
  pub fetch-some : replying m.work ≡ true → length (reply_text (replied m.work)) ≤ room → 0 < length (fetch_text m room)
  fetch-some h l = rw (fetch-whole m room h (le-leb _ room l)).0 (reply-some m.work h)
