-- What document 02, CR 5, says of a reply, proved of the definitions: turned again, what OW tells without a window is the hard limits; no reply is longer than 37 bytes; and its
-- text read as numbers gives the numbers back.
use Rattle.std.specs.Prelude.{◌≡◌, refl, Bool, true, false, cond, List, [], ◌∷◌, ◌++◌, ℕ, zero, suc, ◌+◌, ◌-◌, ◌*◌, ◌/◌, ◌%◌, ◌≤◌, ◌<◌, eqb, ltb, ℤ, pos, negsuc, neg_ℤ, length, take}
use Rattle.std.proofs.Common.{ap, ◌∙◌, append_assoc, arith, ne_eqb, ltb-true, ltb-false, length-append}
use Prim.Native.Char.{code}
use Rattle.exact.specs.Whole.{◌<ᶻ◌, ◌≤ᶻ◌, ord}
use Rattle.exact.specs.Fit.{Bd}
use Rattle.decimals.specs.Decimal.{digit, decimal, natural, whole}
use Rattle.decimals.proofs.DecimalLaws.{decimal-one, decimal-more, decimal-length}
use Rattle.clip.specs.Reach.{reach}
use Rattle.turns.specs.Turn.{turned_box_of}
use Rattle.turns.proofs.BoxLaws.{box-home}
use Rattle.hpgl.specs.declared.Settings.{Settings}
use Rattle.hpgl.specs.declared.Reply.{Reply}
use Rattle.hpgl.specs.declared.Work.{Work}
use Rattle.hpgl.specs.declared.Work.TheVariants as work
use Rattle.hpgl.specs.declared.State.{State}
use Rattle.hpgl.specs.Replies.{window_shown, numbers_told, text_of, reply_text}
use Rattle.hpgl.specs.Numbers.{most_reply}
use Rattle.hpgl.specs.Machine.{replied}
use Rattle.hpgl.specs.Valid.{ValidSettings, ValidReply, ValidWork, Every, none, more, Valid}

-- ---- "OW without a window gives the hard limits turned back"

weak : {a b : ℤ} → a <ᶻ b → a ≤ᶻ b
weak h = omega (arith, ord)

-- for each of the four turns
pub ow-turns-back : (s : Settings) → ValidSettings s → s.window.set ≡ false → turned_box_of (window_shown s) s.turn ≡ s.hard
unfolding window_shown
ow-turns-back s v e = rw e (box-home s.hard s.turn v.turn (record { x = weak v.hard-x; y = weak v.hard-y }))

-- ---- no reply is longer than `most_reply`, 37 bytes

-- a sign, seven digits, and the byte after them
whole-short : (z : ℤ) (byte : ℕ) → Bd z reach → length (whole z byte) ≤ 9
unfolding whole natural
whole-short (pos n) byte h = omega (arith, h.bd, decimal-length 6 n (omega (arith, h.bd)), length-append (decimal n) (byte ∷ []))
whole-short (negsuc n) byte h = omega (arith, h.bd, decimal-length 6 (suc n) (omega (arith, h.bd)), length-append (decimal (suc n)) (byte ∷ []))

Small : ℤ → Type 0
Small z = Bd z reach

text-short : (zs : List ℤ) → Every Small zs → length (text_of zs) ≤ 9 * length zs + 1
unfolding text_of Small
text-short [] none = omega arith
text-short (z ∷ []) (more h none) = omega (arith, whole-short z 13 h, length-append (whole z 13) (10 ∷ []))
text-short (z ∷ y ∷ zs) (more h (more k hs)) =
    omega (arith, whole-short z (code ",") h, length-append (whole z (code ",")) (text_of (y ∷ zs)), text-short (y ∷ zs) (more k hs))

every_take : {P : ℤ → Type 0} (k : ℕ) (zs : List ℤ) → Every P zs → Every P (take k zs)
every_take zero zs h = none
every_take (suc k) [] none = none
every_take (suc k) (z ∷ zs) (more h hs) = more h (every_take k zs hs)

take-length : (k : ℕ) (zs : List ℤ) → length (take k zs) ≤ length zs
take-length zero zs = omega arith
take-length (suc k) [] = omega arith
take-length (suc k) (z ∷ zs) = omega (arith, take-length k zs)

pub short : (r : Reply) → ValidReply r → length (reply_text r) ≤ most_reply
unfolding reply_text numbers_told Small
short r v =
    let zs : List ℤ = r.first ∷ r.second ∷ r.third ∷ r.fourth ∷ [] in
    let h : Every Small zs = more v.first (more v.second (more v.third (more v.fourth none))) in
    omega (arith, text-short (take r.count zs) (every_take r.count zs h), take-length r.count zs)

work-short : (w : Work) → ValidWork w → length (reply_text (replied w)) ≤ most_reply
unfolding replied reply_text numbers_told text_of
work-short work.Nothing h = omega arith
work-short (work.Line a b) h = omega arith
work-short (work.Chords o i n) h = omega arith
work-short (work.Edges i n) h = omega arith
work-short (work.Answer r) h = short r h

pub reply-short : {m : State} → Valid m → length (reply_text (replied m.work)) ≤ most_reply
reply-short {m} v = work-short m.work v.work

-- ---- a reply's text read as numbers

-- a number as it is read: its sign, and its digits so far
abbrev pub signed : Bool → ℕ → ℤ
signed minus n = cond minus (neg_ℤ (pos n)) (pos n)

-- a minus, digits, and a comma or 13 after each number
unfoldable pub read_from : Bool → ℕ → List ℕ → List ℤ
read_from minus n [] = []
read_from minus n (b ∷ bs) =
    cond (eqb b (code "-")) (read_from true n bs)
    (cond (eqb b (code ",")) (signed minus n ∷ read_from false 0 bs)
    (cond (eqb b 13) (signed minus n ∷ [])
    (read_from minus (n * 10 + (b - code "0")) bs)))

abbrev pub read_numbers : List ℕ → List ℤ
read_numbers text = read_from false 0 text

read-digit : (minus : Bool) (n d : ℕ) (bs : List ℕ) → d < 10 → read_from minus n (digit d ∷ bs) ≡ read_from minus (n * 10 + d) bs
unfolding read_from
read-digit minus n d bs h =
    let k : 48 + d - 48 ≡ d = omega arith in
    rw (ne_eqb (48 + d) 45 (λ e. omega (arith, e)), ne_eqb (48 + d) 44 (λ e. omega (arith, e)), ne_eqb (48 + d) 13 (λ e. omega (arith, e, h)), k) refl

read_first : (minus : Bool) (d : ℕ) (bs : List ℕ) → d < 10 → read_from minus 0 (digit d ∷ bs) ≡ read_from minus d bs
read_first minus d bs h = let k : 0 * 10 + d ≡ d = omega arith in read-digit minus 0 d bs h ∙ ap (λ (n : ℕ). read_from minus n bs) k

read-decimal : (most n : ℕ) → n ≤ most → (minus : Bool) (bs : List ℕ) → read_from minus 0 (decimal n ++ bs) ≡ read_from minus n bs
read-decimal zero n h minus bs =
    ap (λ (t : List ℕ). read_from minus 0 (t ++ bs)) (decimal-one n (omega (arith, h))) ∙ read_first minus n bs (omega (arith, h))
read-decimal (suc most) n h minus bs = go (ltb n 10) refl (λ l. read-decimal most (n / 10) (omega (arith, h, l)) minus (digit (n % 10) ∷ bs))
  where
    last : n / 10 * 10 + n % 10 ≡ n
    last = omega arith

    go : (b : Bool) → ltb n 10 ≡ b → (10 ≤ n → read_from minus 0 (decimal (n / 10) ++ (digit (n % 10) ∷ bs)) ≡ read_from minus (n / 10) (digit (n % 10) ∷ bs)) →
        read_from minus 0 (decimal n ++ bs) ≡ read_from minus n bs
    go true e tenth = ap (λ (t : List ℕ). read_from minus 0 (t ++ bs)) (decimal-one n (ltb-true n 10 e)) ∙ read_first minus n bs (ltb-true n 10 e)
    go false e tenth =
        ap (λ (t : List ℕ). read_from minus 0 (t ++ bs)) (decimal-more n (ltb-false n 10 e))
        ∙ ap (read_from minus 0) (append_assoc (decimal (n / 10)) (digit (n % 10) ∷ []) bs)
        ∙ tenth (ltb-false n 10 e)
        ∙ read-digit minus (n / 10) (n % 10) bs (omega arith)
        ∙ ap (λ (k : ℕ). read_from minus k bs) last

read-natural : (minus : Bool) (n byte : ℕ) (bs : List ℕ) → read_from minus 0 (natural n byte ++ bs) ≡ read_from minus n (byte ∷ bs)
unfolding natural
read-natural minus n byte bs = ap (read_from minus 0) (append_assoc (decimal n) (byte ∷ []) bs) ∙ read-decimal n n (omega arith) minus (byte ∷ bs)

read-comma : (z : ℤ) (bs : List ℕ) → read_from false 0 (whole z (code ",") ++ bs) ≡ z ∷ read_from false 0 bs
unfolding whole read_from
read-comma (pos n) bs = read-natural false n (code ",") bs
read-comma (negsuc n) bs = read-natural true (suc n) (code ",") bs

read-close : (z : ℤ) (bs : List ℕ) → read_from false 0 (whole z 13 ++ bs) ≡ z ∷ []
unfolding whole read_from
read-close (pos n) bs = read-natural false n 13 bs
read-close (negsuc n) bs = read-natural true (suc n) 13 bs

pub text-read : (zs : List ℤ) → read_numbers (text_of zs) ≡ zs
unfolding text_of read_from
text-read [] = refl
text-read (z ∷ []) = read-close z (10 ∷ [])
text-read (z ∷ y ∷ zs) = read-comma z (text_of (y ∷ zs)) ∙ ap (λ (s : List ℤ). z ∷ s) (text-read (y ∷ zs))

pub reply-read : (r : Reply) → read_numbers (reply_text r) ≡ numbers_told r
unfolding reply_text
reply-read r = text-read (numbers_told r)
