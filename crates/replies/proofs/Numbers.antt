-- Numbers that are written one by one: what stands of their text, and what is left of it.
use Rattle.std.specs.Prelude.{List, [], ◌∷◌, ◌++◌, ◌≡◌, refl, ℕ, suc, ◌+◌, ◌≤◌, ◌<◌, ℤ, pos, length, drop, get_or}
use Rattle.std.proofs.Common.{sym, ap, ◌∙◌, arith, length-append, append_assoc}
use Rattle.std.proofs.Math.Seq.{drop-cons}
use Rattle.std.proofs.lemmas.List.{append-nil, drop_all}
use Prim.Native.Char.{code}
use Rattle.decimals.specs.Decimal.{whole}
use Rattle.decimals.specs.Puts.{Puts, puts_then, puts-same, puts-length}
use Rattle.hpgl.specs.Replies.{text_of}

-- a text of which a part stands in the list, up to a place, and the rest is left
pub record Left (text rest before now : List ℕ) (end : ℕ) : Type 0 where
  pub written : List ℕ
  pub puts : Puts written before now 0 end
  pub all : text ≡ written ++ rest

module _ {text rest before now : List ℕ} {end : ℕ} (l : Left text rest before now end) (part others : List ℕ) (parts : rest ≡ part ++ others) where
  -- the next part has room,
  pub room : length text ≤ length before → end + length part ≤ length now
  room h =
      omega (
        arith,
        h,
        l.puts.ends,
        puts-length l.puts,
        ap length l.all,
        length-append l.written rest,
        ap length parts,
        length-append part others,
      )

  -- and is put
  pub more : {after : List ℕ} {next : ℕ} → Puts part now after end next → Left text others before after next
  more p = record {
    written = l.written ++ part;
    puts = puts_then l.puts p;
    all = l.all ∙ ap (λ (r : List ℕ). l.written ++ r) parts ∙ sym (append_assoc l.written part others);
  }

-- with nothing left all of it stands
pub done : {text before now : List ℕ} {end : ℕ} → Left text [] before now end → Puts text before now 0 end
done l = puts-same (sym (l.all ∙ append-nil l.written)) l.puts

-- ---- the text of numbers

pub text-none : (zs : List ℤ) → length zs ≡ 0 → text_of zs ≡ []
unfolding text_of
text-none [] e = refl
text-none (z ∷ zs) e = absurd (omega (arith, e))

text-more : (z : ℤ) (zs : List ℤ) (last : ℤ) → text_of ((z ∷ zs) ++ (last ∷ [])) ≡ whole z (code ",") ++ text_of (zs ++ (last ∷ []))
unfolding text_of
text-more z [] last = refl
text-more z (y ∷ ys) last = refl

-- a number that is not the last, and those after it
pub text-next : (zs : List ℤ) (last : ℤ) (k : ℕ) → k < length zs →
    text_of (drop k zs ++ (last ∷ [])) ≡ whole (get_or zs k (pos 0)) (code ",") ++ text_of (drop (k + 1) zs ++ (last ∷ []))
text-next zs last k h =
    let one : suc k ≡ k + 1 = omega arith in
    let z = get_or zs k (pos 0) in
    ap (λ (l : List ℤ). text_of (l ++ (last ∷ []))) (drop-cons zs k (pos 0) h ∙ ap (λ (n : ℕ). z ∷ drop n zs) one)
    ∙ text-more z (drop (k + 1) zs) last

-- the last
pub text-last : (zs : List ℤ) (last : ℤ) (k : ℕ) → length zs ≤ k → text_of (drop k zs ++ (last ∷ [])) ≡ whole last 13 ++ (10 ∷ [])
unfolding text_of
text-last zs last k h = ap (λ (l : List ℤ). text_of (l ++ (last ∷ []))) (drop_all k zs h)
