-- What it is to put a text into a list at a place, and one text after another.
use Rattle.std.specs.Prelude.{List, [], ◌∷◌, ◌++◌, ◌≡◌, refl, ℕ, suc, ◌+◌, ◌≤◌, ℤ, pos, negsuc, nat_abs, length, set}
use Rattle.std.proofs.Common.{sym, ap, ◌∙◌, subst, arith, length-append, length-set, set-set}
use Prim.Native.Char.{code}
use Rattle.std.proofs.lemmas.List.Edits.{sets}
use Rattle.std.proofs.Math.Seq.{length-sets}
use Rattle.decimals.specs.Decimal.{decimal, natural, sign, whole}

-- the text stands in the list from a place on, and ends before another; the rest of the list is as before
pub record Puts (text before after : List ℕ) (at end : ℕ) : Type 0 where
  pub ends : end ≡ at + length text
  pub room : end ≤ length before
  pub list : after ≡ sets before at text

-- ---- one text after another

pub sets-append : (l : List ℕ) (i : ℕ) (s t : List ℕ) → sets l i (s ++ t) ≡ sets (sets l i s) (i + length s) t
sets-append l i [] t = ap (λ (k : ℕ). sets l k t) (omega arith)
sets-append l i (a ∷ s) t = sets-append (set l i a) (suc i) s t ∙ ap (λ (k : ℕ). sets (sets (set l i a) (suc i) s) k t) (omega arith)

pub puts-same : {s t l m : List ℕ} {at end : ℕ} → s ≡ t → Puts s l m at end → Puts t l m at end
puts-same {l} {m} {at} {end} e p = subst (λ (text : List ℕ). Puts text l m at end) e p

pub puts-nothing : (l : List ℕ) {at : ℕ} → at ≤ length l → Puts [] l l at at
puts-nothing l h = record { ends = omega arith; room = h; list = refl }

pub puts-length : {text before after : List ℕ} {at end : ℕ} → Puts text before after at end → length after ≡ length before
puts-length {text} {before} {after} {at} p = ap length p.list ∙ length-sets before at text

pub puts_then : {s t l m n : List ℕ} {at mid end : ℕ} → Puts s l m at mid → Puts t m n mid end → Puts (s ++ t) l n at end
puts_then {s} {t} {l} {m} {n} {at} {mid} {end} p q = record {
  ends = omega (arith, p.ends, q.ends, length-append s t);
  room = omega (arith, q.room, puts-length p);
  list = q.list ∙ (λ i. sets (p.list i) (p.ends i) t) ∙ sym (sets-append l at s t);
}

-- what a text of two parts asks of the list: room for the second, once the first stands there
pub puts-room : {s l m : List ℕ} {at mid : ℕ} → Puts s l m at mid → (t : List ℕ) → at + length (s ++ t) ≤ length l → mid + length t ≤ length m
puts-room {s} p t h = omega (arith, p.ends, puts-length p, length-append s t)

-- ---- a minus that is written in any case: the first byte of a number takes its place where there is no sign

over : (text : List ℕ) (x b : ℕ) (before : List ℕ) (at : ℕ) → sets (set before at x) at (text ++ (b ∷ [])) ≡ sets before at (text ++ (b ∷ []))
over [] x b before at = ap (λ (l : List ℕ). sets l (suc at) []) (set-set before at x b)
over (c ∷ cs) x b before at = ap (λ (l : List ℕ). sets l (suc at) (cs ++ (b ∷ []))) (set-set before at x c)

pub puts-signed : (z : ℤ) (byte : ℕ) {at end : ℕ} {before after : List ℕ} → Puts (natural (nat_abs z) byte) (set before at (code "-")) after (at + length (sign z)) end → Puts (whole z byte) before after at end
unfolding whole natural
puts-signed (pos n) byte {at} {end} {before} {after} p = record {
  ends = omega (arith, p.ends);
  room = omega (arith, p.room, length-set before at (code "-"));
  list = p.list ∙ (let here : at + 0 ≡ at = omega arith in ap (λ (i : ℕ). sets (set before at (code "-")) i (decimal n ++ (byte ∷ []))) here) ∙ over (decimal n) (code "-") byte before at;
}
puts-signed (negsuc n) byte {at} {end} {before} {after} p = record {
  ends = omega (arith, p.ends);
  room = omega (arith, p.room, length-set before at (code "-"));
  list = p.list ∙ (let next : at + 1 ≡ suc at = omega arith in ap (λ (i : ℕ). sets (set before at (code "-")) i (decimal (suc n) ++ (byte ∷ []))) next);
}
