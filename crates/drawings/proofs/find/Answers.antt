-- The library's search finds what the definition counts.
use Rattle.std.proofs.Common.{◌≡◌, ◌∙◌, refl, ap, ℕ, suc, ◌+◌, Bool, true, false, not, Some, None, ltb, arith, List, [], ◌∷◌, cond, length}
use Rattle.std.specs.Prelude.{◌==◌, position}
use Rattle.std.specs.List.{position_or_len}
use Rattle.std.specs.Option.{unwrap_or}
use Rattle.std.proofs.lemmas.Bool.{ltb-false}
use Rattle.std.proofs.lemmas.List.Sums.{prefix_len-le-length}
use Rattle.drawings.specs.Part.{index_of}
use Rattle.drawings.proofs.find.Goals as goal

module _ (byte : ℕ) where
  counted : (text : List ℕ) → position_or_len (λ (b : ℕ). b == byte) text ≡ index_of byte text
  unfolding index_of
  counted [] = refl
  counted (b ∷ bs) = go (b == byte) (counted bs)
    where
      go : (t : Bool) → position_or_len (λ (b : ℕ). b == byte) bs ≡ index_of byte bs → cond (not t) (1 + position_or_len (λ (b : ℕ). b == byte) bs) 0 ≡ cond t 0 (suc (index_of byte bs))
      go true e = refl
      go false e = omega (arith, e)

  found : (text : List ℕ) → unwrap_or (position (λ (b : ℕ). b == byte) text) (length text) ≡ index_of byte text
  found text = go (ltb n (length text)) refl ∙ counted text
    where
      n : ℕ
      n = position_or_len (λ (b : ℕ). b == byte) text

      go : (t : Bool) → ltb n (length text) ≡ t → unwrap_or (cond t (Some n) None) (length text) ≡ n
      go true e = refl
      go false e = omega (arith, prefix_len-le-length (λ (b : ℕ). not (b == byte)) text, ltb-false n (length text) e)

pub returns-clause-value : goal.returns-clause-value
returns-clause-value c = c.unwrap_or.ensures ∙ ap (λ o. unwrap_or o (length c.args.text.now)) c.first_at.ensures ∙ found c.args.byte c.args.text.now
