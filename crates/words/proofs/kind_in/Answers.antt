-- What the search of the whole list gives is what the search from a row on gives: a row is four bytes of the list.
use Rattle.std.proofs.Common.{true, false, ◌≡◌, refl, sym, ap, ◌∙◌, ℕ, zero, suc, ◌+◌, ◌*◌, ◌/◌, ◌<◌, List, [], length, get_or, take, drop, arith}
use Rattle.std.specs.Simd.{first_chunks}
use Rattle.std.proofs.lemmas.List.{get_or-take, get_or-drop, drop-drop}
use Rattle.words.specs.Names.{same_name, kind_in}
use Rattle.words.specs.NameLaws.{kind-here, kind-later, kind-not}
use Rattle.words.proofs.kind_in.Goals as goal

row_of : (i k : ℕ) (names : List ℕ) → i < k → get_or (first_chunks 4 k names) i [] ≡ take 4 (drop (i * 4) names)
row_of i zero names h = absurd (omega arith)
row_of zero (suc k) names h = refl
row_of (suc i) (suc k) names h =
    let p : 4 + i * 4 ≡ suc i * 4 = omega arith in
    row_of i k (drop 4 names) (omega arith) ∙ ap (take 4) (drop-drop (i * 4) 4 names ∙ ap (λ (n : ℕ). drop n names) p)

module _ (names : List ℕ) (rows : List (List ℕ)) (e : rows ≡ first_chunks 4 (length names / 4) names) (i : ℕ) (h : i < length names / 4) where
  cell : (j : ℕ) → j < 4 → get_or (get_or rows i []) j 0 ≡ get_or names (i * 4 + j) 0
  cell j k = rw (e, row_of i (length names / 4) names h) (get_or-take 4 (drop (i * 4) names) j 0 k ∙ get_or-drop (i * 4) names j 0)

  first : get_or (get_or rows i []) 0 0 ≡ get_or names (i * 4) 0
  first = let p : i * 4 + 0 ≡ i * 4 = omega arith in cell 0 (omega arith) ∙ ap (λ (n : ℕ). get_or names n 0) p

  module _ (a b : ℕ) where
    name : same_name (get_or (get_or rows i []) 0 0) (get_or (get_or rows i []) 1 0) a b ≡ same_name (get_or names (i * 4) 0) (get_or names (i * 4 + 1) 0) a b
    name = λ j. same_name (first j) (cell 1 (omega arith) j) a b

    here : same_name (get_or (get_or rows i []) 0 0) (get_or (get_or rows i []) 1 0) a b ≡ true → kind_in (drop (i * 4) names) a b ≡ get_or (get_or rows i []) 2 0
    here s = kind-here names (i * 4) a b (omega arith) (sym name ∙ s) ∙ sym (cell 2 (omega arith))

    later : same_name (get_or (get_or rows i []) 0 0) (get_or (get_or rows i []) 1 0) a b ≡ false → kind_in (drop (i * 4) names) a b ≡ kind_in (drop ((i + 1) * 4) names) a b
    later s =
        let p : i * 4 + 4 ≡ (i + 1) * 4 = omega arith in
        kind-later names (i * 4) a b (omega arith) (sym name ∙ s) ∙ ap (λ (n : ℕ). kind_in (drop n names) a b) p

pub loop-a-init : goal.loop-a-init
loop-a-init c = refl

pub returns-then-same : goal.returns-then-same
returns-then-same c =
    sym (c.loop-a.invariant ∙ here c.args.names.now c.as_chunks.result.0.now c.as_chunks.ensures.front c.loop-a.a-index (omega (arith, c.as_chunks.ensures.front_len)) c.args.first c.args.second (sym c.same.ensures ∙ c.if-same.true))

pub loop-a-preserved : goal.loop-a-preserved
loop-a-preserved c =
    c.loop-a.invariant ∙ later c.args.names.now c.as_chunks.result.0.now c.as_chunks.ensures.front c.loop-a.a-index (omega (arith, c.as_chunks.ensures.front_len)) c.args.first c.args.second (sym c.same.ensures ∙ c.if-same.false)

pub returns : goal.returns
returns c =
    sym (c.loop-a.invariant ∙ kind-not c.args.names.now (c.loop-a.a-index * 4) c.args.first c.args.second (omega (arith, c.as_chunks.ensures.front_len)))
