-- The proof of `inserted`: what stands before the place is done, and what is left is the carried number sunk into the rest.
use Rattle.std.proofs.Common.{rules, arith, add-one, ◌≡◌, refl, sym, ap, ◌∙◌, ◌≤◌, ◌<◌, ℕ, zero, suc, ℤ, pos, List, [], ◌∷◌, ◌++◌, take, drop, length, slice_index_or, slice_set, w64, to_z}
use Rattle.std.proofs.Math.Seq.{take-suc-set}
use Rattle.std.proofs.lemmas.List.{take_all, drop_all, take-append-le, length-append, length-drop, length-take-le}
use mir.Val.{SFits}
use Rattle.exact.specs.Fit.{m64, arg, got}
use Rattle.turns.specs.Turn.{lesser_of, greater_of}
use Rattle.filling.specs.Sink.{sink}
use Rattle.filling.proofs.inserted.Goals as goal

-- one place more
next : (xs : List ℤ) (i : ℕ) (c : ℤ) → i < length xs → let y = slice_index_or xs i (pos 0) in
    take (suc i) (slice_set xs i (lesser_of c y)) ++ sink (greater_of c y) (drop (suc i) (slice_set xs i (lesser_of c y))) ≡ take i xs ++ sink c (drop i xs)
unfolding sink
next [] i c h = absurd (omega arith)
next (x ∷ xs) zero c h = refl
next (x ∷ xs) (suc i) c h = ap (λ (l : List ℤ). x ∷ l) (next xs i c (omega arith))

-- past the last place what is carried is the last number
last : (row rest : List ℤ) (n i : ℕ) (c : ℤ) → length row ≡ n → length row ≤ i → n < length (row ++ rest) → take (suc n) (slice_set (row ++ rest) n c) ≡ take i row ++ sink c (drop i row)
unfolding sink
last row rest n i c e h l =
    take-suc-set (row ++ rest) n c l ∙ rw (take_all i row h, drop_all i row h) (ap (λ (k : List ℤ). k ++ (c ∷ [])) (take-append-le n row rest (omega arith) ∙ take_all n row (omega arith)))

pub loop-place-preserved : goal.loop-place-preserved
loop-place-preserved c =
    let l = c.loop-place in
    let y = slice_index_or l.row l.place-index (pos 0) in
    let fy : SFits w64 y = search rules in
    let es : m64 c.lesser-small.result ≡ lesser_of l.carry y = got w64 c.lesser-small.type_inv ∙ c.lesser-small.ensures ∙ (λ i. lesser_of (l.carry-is i) ((arg w64 fy).is i)) in
    let eg : m64 c.greater-carry.result ≡ greater_of l.carry y = got w64 c.greater-carry.type_inv ∙ c.greater-carry.ensures ∙ (λ i. greater_of (l.carry-is i) ((arg w64 fy).is i)) in
    (λ i. take (add-one l.place-index i) (slice_set l.row l.place-index (es i)) ++ sink (eg i) (drop (add-one l.place-index i) (slice_set l.row l.place-index (es i))))
    ∙ next l.row l.place-index l.carry (omega arith)
    ∙ ap (λ (z : ℤ). take l.place-index l.row ++ sink z (drop l.place-index l.row)) (sym l.carry-is)
    ∙ l.invariant

pub returns : goal.returns
returns c =
    let l = c.loop-place in
    let n = c.args.c.n in
    let fx : SFits w64 c.args.x = search rules in
    let long : length c.args.c.xs ≡ 114 = search rules in
    let len : length l.row ≡ n = omega (arith, length-take-le n c.args.c.xs (omega arith)) in (
      refl,
      ap (λ (k : ℕ). take k (slice_set (l.row ++ drop n c.args.c.xs) n (to_z w64 l.carry-bits))) (add-one n)
          ∙ last l.row (drop n c.args.c.xs) n l.place-index _ len (omega arith) (omega (arith, length-append l.row (drop n c.args.c.xs), length-drop n c.args.c.xs))
          ∙ l.invariant
          ∙ ap (λ (x : ℤ). sink x (take n c.args.c.xs)) (arg w64 fx).is,
    )
