-- What a read gave stands after what was read before it.
use Rattle.std.proofs.Common.{rules, ℕ, List, ◌≡◌, ◌≤◌, ◌+◌, ◌++◌, length, take, sym, ap, ap₂, ◌∙◌, subst, le_refl, drop_at, length-take-le}
use Rattle.std.proofs.lemmas.Slice.{take-put_mid_below}
use Rattle.std.specs.Io.KnownBytes.{Consumes}
use Rattle.std.proofs.KnownBytes.{Consumes-trans}
use borrow.Rule.Slice.PartMut.{put_mid, post_of}
use lib.Seq.{take-add, take-append-le}
use Rattle.streams.proofs.read_full.Goals as goal

joined : (a n k : ℕ) (xs ys : List ℕ) → a ≤ length xs → n ≤ length ys → take a xs ++ take n ys ≡ take (a + n) (put_mid a k xs ys)
joined a n k xs ys within fits =
    let after = post_of a k xs in
    sym
    (take-add a n (put_mid a k xs ys)
    ∙ ap₂ (λ u v. u ++ v) (take-put_mid_below _ _ _ _ _ (le_refl _) within)
    (ap (take n) (drop_at (take a xs) (ys ++ after) a (length-take-le a xs within)) ∙ take-append-le n ys after fits))

pub loop-done-preserved : goal.loop-done-preserved
loop-done-preserved g c =
    let got = c.read-got.ensures in
    let within = c.loop-done.invariant.1 in
    let all = joined c.loop-done.done c.read-got.result.count _ c.loop-done.block c.read-got.new.block within got.prefix_len.0 in
    (search rules, search rules, subst (Consumes _ _) all (Consumes-trans _ _ _ _ _ c.loop-done.invariant.2 got.bytes))
