-- What a write took is the next part of the text.
use Rattle.std.proofs.Common.{rules, ℕ, List, ◌≡◌, ◌+◌, ◌-◌, ◌++◌, length, take, drop, sym, ap, ◌∙◌, subst, arith, length-drop, take_all}
use Rattle.std.specs.Io.KnownBytes.{Appends}
use Rattle.std.proofs.KnownBytes.{Appends-trans}
use lib.Seq.{take-add}
use Rattle.streams.proofs.write_all.Goals as goal

joined : (a n : ℕ) (text : List ℕ) → take a text ++ take n (take (length text - a) (drop a text)) ≡ take (a + n) text
joined a n text =
    ap (λ l. take a text ++ take n l) (take_all (length text - a) (drop a text) (omega (arith, length-drop a text)))
    ∙ sym (take-add a n text)

pub loop-done-preserved : goal.loop-done-preserved
loop-done-preserved g c =
    let put = c.write_some-put.ensures in
    (search rules, subst (Appends _ _) (joined _ _ _) (Appends-trans _ _ _ _ _ c.loop-done.invariant.1 put.bytes))
