-- The proof of `put_numbers`: each number is the next part of what is left (Numbers.antt).
use Rattle.std.proofs.Common.{◌≡◌, refl, sym, ap, subst, arith, List, [], ◌∷◌, ◌++◌, ℕ, ◌≤◌, length}
use borrow.Author.Rules.{rules}
use mir.Syntax.{w64}
use mir.Val.{SFits}
use lib.IntN.{ℤ, pos}
use lib.ListN.{get_or}
use Rattle.exact.specs.Fit.{arg}
use Rattle.decimals.specs.Puts.{puts-nothing, puts-same}
use Rattle.hpgl.specs.Replies.{text_of}
use Rattle.replies.proofs.Numbers.{room, more, done, text-none, text-next, text-last}
use Rattle.replies.proofs.writing.put_numbers.Goals as goal

pub returns-in_default : goal.returns-in_default
returns-in_default c = puts-same (sym (text-none c.args.numbers.now c.in_default.ensures.cases)) (puts-nothing c.args.out.now (omega arith))

-- the buffer holds the text of the others and the last
fits : {numbers : List ℤ} (others : List ℤ) (last : ℤ) {size : ℕ} → numbers ≡ others ++ (last ∷ []) → length (text_of numbers) ≤ size → length (text_of (others ++ (last ∷ []))) ≤ size
fits others last {size} e h = subst (λ (zs : List ℤ). length (text_of zs) ≤ size) e h

pub put_whole-end-requires : goal.put_whole-end-requires
put_whole-end-requires c =
    let f : SFits w64 (get_or c.in-Some.others.now c.loop-z.z-index (pos 0)) = search rules in
    rw (arg w64 f).is
    (room c.loop-z.invariant _ _ (text-next c.in-Some.others.now c.in-Some.last.now c.loop-z.z-index c.loop-z-test.true) (fits c.in-Some.others.now c.in-Some.last.now c.in-Some.ensures.cases.0 c.requires))

pub loop-z-preserved : goal.loop-z-preserved
loop-z-preserved c =
    let f : SFits w64 (get_or c.in-Some.others.now c.loop-z.z-index (pos 0)) = search rules in
    more c.loop-z.invariant _ _ (text-next c.in-Some.others.now c.in-Some.last.now c.loop-z.z-index c.loop-z-test.true) (rw (arg w64 f).is at c.put_whole-end.ensures)

pub put_whole-end-requires-2 : goal.put_whole-end-requires-2
put_whole-end-requires-2 c =
    let f : SFits w64 c.in-Some.last.now = search rules in
    rw (arg w64 f).is
    (room c.loop-z.invariant _ _ (text-last c.in-Some.others.now c.in-Some.last.now c.loop-z.z-index (omega (arith, c.loop-z-test.false))) (fits c.in-Some.others.now c.in-Some.last.now c.in-Some.ensures.cases.0 c.requires))

pub put_byte-requires : goal.put_byte-requires
put_byte-requires c =
    let f : SFits w64 c.in-Some.last.now = search rules in
    let l = more c.loop-z.invariant _ _ (text-last c.in-Some.others.now c.in-Some.last.now c.loop-z.z-index (omega (arith, c.loop-z-test.false))) (rw (arg w64 f).is at c.put_whole-end-2.ensures) in
    let one : 10 ∷ [] ≡ (10 ∷ []) ++ [] = refl in
    let h = room l (10 ∷ []) [] one (fits c.in-Some.others.now c.in-Some.last.now c.in-Some.ensures.cases.0 c.requires) in
    omega (arith, h)

pub returns : goal.returns
returns c =
    let f : SFits w64 c.in-Some.last.now = search rules in
    let l = more c.loop-z.invariant _ _ (text-last c.in-Some.others.now c.in-Some.last.now c.loop-z.z-index (omega (arith, c.loop-z-test.false))) (rw (arg w64 f).is at c.put_whole-end-2.ensures) in
    let one : 10 ∷ [] ≡ (10 ∷ []) ++ [] = refl in
    puts-same (ap text_of (sym c.in-Some.ensures.cases.0)) (done (more l (10 ∷ []) [] one c.put_byte.ensures))
