-- Each turn does a piece, and what is left comes to the same.
use borrow.Author.Rules.{rules}
use mathlib.Core.Path.{◌≡◌, refl, sym, ap, ◌∙◌}
use mathlib.Core.List.{List}
use Prim.Native.Nat.{ℕ, suc, ◌+◌, ◌-◌, ◌≤◌, ◌<◌}
use native.Mathlib.Omega.{arith}
use lib.ListN.{length, take, drop, length-drop}
use Rattle.scanning.specs.Pieces.{piece_of}
use Rattle.scanning.specs.Laws.{piece-within}
use Rattle.surveying.specs.States.{WatchedAt, watched_by}
use Rattle.surveying.specs.Drawing.{piece_done, watched_from, watched_of}
use Rattle.surveying.specs.PieceLaws.{watched-one, watched-end, watched-none}
use Rattle.surveying.specs.StrokeLaws.{traced-end, traced-piece}
use Rattle.surveying.proofs.pieces.Goals as goal

-- the next piece is within the block
inside : (mode escape : ℕ) (block : List ℕ) (at n : ℕ) → at < length block → n ≡ piece_of mode escape (drop at block) → at + n ≤ length block
inside mode escape block at n h e = omega (arith, e, length-drop at block, (piece-within mode escape (drop at block) (omega (arith, length-drop at block))).1)

pub loop-turn-init : goal.loop-turn-init
loop-turn-init c =
    let p : length c.args.block.now - 0 ≡ length c.args.block.now = omega arith in
    (ap (λ (k : ℕ). watched_from k (watched_by c.args.w) c.args.block.now) (sym p), c.requires, refl, omega arith, refl)

pub returns-then-block-at : goal.returns-then-block-at
unfolding watched_of
returns-then-block-at c =
    record { value = (sym (c.loop-turn.invariant.0 ∙ watched-end (length c.args.block.now - c.loop-turn.turn) (watched_by c.loop-turn.far) c.args.block.now c.loop-turn.at c.if-block-at.true), c.loop-turn.invariant.1); lines_after = sym (c.loop-turn.invariant.4 ∙ traced-end c.loop-turn.lines c.loop-turn.far.drawing.machine.state c.args.block.now c.loop-turn.at c.if-block-at.true) }

pub overflow_add-at : goal.overflow_add-at
overflow_add-at c =
    let h = inside c.loop-turn.far.mode c.loop-turn.far.escapes.state c.args.block.now c.loop-turn.at c.piece-n.result (omega (arith, c.if-block-at.false)) c.piece-n.ensures in
    search (rules, h)

pub slice_bounds-piece_of-end : goal.slice_bounds-piece_of-end
slice_bounds-piece_of-end c =
    let h = inside c.loop-turn.far.mode c.loop-turn.far.escapes.state c.args.block.now c.loop-turn.at c.piece-n.result (omega (arith, c.if-block-at.false)) c.piece-n.ensures in
    search (rules, h)

pub overflow_add-at-in-loop-turn : goal.overflow_add-at-in-loop-turn
overflow_add-at-in-loop-turn c =
    let h = inside c.loop-turn.far.mode c.loop-turn.far.escapes.state c.args.block.now c.loop-turn.at c.piece-n.result (omega (arith, c.if-block-at.false)) c.piece-n.ensures in
    search (rules, h)

pub loop-turn-preserved : goal.loop-turn-preserved
loop-turn-preserved c =
    let l = c.loop-turn in
    let n = c.piece-n in
    let p = c.piece_of-far in
    let block = c.args.block.now in
    let at = l.at in
    let far = watched_by l.far in
    let size = n.result in
    let fuel = length block - l.turn in
    let left : fuel ≡ suc (fuel - 1) = omega (arith, c.loop-turn-test.true) in
    let next : fuel - 1 ≡ length block - (l.turn + 1) = omega arith in
    let all : at + size - at ≡ size = omega arith in
    let some = (piece-within far.mode far.escapes.state (drop at block) (omega (arith, length-drop at block, c.if-block-at.false))).0 in (
      l.invariant.0 ∙ ap (λ (k : ℕ). watched_from k far (drop at block)) left
          ∙ watched-one (fuel - 1) far block at (omega (arith, c.if-block-at.false))
          ∙ (λ i. watched_from (fuel - 1) (piece_done far (take (sym n.ensures i) (drop at block))) (drop (at + sym n.ensures i) block))
          ∙ ap (λ (k : ℕ). watched_from (fuel - 1) (piece_done far (take k (drop at block))) (drop (at + size) block)) (sym all)
          ∙ ap (λ (r : WatchedAt). watched_from (fuel - 1) r (drop (at + size) block)) (sym p.ensures.value.0)
          ∙ ap (λ (k : ℕ). watched_from k (watched_by p.result) (drop (at + size) block)) next,
      p.ensures.value.1,
      p.auto.lines ∙ l.invariant.2,
      omega (arith, l.invariant.3, c.loop-turn-test.true, n.ensures, some),
      l.invariant.4 ∙ traced-piece l.lines far block at size all p.ensures.lines_after p.ensures.value.0,
    )

pub returns : goal.returns
unfolding watched_of
returns c =
    let z : length c.args.block.now - c.loop-turn.turn ≡ 0 = omega arith in
    let rest = drop c.loop-turn.at c.args.block.now in
    record { value = (sym (c.loop-turn.invariant.0 ∙ ap (λ (k : ℕ). watched_from k (watched_by c.loop-turn.far) rest) z ∙ watched-none (watched_by c.loop-turn.far) rest), c.loop-turn.invariant.1); lines_after = sym (c.loop-turn.invariant.4 ∙ traced-end c.loop-turn.lines c.loop-turn.far.drawing.machine.state c.args.block.now c.loop-turn.at (omega (arith, z, c.loop-turn.invariant.3))) }
