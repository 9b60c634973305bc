-- The proof of `chords`. The invariant: for every feed or plot that was so far at the start, how far it is now, with the chords from one on waiting.
use mathlib.Core.Path.{◌≡◌, refl, sym, ap, subst, ◌∙◌}
use Prim.Native.Nat.{ℕ, ◌+◌, ◌-◌, ◌/◌, ◌<◌}
use native.Mathlib.Omega.{arith}
use mathlib.Core.List.{List}
use lib.IntN.{ℤ}
use lib.ListN.{length}
use Rattle.clip.specs.Reach.{SmallRect}
use Rattle.turns.specs.Turn.{UnitRows}
use Rattle.turns.proofs.TurnLaws.{rows-unit}
use Rattle.hpgl.specs.declared.Circle.{Circle}
use Rattle.hpgl.specs.declared.Work.{Work}
use Rattle.hpgl.specs.declared.Work.TheVariants.{Nothing, Chords}
use Rattle.hpgl.specs.declared.Segment.TheVariants as segment
use Rattle.hpgl.specs.Machine.{waiting}
use Rattle.hpgl.specs.Segment.{drawn_of, SmallSegment}
use Rattle.hpgl.proofs.SegmentLaws.{segment-small}
use Rattle.hpgl.proofs.ValidFacts.{limits-small, fewer}
use Rattle.rulekit.specs.declared.places.Frame.{Frame}
use Rattle.queue.specs.Corners.{vertex_at}
use Rattle.gathering.specs.Gather.{chords_left}
use Rattle.gathering.specs.Far.{Batching, Drew}
use Rattle.gathering.proofs.Gathers.{far-fits, put-fits}
use Rattle.gathering.proofs.Chording.{chord, chords-some, chord-waits, far-chord, turned, limited, batched-chords}
use Rattle.gathering.proofs.chords.Goals as goal

chords-first : (o : Circle) (i n : ℕ) → 0 < n → chords_left o (i + 0) (n - 0) ≡ Chords o i n
chords-first o i n h =
    let a : i + 0 ≡ i = omega arith in
    let b : n - 0 ≡ n = omega arith in
    (λ j. chords_left o (a j) (b j)) ∙ chords-some o i n h

chords-none : (o : Circle) (i n : ℕ) → n ≡ 0 → chords_left o i n ≡ Nothing
unfolding chords_left
chords-none o i n e = rw e refl

chords-next : (o : Circle) (i n k : ℕ) → chords_left o (i + k + 1) (n - k - 1) ≡ chords_left o (i + (k + 1)) (n - (k + 1))
chords-next o i n k =
    let a : i + k + 1 ≡ i + (k + 1) = omega arith in
    let b : n - k - 1 ≡ n - (k + 1) = omega arith in
    λ j. chords_left o (a j) (b j)

-- some feed or plot that was so far at the start
module _ {now : List ℤ} {f : Frame} {pen : ℕ} {o : Circle} {i n before : ℕ} (d : Batching now f pen (Chords o i n) before) where
  rows-small : UnitRows f.rows
  rows-small = rw (turned d) (rows-unit d.far.valid.core.settings.turn)

  -- and is so far after k chords
  module _ {numbers : List ℤ} {count : ℕ} (k : ℕ) (far : Drew d numbers (chords_left o (i + k) (n - k)) count) where
    free : (count ≡ length now / 5 → ⊥) → count < length d.entry / 5
    free h = let room : length d.entry / 5 ≡ length now / 5 = ap (λ (n : ℕ). n / 5) (sym d.far.long) in omega (arith, h, far.room, room)

    left : k < n → Drew d numbers (Chords o (i + k) (n - k)) count
    left h = subst (λ (w : Work). Drew d numbers w count) (chords-some o (i + k) (n - k) (omega (arith, h))) far

pub vertex-corner-requires : goal.vertex-corner-requires
vertex-corner-requires c =
    let d = c.requires.0 in
    (rows-small d, fewer d.far.valid.work.0 _ 0 (omega arith) (omega arith), c.requires.2)

pub loop-k-init : goal.loop-k-init
loop-k-init c =
    let a = c.args in
    let first : a.from ≡ a.from + 0 = omega arith in (
      λ d. subst (λ (w : Work). Drew d a.numbers.now w a.before) (sym (chords-first a.circle a.from a.many (batched-chords d))) d.far,
      c.vertex-corner.ensures ∙ ap (vertex_at a.frame.rows a.circle) first,
      λ e. refl,
    )

pub returns-then-count-room : goal.returns-then-count-room
unfolding waiting
returns-then-count-room c =
    let apart : c.loop-k.k ≡ 0 → ⊥ = λ e. omega (arith, c.loop-k.invariant.2 e, c.if-count-room.true, c.requires.1) in
    record { work_bound = omega (arith, apart, c.loop-k-test.true); drew = λ d. left d c.loop-k.k (c.loop-k.invariant.0 d) c.loop-k-test.true }

pub vertex-end-requires : goal.vertex-end-requires
vertex-end-requires c =
    let d = c.requires.0 in
    (rows-small d, fewer d.far.valid.work.0 (c.args.from + c.loop-k.k + 1) 0 (omega arith) (omega (arith, c.loop-k-test.true)), c.requires.2)

pub drawn_of-drawn-requires : goal.drawn_of-drawn-requires
drawn_of-drawn-requires c =
    let a = c.args in
    let d = c.requires.0 in
    let i = a.from + c.loop-k.k in
    let n = a.many - c.loop-k.k in
    let some : 0 < n = omega (arith, c.loop-k-test.true) in
    let drawn : segment.Line c.loop-k.corner c.vertex-end.result ≡ chord a.frame.rows a.circle i = λ j. segment.Line (c.loop-k.invariant.1 j) (c.vertex-end.ensures j) in (
      subst SmallRect (sym (limited d)) (limits-small d.far.valid.core.settings),
      subst SmallSegment (sym (drawn ∙ chord-waits d.reader d.core d.store (turned d) a.circle i n some)) (segment-small (left d c.loop-k.k (c.loop-k.invariant.0 d) c.loop-k-test.true).valid),
    )

pub put-count-requires : goal.put-count-requires
put-count-requires c =
    let d = c.requires.0 in
    let far = c.loop-k.invariant.0 d in
    put-fits _ _ _ (far-fits far (free d c.loop-k.k far c.if-count-room.false))

pub loop-k-preserved : goal.loop-k-preserved
loop-k-preserved c =
    let a = c.args in
    let k = c.loop-k.k in
    let i = a.from + k in
    let n = a.many - k in
    let some : 0 < n = omega (arith, c.loop-k-test.true) in
    let next : a.from + k + 1 ≡ a.from + (k + 1) = omega arith in
    let drawn : segment.Line c.loop-k.corner c.vertex-end.result ≡ chord a.frame.rows a.circle i = λ j. segment.Line (c.loop-k.invariant.1 j) (c.vertex-end.ensures j) in (
      λ d.
          let far = c.loop-k.invariant.0 d in
          subst (λ (w : Work). Drew d c.put-count.new.numbers w c.put-count.result) (chords-next a.circle a.from a.many k)
          (far-chord d.reader d.core d.store (turned d) (limited d) d.held a.circle i n some far (free d c.loop-k.k far c.if-count-room.false)
          (c.drawn_of-drawn.ensures ∙ ap (drawn_of a.frame.limits a.pen) drawn) c.put-count.ensures.numbers_after c.put-count.ensures.value),
      c.vertex-end.ensures ∙ ap (vertex_at a.frame.rows a.circle) next,
      λ h. absurd (omega (arith, h)),
    )

pub returns : goal.returns
unfolding waiting
returns c =
    let a = c.args in
    let k = c.loop-k.k in
    let none : a.many - k ≡ 0 = omega (arith, c.loop-k-test.false) in
    record {
      work_bound = batched-chords c.requires.0;
      drew = λ d. subst (λ (w : Work). Drew d c.loop-k.numbers w c.loop-k.count) (chords-none a.circle (a.from + k) (a.many - k) none) (c.loop-k.invariant.0 d);
    }
