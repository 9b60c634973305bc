-- Each segment that the model adds is located: its whole ends are within a half of its exact ends, and its pen is the one in hand.
-- Why: the model makes every segment by `segment`, which rounds and then turns; rounding is within a half, and a turn keeps that.
use Rattle.std.specs.Prelude.{◌≡◌, Bool, cond, ◌||◌}
use Rattle.std.proofs.Math.Path.{refl}
use Rattle.std.proofs.Math.Bool.{true, false}
use mathlib.Core.List.{List, [], ◌∷◌, ◌++◌}
use Prim.Native.Nat.{ℕ, zero, suc, ◌+◌, ◌<◌}
use Rattle.std.proofs.Math.Dec.{eqb}
use Rattle.std.proofs.lemmas.Bool.{eqb-false}
use Rattle.clip.specs.Line.{Exact, nearest}
use Rattle.clip.proofs.Nearness.{nearest-rounds}
use Rattle.reader.specs.declared.Numbers.{Numbers}
use Rattle.reader.specs.declared.Event.{Event}
use Rattle.reader.specs.declared.Event.TheVariants.{Nothing, Named, Pair, Ended, Refused}
use Rattle.mnemonics.specs.Table.{EP, CI, EA, ER, AA, AR}
use Rattle.turns.specs.Turn.{turn_count}
use Rattle.turns.proofs.BoxLaws.{turned-rounds}
use Rattle.hpgl.proofs.Cases.{pick}
use Rattle.hpgl.specs.declared.Position.{Position}
use Rattle.hpgl.specs.declared.Core.{Core}
use Rattle.hpgl.specs.ExactModel.{PolygonPoint, Subpolygon, ExactPolygon, ExactSegment, exact_segment, sides_from, sides, all_sides, outline, path, inked_only, move, arc_moves, instructed, added}
use Rattle.hpgl.specs.Related.{Located, AllLocated, none, more}
use Rattle.hpgl.proofs.Steps.{added_by}

module _ (d : Core) (t : d.settings.turn < turn_count) where
  abbrev All : List ExactSegment → Type 0
  All gs = AllLocated d.carriage.pen.number gs

  module _ (ink : d.carriage.pen.number ≡ 0 → ⊥) where
    located-segment : (e f : Exact) (owed : Bool) → Located d.carriage.pen.number (exact_segment d e f owed)
    unfolding exact_segment
    located-segment e f owed = record {
      number = refl;
      ink = ink;
      from = turned-rounds e (nearest e) d.settings.turn t (nearest-rounds e);
      to = turned-rounds f (nearest f) d.settings.turn t (nearest-rounds f);
    }

    located-from : (p : PolygonPoint) (ps : Subpolygon) → All (sides_from d p ps)
    unfolding sides_from
    located-from p [] = none
    located-from p (q ∷ ps) = more (located-segment p.exact q.exact q.down) (located-from q ps)

    located-sides : (ps : Subpolygon) → All (sides d ps)
    unfolding sides
    located-sides [] = none
    located-sides (p ∷ ps) = located-from p ps

    located-append : {xs ys : List ExactSegment} → All xs → All ys → All (xs ++ ys)
    located-append none k = k
    located-append (more l h) k = more l (located-append h k)

    located-all : (ss : List Subpolygon) → All (all_sides d ss)
    unfolding all_sides
    located-all [] = none
    located-all (s ∷ ss) = located-append (located-sides s) (located-all ss)

    located-outline : (g : ExactPolygon) → All (outline d g)
    unfolding outline
    located-outline g = located-append (located-all g.ended) (located-sides g.current)

    located-path : (v : ℕ → Exact) (i n : ℕ) → All (path d v i n)
    unfolding path
    located-path v i zero = none
    located-path v i (suc n) = more (located-segment _ _ true) (located-path v (i + 1) n)

  -- "Pen 0 queues nothing."
  located-inked : {xs : List ExactSegment} → ((d.carriage.pen.number ≡ 0 → ⊥) → All xs) → All (inked_only d xs)
  unfolding inked_only
  located-inked {xs} h = go (eqb d.carriage.pen.number 0) refl
    where
      go : (b : Bool) → eqb d.carriage.pen.number 0 ≡ b → All (cond b [] xs)
      go true e = none
      go false e = h (eqb-false d.carriage.pen.number 0 e)

  located-arc : (c : Core) (q : Position) (n : Numbers) → All (arc_moves c d q n)
  unfolding arc_moves
  located-arc c q n = pick All d.carriage.pen.down (located-inked (λ i. located-path i _ 0 _)) none

  located-added : (c : Core) (e : Event) (g : ExactPolygon) → All (added c d e g)
  unfolding added move instructed
  located-added c Nothing g = none
  located-added c (Named op) g = none
  located-added c (Pair p) g =
      pick All d.carriage.polygon.mode none (pick All d.carriage.pen.down (located-inked (λ i. more (located-segment i _ _ true) none)) none)
  located-added c (Ended op n) g =
      pick All (eqb op EP || eqb op EA || eqb op ER) (located-inked (λ i. located-outline i g))
      (pick All (eqb op CI) (located-inked (λ i. located-path i _ 0 _)) (pick All (eqb op AA) (located-arc c _ n) (pick All (eqb op AR) (located-arc c _ n) none)))
  located-added c (Refused k) g = none

  pub located-by : (c : Core) (e : Event) (n : ℕ) (g : ExactPolygon) → All (added_by c d e n g)
  unfolding added_by
  located-by c e zero g = located-added c e _
  located-by c e (suc n) g = none
