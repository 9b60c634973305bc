-- The proof of `placed`: by its tests, axis by axis.
use Rattle.std.proofs.Common.{◌≡◌, sym, ap, ◌∙◌, subst, Bool}
use Rattle.plane.specs.declared.position.Axis.{Axis}
use Rattle.plane.specs.declared.position.ExactPosition.{ExactPosition}
use Rattle.plane.specs.Bounds.{AxisBounds}
use Rattle.hpgl.specs.Place.{in_range}
use Rattle.hpgl.proofs.ValidFacts.{axis-bounds-x, axis-bounds-y}
use Rattle.wellformed.proofs.PartLaws.{locatable-true}
use Rattle.wellformed.specs.Sound.{locatable_of, placed_of}
use Rattle.soundness.proofs.places.placed.Goals as goal
use Rattle.soundness.proofs.places.placed.Goals.{then-locatable, else-locatable}

-- a test of an axis as it was found
here : {a b : Axis} {t u : Bool} (p : ExactPosition) → a ≡ b → t ≡ locatable_of a p → t ≡ u → locatable_of b p ≡ u
here p e f h = sym (f ∙ ap (λ (a : Axis). locatable_of a p) e) ∙ h

pub locatable-requires : goal.locatable-requires
locatable-requires c = subst AxisBounds (sym c.axis_x.ensures) (axis-bounds-x c.requires)

pub locatable-requires-then-locatable : goal.locatable-requires-then-locatable
locatable-requires-then-locatable c = subst AxisBounds (sym c.axis_y.ensures) (axis-bounds-y c.requires)

pub located-requires : goal.located-requires
located-requires c = elim c.if-locatable.branch [
  | then-locatable w ↦ (
    c.requires,
    record {
      x = locatable-true (axis-bounds-x c.requires) (here c.args.p.x c.axis_x.ensures c.locatable.ensures w.if-locatable.true);
      y = locatable-true (axis-bounds-y c.requires) (here c.args.p.y w.axis_y.ensures w.locatable-then-locatable.ensures (sym w.value-is ∙ c.if-locatable-2.true));
    },
  )
  | else-locatable w ↦ absurd (cc)
]

pub returns-then-locatable-2 : goal.returns-then-locatable-2
unfolding placed_of
returns-then-locatable-2 c = elim c.if-locatable.branch [
  | then-locatable w ↦
      rw (here c.args.p.x c.axis_x.ensures c.locatable.ensures w.if-locatable.true, here c.args.p.y w.axis_y.ensures w.locatable-then-locatable.ensures (sym w.value-is ∙ c.if-locatable-2.true))
      (c.reachable.ensures ∙ ap in_range c.located.ensures)
  | else-locatable w ↦ absurd (cc)
]

pub returns-else-locatable-2 : goal.returns-else-locatable-2
unfolding placed_of
returns-else-locatable-2 c = elim c.if-locatable.branch [
  | then-locatable w ↦
      rw (here c.args.p.x c.axis_x.ensures c.locatable.ensures w.if-locatable.true, here c.args.p.y w.axis_y.ensures w.locatable-then-locatable.ensures (sym w.value-is ∙ c.if-locatable-2.false))
      c.if-locatable-2.false
  | else-locatable w ↦ rw (here c.args.p.x c.axis_x.ensures c.locatable.ensures w.if-locatable.false) c.if-locatable-2.false
]
