-- The proof of `queued`: by its arms. A valid circle has at most 720 chords.
use mathlib.Core.Path.{◌≡◌, ap, ◌∙◌, subst}
use Prim.Native.Nat.{ℕ, ◌≤◌}
use native.Mathlib.Omega.{arith}
use lib.IntN.{ℤ}
use mir.Syntax.{w64}
use mir.Val.{to_z, of_z}
use Rattle.exact.specs.Fit.{val, sized}
use Rattle.plane.specs.Arc.{parts_of}
use Rattle.hpgl.specs.declared.Circle.{Circle}
use Rattle.hpgl.specs.Valid.{most_chords, ValidAction, WholeCircle}
use Rattle.hpgl.proofs.ValidFacts.{chords-most}
use Rattle.queue.proofs.storing.queued.Goals as goal

pub parts-requires : goal.parts-requires
parts-requires c =
    let w : WholeCircle c.in-Chords.o = subst (ValidAction 0) c.in-Chords.is c.requires in
    (sized (val w64 w.sweep tt) tt, omega (arith, w.least), w.most)

-- how many there are, as the code finds it
count : {o : Circle} {n : ℕ} → WholeCircle o → n ≡ parts_of (to_z w64 (of_z w64 o.sweep)) o.angle → n ≡ parts_of o.sweep o.angle
count {o} w e = e ∙ ap (λ (x : ℤ). parts_of x o.angle) (val w64 w.sweep tt).is

pub overflow_cast-result : goal.overflow_cast-result
overflow_cast-result c =
    let w : WholeCircle c.in-Chords.o = subst (ValidAction 0) c.in-Chords.is c.requires in
    let k : c.parts.result ≤ most_chords = rw (count w c.parts.ensures) (chords-most w) in
    record { fits = omega (arith, k) }
