-- The proof of `round`: the quick answer is right where it is yes; else the vertices are tested that wait.
use mathlib.Core.Path.{◌≡◌, refl, sym, ap, ◌∙◌}
use mathlib.Core.Bool.{true}
use Prim.Native.Nat.{ℕ, zero, suc, ◌+◌}
use native.Mathlib.Omega.{arith}
use lib.IntN.{ℤ, pos}
use mir.Syntax.{w64}
use mir.Val.{to_z, of_z}
use Rattle.exact.specs.Whole.{◌<ᶻ◌}
use Rattle.exact.specs.Fit.{val, sized}
use Rattle.plane.specs.Arc.{round_fits, fits_from}
use Rattle.plane.proofs.ArcLaws.{round-fits}
use Rattle.hpgl.specs.declared.Circle.{Circle}
use Rattle.wellformed.specs.Sound.{round_of}
use Rattle.soundness.proofs.work.round.Goals as goal
use Rattle.soundness.proofs.work.round.Lts
use Rattle.soundness.proofs.work.round.Tie
use Rattle.soundness.proofs.work.round.Reads

abbrev Start : Type 0
Start = Lts.Start Tie.the-claims Reads.Pre Reads.Post

-- the quick answer
quick : (o : Circle) (i n : ℕ) → pos 0 <ᶻ o.x.width → pos 0 <ᶻ o.y.width → round_fits o.x o.y o.radius ≡ true → round_of o i n ≡ true
unfolding round_of
quick o zero n hx hy e = round-fits o.x o.y o.radius o.sweep o.angle 1 n hx hy e
quick o (suc i) n hx hy e = round-fits o.x o.y o.radius o.sweep o.angle (suc i) (n + 1) hx hy e

-- from the start, and from a later vertex
at-start : (o : Circle) (i n : ℕ) → i ≡ 0 → fits_from o.x o.y o.radius o.sweep o.angle 1 n ≡ round_of o i n
unfolding round_of
at-start o zero n e = refl
at-start o (suc i) n e = absurd (omega (arith, e))

later : (o : Circle) (i n : ℕ) → (i ≡ 0 → ⊥) → fits_from o.x o.y o.radius o.sweep o.angle i (n + 1) ≡ round_of o i n
unfolding round_of
later o zero n h = absurd (h refl)
later o (suc i) n h = refl

pub returns-then-round_fits : goal.returns-then-round_fits
returns-then-round_fits c =
    sym (quick c.args.o c.args.i c.args.n c.requires.0.some c.requires.1.some (sym c.round_fits.ensures ∙ c.if-round_fits.true))

pub each_fits-requires : goal.each_fits-requires
each_fits-requires c =
    (c.requires.0, c.requires.1, c.requires.2, c.table-sines.ensures, sized (val w64 c.requires.3 tt) tt, c.requires.4, c.requires.5, omega (arith, c.requires.7))

-- the sweep, as it was handed over
read : (s : Start) (i n : ℕ) → let o = s.args.o in
    fits_from o.x o.y o.radius (to_z w64 (of_z w64 o.sweep)) o.angle i n ≡ fits_from o.x o.y o.radius o.sweep o.angle i n
read s i n = let o = s.args.o in ap (λ (x : ℤ). fits_from o.x o.y o.radius x o.angle i n) (val w64 s.requires.3 tt).is

pub returns-then-from-eq0 : goal.returns-then-from-eq0
returns-then-from-eq0 c =
    let s = c.before.before.before.before.before.before.before.before.before.before.before in
    c.each_fits.ensures ∙ read s 1 s.args.n ∙ at-start s.args.o s.args.i s.args.n c.if-from-eq0.true

pub overflow_add-many : goal.overflow_add-many
overflow_add-many c = record { fits = omega (arith, c.requires.7) }

pub each_fits-requires-2 : goal.each_fits-requires-2
each_fits-requires-2 c =
    (c.requires.0, c.requires.1, c.requires.2, c.table-sines.ensures, sized (val w64 c.requires.3 tt) tt, c.requires.4, c.requires.5, omega (arith, c.requires.6, c.requires.7))

pub returns : goal.returns
returns c =
    let s = c.before.before.before.before.before.before.before.before.before.before.before in
    c.each_fits-2.ensures ∙ read s s.args.i (s.args.n + 1) ∙ later s.args.o s.args.i s.args.n c.if-from-eq0.false
