-- The proof of `locatable`.
use borrow.Author.Rules.{rules}
use mathlib.Core.Path.{refl, sym, ap, ◌∙◌}
use lib.IntN.{nat_abs}
use mir.Syntax.{w64}
use mir.Val.{SFits}
use Rattle.exact.specs.Fit.{arg, le?-is, m64, Bd, Num, ret, put, neg, fit}
use native.Mathlib.Nat.{div-le_self}
use Rattle.plane.specs.declared.position.Axis.{Axis}
use Rattle.plane.specs.Position.{in_range_of}
use Rattle.wellformed.specs.Sound.{room_of, locatable_of}
use Rattle.soundness.proofs.places.locatable.Goals as goal
use Rattle.soundness.proofs.places.locatable.Lts
use Rattle.soundness.proofs.places.locatable.Tie
use Rattle.soundness.proofs.places.locatable.Reads

abbrev After-room-most : Type 0
After-room-most = Lts.After-room Tie.the-claims Reads.Pre Reads.Post

abbrev Start : Type 0
Start = Lts.Start Tie.the-claims Reads.Pre Reads.Post

base : (s : Start) → SFits w64 s.args.p.base
base s = search rules

offset : (s : Start) → SFits w64 s.args.p.offset
offset s = search rules

room-size : (a : Axis) → Bd (room_of a) 2000000000000000
unfolding room_of
room-size a = record { bd = div-le_self 2000000000000000 (nat_abs a.span) }

most : (m : After-room-most) → Num (m64 m.room-most.result) (room_of m.args.a) 2000000000000000
most m = ret w64 m.room-most.type_inv m.room-most.ensures (room-size m.args.a)

pub overflow_sub-most : goal.overflow_sub-most
overflow_sub-most c = let m = c.before.before.before.before in fit w64 (neg (most m)) tt

pub returns-then-most-p : goal.returns-then-most-p
unfolding locatable_of
returns-then-most-p c =
    let s = c.before.before.before.before.before.before.before.before.before in
    let m = c.before.before.before.before.before.before.before.before in
    rw (sym (c.in_range.ensures ∙ ap in_range_of (arg w64 (base s)).is) ∙ c.if-in_range.true, le?-is (put w64 (neg (most m)) tt) (arg w64 (offset s)) c.if-most-p.true) (sym (le?-is (arg w64 (offset s)) (most m) refl))

pub returns-then-in_range : goal.returns-then-in_range
unfolding locatable_of
returns-then-in_range c =
    let s = c.before.before.before.before.before.before.before in
    let m = c.before.before.before.before.before.before in
    rw (sym (c.in_range.ensures ∙ ap in_range_of (arg w64 (base s)).is) ∙ c.if-in_range.true, le?-is (put w64 (neg (most m)) tt) (arg w64 (offset s)) c.if-most-p.false) refl

pub returns : goal.returns
unfolding locatable_of
returns c =
    let s = c.before.before.before.before in
    rw (sym (c.in_range.ensures ∙ ap in_range_of (arg w64 (base s)).is) ∙ c.if-in_range.false) refl
