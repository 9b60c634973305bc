-- The proof of `room`.
use mathlib.Core.Path.{sym, ap, ◌∙◌, subst}
use lib.IntN.{ℤ, pos}
use mir.Syntax.{w64}
use Rattle.exact.specs.Fit.{num, lt?-is, got, put, neg, val, fit, abs_neg}
use Prim.Native.Nat.{ℕ, ◌/◌}
use Rattle.exact.specs.Whole.{◌<ᶻ◌, <?-true, <?-false}
use Rattle.exact.specs.Divide.{floor_div}
use Rattle.exact.specs.Nearest.{neg-pos, pos_of}
use Rattle.wellformed.specs.Sound.{room_of}
use Rattle.soundness.proofs.places.room.Goals as goal

pub overflow_sub-a : goal.overflow_sub-a
overflow_sub-a c = fit w64 (neg (val w64 c.requires.span tt)) tt

pub floor_div-requires : goal.floor_div-requires
floor_div-requires c =
    let d = put w64 (neg (val w64 c.requires.span tt)) tt in
    subst (λ (x : ℤ). pos 0 <ᶻ x) (sym d.is) (neg-pos (<?-true c.args.a.span (pos 0) (lt?-is (val w64 c.requires.span tt) (num (pos 0)) c.if-a-lt0.true)))

pub returns-then-a-lt0 : goal.returns-then-a-lt0
unfolding room_of
returns-then-a-lt0 c =
    got w64 c.floor_div.type_inv ∙ c.floor_div.ensures ∙ ap (floor_div (pos 2000000000000000)) (put w64 (neg (val w64 c.requires.span tt)) tt).is ∙ ap (λ (n : ℕ). pos (2000000000000000 / n)) (abs_neg c.args.a.span)

pub floor_div-requires-2 : goal.floor_div-requires-2
floor_div-requires-2 c =
    let d = val w64 c.requires.span tt in
    subst (λ (x : ℤ). pos 0 <ᶻ x) (sym d.is) (pos_of (<?-false c.args.a.span (pos 0) (lt?-is d (num (pos 0)) c.if-a-lt0.false)) c.requires.moves)

pub returns : goal.returns
unfolding room_of
returns c =
    got w64 c.floor_div-2.type_inv ∙ c.floor_div-2.ensures ∙ ap (floor_div (pos 2000000000000000)) (val w64 c.requires.span tt).is
