-- The proof of `sc_rule`: by its tests; the turn stays.
use mathlib.Core.Path.{refl}
use borrow.Author.Tests.{eq-eqb, ne_eqb}
use Rattle.exact.specs.Fit.{fits, eq64-t, eq64-f}
use Rattle.hpgl.specs.Rules.{sc_rule}
use Rattle.settings.proofs.sc_rule.Goals as goal
use Rattle.settings.proofs.sc_rule.Goals.{then-n-via-then-n, then-n-via-else-n+then-n-2}

pub settled-requires : goal.settled-requires
settled-requires c = (c.requires.0, rw c.with_scale.ensures c.requires.0.settings.turn)

pub returns-then-n-eq0 : goal.returns-then-n-eq0
unfolding sc_rule
returns-then-n-eq0 c =
    simp (c.settled.ensures, c.with_scale.ensures, c.unscaled.ensures, eq-eqb _ _ c.if-n-eq0.true) refl

pub returns-then-n : goal.returns-then-n
unfolding sc_rule
returns-then-n c =
    let n = c.requires.1 in
    let some = ne_eqb _ _ c.if-n-eq0.false in
    elim c.then-n.branch [
      | then-n-via-then-n w ↦ simp (c.refuse.ensures, some, eq64-t _ _ (fits n.first tt) (fits n.second tt) w.if-n.true) refl
      | then-n-via-else-n+then-n-2 w ↦
          simp (
            c.refuse.ensures,
            some,
            eq64-f _ _ (fits n.first tt) (fits n.second tt) w.if-n.false,
            eq64-t _ _ (fits n.third tt) (fits n.fourth tt) w.if-n-2.true,
          )
          refl
    ]

pub settled-requires-2 : goal.settled-requires-2
settled-requires-2 c = (c.requires.0, rw c.with_scale-2.ensures c.requires.0.settings.turn)

pub returns : goal.returns
unfolding sc_rule
returns c =
    let n = c.requires.1 in
    simp (
      c.settled-2.ensures,
      c.with_scale-2.ensures,
      c.scale_of.ensures,
      ne_eqb _ _ c.if-n-eq0.false,
      eq64-f _ _ (fits n.first tt) (fits n.second tt) c.if-n.false,
      eq64-f _ _ (fits n.third tt) (fits n.fourth tt) c.if-n-2.false,
    )
    refl
