-- The proof of `iw_rule`: what two numbers give in absolute mode may be located.
use mathlib.Core.Path.{refl, sym, subst}
use borrow.Author.Tests.{eq-eqb, ne_eqb}
use Rattle.reader.specs.Sizes.{SmallPair}
use Rattle.hpgl.specs.Rules.{iw_rule}
use Rattle.hpgl.proofs.ValidFacts.{absolute-locatable}
use Rattle.settings.proofs.iw_rule.Goals as goal

pub returns-then-n-eq0 : goal.returns-then-n-eq0
unfolding iw_rule
returns-then-n-eq0 c =
    simp (c.done.ensures, c.with_settings.ensures, c.with_window-unlimited.ensures, c.no_window.ensures, eq-eqb _ _ c.if-n-eq0.true) refl

pub absolute_position-requires : goal.absolute_position-requires
absolute_position-requires c =
    (c.requires.0.settings, subst SmallPair (sym c.first_two.ensures) (record { x = c.requires.1.first; y = c.requires.1.second }))

pub located-p-requires : goal.located-p-requires
located-p-requires c =
    (c.requires.0.settings, rw (c.absolute_position.ensures, c.first_two.ensures) (absolute-locatable c.requires.0.settings (record { x = c.requires.1.first; y = c.requires.1.second })))

pub absolute_position-requires-2 : goal.absolute_position-requires-2
absolute_position-requires-2 c =
    (c.requires.0.settings, subst SmallPair (sym c.last_two.ensures) (record { x = c.requires.1.third; y = c.requires.1.fourth }))

pub located-q-requires : goal.located-q-requires
located-q-requires c =
    (c.requires.0.settings, rw (c.absolute_position-2.ensures, c.last_two.ensures) (absolute-locatable c.requires.0.settings (record { x = c.requires.1.third; y = c.requires.1.fourth })))

pub returns : goal.returns
unfolding iw_rule
returns c =
    simp (c.set_window.ensures, c.located-p.ensures, c.absolute_position.ensures, c.first_two.ensures, c.located-q.ensures, c.absolute_position-2.ensures, c.last_two.ensures, ne_eqb _ _ c.if-n-eq0.false) refl
