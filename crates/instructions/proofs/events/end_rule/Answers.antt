-- The proof of `end_rule`: by the instruction.
use mathlib.Core.Path.{refl}
use borrow.Author.Rules.{rules}
use borrow.Author.Tests.{ne_eqb}
use Rattle.hpgl.specs.Rules.{end_rule}
use Rattle.instructions.proofs.events.end_rule.Goals as goal

pub returns-in-4 : goal.returns-in-4
unfolding end_rule
returns-in-4 c = simp (c.in_rule.ensures, c.in-4.is) refl

pub returns-in-5 : goal.returns-in-5
unfolding end_rule
returns-in-5 c = simp (c.df_rule.ensures, c.in-5.is) refl

pub returns-in-6 : goal.returns-in-6
unfolding end_rule
returns-in-6 c = simp (c.ep_rule.ensures, c.in-6.is) refl

pub returns-in-7 : goal.returns-in-7
unfolding end_rule
returns-in-7 c = simp (c.ip_rule.ensures, c.in-7.is) refl

pub returns-in-8 : goal.returns-in-8
unfolding end_rule
returns-in-8 c = simp (c.sc_rule.ensures, c.in-8.is) refl

pub returns-in-9 : goal.returns-in-9
unfolding end_rule
returns-in-9 c = simp (c.iw_rule.ensures, c.in-9.is) refl

pub returns-in-10 : goal.returns-in-10
unfolding end_rule
returns-in-10 c = simp (c.ro_rule.ensures, c.in-10.is) refl

pub returns-in-11 : goal.returns-in-11
unfolding end_rule
returns-in-11 c = simp (c.sp_rule.ensures, c.in-11.is) refl

pub returns-in-12 : goal.returns-in-12
unfolding end_rule
returns-in-12 c = simp (c.pm_rule.ensures, c.in-12.is) refl

pub returns-in-13 : goal.returns-in-13
unfolding end_rule
returns-in-13 c = simp (c.ci_rule.ensures, c.in-13.is) refl

pub returns-in-14 : goal.returns-in-14
unfolding end_rule
returns-in-14 c = simp (c.ea_rule.ensures, c.in-14.is) refl

pub returns-in-15 : goal.returns-in-15
unfolding end_rule
returns-in-15 c = simp (c.er_rule.ensures, c.in-15.is) refl

pub returns-in-16 : goal.returns-in-16
unfolding end_rule
returns-in-16 c = simp (c.aa_rule.ensures, c.in-16.is) refl

pub returns-in-17 : goal.returns-in-17
unfolding end_rule
returns-in-17 c = simp (c.ar_rule.ensures, c.in-17.is) refl

pub returns-in-18 : goal.returns-in-18
unfolding end_rule
returns-in-18 c = simp (c.oa_rule.ensures, c.in-18.is) refl

pub returns-in-19 : goal.returns-in-19
unfolding end_rule
returns-in-19 c = simp (c.op_rule.ensures, c.in-19.is) refl

pub returns-in-20 : goal.returns-in-20
unfolding end_rule
returns-in-20 c = simp (c.ow_rule.ensures, c.in-20.is) refl

pub returns-in-21 : goal.returns-in-21
unfolding end_rule
returns-in-21 c = simp (c.oh_rule.ensures, c.in-21.is) refl

pub returns-in-22 : goal.returns-in-22
unfolding end_rule
returns-in-22 c = simp (c.oe_rule.ensures, c.in-22.is) refl

pub returns-in_default : goal.returns-in_default
unfolding end_rule
returns-in_default c =
    let k = c.in_default.in_default-own.rest in
    simp (
      c.done.ensures,
      ne_eqb _ _ k.0.0.0.0.0.0.0.0.0.0.0.0.0.0.0.0.0.0.1,
      ne_eqb _ _ k.0.0.0.0.0.0.0.0.0.0.0.0.0.0.0.0.0.1,
      ne_eqb _ _ k.0.0.0.0.0.0.0.0.0.0.0.0.0.0.0.0.1,
      ne_eqb _ _ k.0.0.0.0.0.0.0.0.0.0.0.0.0.0.0.1,
      ne_eqb _ _ k.0.0.0.0.0.0.0.0.0.0.0.0.0.0.1,
      ne_eqb _ _ k.0.0.0.0.0.0.0.0.0.0.0.0.0.1,
      ne_eqb _ _ k.0.0.0.0.0.0.0.0.0.0.0.0.1,
      ne_eqb _ _ k.0.0.0.0.0.0.0.0.0.0.0.1,
      ne_eqb _ _ k.0.0.0.0.0.0.0.0.0.0.1,
      ne_eqb _ _ k.0.0.0.0.0.0.0.0.0.1,
      ne_eqb _ _ k.0.0.0.0.0.0.0.0.1,
      ne_eqb _ _ k.0.0.0.0.0.0.0.1,
      ne_eqb _ _ k.0.0.0.0.0.0.1,
      ne_eqb _ _ k.0.0.0.0.0.1,
      ne_eqb _ _ k.0.0.0.0.1,
      ne_eqb _ _ k.0.0.0.1,
      ne_eqb _ _ k.0.0.1,
      ne_eqb _ _ k.0.1,
      ne_eqb _ _ k.1,
    )
    refl
