-- The proof of `fresh`: the four numbers are read back as they came; a machine with bad limits may be used too.
use mathlib.Core.Path.{◌≡◌, sym, ap, subst, ◌∙◌}
use mir.Syntax.{w64}
use mir.Val.{SFits}
use lib.IntN.{ℤ}
use Rattle.exact.specs.Fit.{m64, arg}
use Rattle.hpgl.specs.Machine.{rect, good_limits, fresh_state, fresh_number}
use Rattle.hpgl.specs.Numbers.{bad_limits}
use Rattle.hpgl.specs.Valid.{Usable}
use Rattle.hpgl.proofs.ValidKept.{usable-fresh}
use Rattle.machine.specs.Calls.{started_of}
use Rattle.machine.proofs.Machine.fresh.Goals as goal

read : {l b r t : ℤ} → SFits w64 l → SFits w64 b → SFits w64 r → SFits w64 t → rect (m64 l) (m64 b) (m64 r) (m64 t) ≡ rect l b r t
read hl hb hr ht = λ i. rect ((arg w64 hl).is i) ((arg w64 hb).is i) ((arg w64 hr).is i) ((arg w64 ht).is i)

pub invariant_of-machine : goal.invariant_of-machine
invariant_of-machine c = record { usable = subst Usable (sym c.fresh_state.ensures) (usable-fresh _) }

pub invariant_of-machine-2 : goal.invariant_of-machine-2
invariant_of-machine-2 c = record { usable = subst Usable (sym c.fresh_state.ensures) (usable-fresh _) }

pub returns-then-good_limits : goal.returns-then-good_limits
unfolding started_of fresh_number
returns-then-good_limits c =
    let f = c.ranges in
    let h = read f.left f.bottom f.right f.top in
    let s = c.fresh_state.ensures ∙ ap fresh_state h in
    rw (sym (c.good_limits.ensures ∙ ap good_limits h) ∙ c.if-good_limits.true) (λ i. record { state = s i; number = 0 })

pub returns : goal.returns
unfolding started_of fresh_number
returns c =
    let f = c.ranges in
    let h = read f.left f.bottom f.right f.top in
    let s = c.fresh_state.ensures ∙ ap fresh_state h in
    rw (sym (c.good_limits.ensures ∙ ap good_limits h) ∙ c.if-good_limits.false) (λ i. record { state = s i; number = bad_limits })
