-- A machine with pen 1 in hand, and otherwise the same.
use Rattle.std.specs.Prelude.{◌≡◌, refl, pos, set}
use Rattle.std.proofs.Common.{sym, ap, subst, ◌∙◌, arith}
use Rattle.hpgl.specs.declared.Core.{Core}
use Rattle.hpgl.specs.declared.State.{State}
use Rattle.hpgl.specs.Effects.{pen_number}
use Rattle.hpgl.specs.Machine.{waiting}
use Rattle.hpgl.specs.Valid.{Knows, ValidCore, Usable}
use Rattle.saved.specs.Places.{pen_place}
use Rattle.saved.specs.Saved.{saved_of, loaded_of, pen_row}
use Rattle.saved.proofs.SavedLaws.{saved-back}
use Rattle.machine.specs.Loadable.{Loadable, saved-loadable}

unfoldable pub inked_state : State → State
inked_state m = record { reader = m.reader; core = pen_number 1 m.core; store = m.store; work = m.work }

-- in a saved machine it is one number that differs
pub pen-set : (m : State) → set (saved_of m) pen_place (pos 1) ≡ saved_of (inked_state m)
unfolding saved_of inked_state pen_row
pen-set m = refl

inked-core : (c : Core) → ValidCore c → ValidCore (pen_number 1 c)
inked-core c v = record { settings = v.settings; position = v.position; pen = omega arith; polygon = v.polygon; memory = v.memory }

-- where nothing waits, it may be used
pub inked-usable : (m : State) → Usable m → waiting m.work ≡ 0 → Usable (inked_state m)
unfolding inked_state Knows
inked-usable m u w = record {
  valid = record {
    reader = u.valid.reader;
    known = u.valid.known;
    core = inked-core m.core u.valid.core;
    edges = u.valid.edges;
    length = u.valid.length;
    work = u.valid.work;
  };
  inked = record { pen = λ h k. omega (arith, k) };
}

pub inked-loadable : (m : State) → Usable m → waiting m.work ≡ 0 → Loadable (set (saved_of m) pen_place (pos 1))
inked-loadable m u w = subst Loadable (sym (pen-set m)) (saved-loadable (inked_state m) (inked-usable m u w))

pub inked-back : (m : State) → Usable m → waiting m.work ≡ 0 → loaded_of (set (saved_of m) pen_place (pos 1)) ≡ inked_state m
inked-back m u w = ap loaded_of (pen-set m) ∙ saved-back (inked_state m) (inked-usable m u w).valid
