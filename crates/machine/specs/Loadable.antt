-- Which lists of numbers `load` reads a machine from: as long as those that save writes, and of a machine that may be used.
use Rattle.std.specs.Prelude.{◌≡◌, List, ℤ, length}
use Rattle.std.proofs.Common.{sym, subst}
use Rattle.hpgl.specs.declared.State.{State}
use Rattle.hpgl.specs.Valid.{Usable}
use Rattle.saved.specs.Saved.{state_numbers, saved_of, loaded_of}
use Rattle.saved.proofs.SavedLaws.{saved-back, saved-length}

pub record Loadable (zs : List ℤ) : Type 0 where
  pub long : length zs ≡ state_numbers
  pub usable : Usable (loaded_of zs)

-- what save writes
pub saved-loadable : (m : State) → Usable m → Loadable (saved_of m)
saved-loadable m w = record { long = saved-length m w.valid.length; usable = subst Usable (sym (saved-back m w.valid)) w }
