-- Which lists are a machine, and when a call goes on: every list that is lent is long enough, and the machine's begins with its header, is sound and has its sum.
use Rattle.std.specs.Prelude.{Bool, cond, ◌&&◌, List, ℕ, eqb, ltb, ℤ, length, drop}
use Rattle.rows.specs.Rows.{row_at}
use Rattle.seal.specs.Seal.{sealed_of, header_sound, sum_stands}
use Rattle.hpgl.specs.declared.State.{State}
use Rattle.saved.specs.Saved.{saved_of, loaded_of}
use Rattle.wellformed.specs.Sound.{sound_of}

-- the list is no machine
abbrev pub no_machine : ℕ
no_machine = 40

-- a list is too short, or a machine's has another length than that of a machine
abbrev pub too_short : ℕ
too_short = 41

-- the numbers of a machine's list: its header, and those that save writes
abbrev pub list_numbers : ℕ
list_numbers = 650

-- a machine as a list, and the machine of a list
unfoldable pub list_of : State → List ℤ
list_of m = sealed_of (saved_of m)

unfoldable pub machine_in : List ℤ → State
machine_in zs = loaded_of (drop 5 zs)

unfoldable pub machine_stands : List ℤ → Bool
machine_stands zs = header_sound (row_at zs 0) && (sound_of (drop 5 zs) && sum_stands zs)

-- 0, or the number that a call is refused with; a list of `lent` elements is lent besides, of which it needs so many
unfoldable pub ready_of : List ℤ → ℕ → ℕ → ℕ
ready_of zs needed lent = cond (ltb lent needed) too_short (cond (eqb (length zs) list_numbers) (cond (machine_stands zs) 0 no_machine) too_short)
