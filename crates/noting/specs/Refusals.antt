-- The refusals of a feed, in groups of one name and one number.
use Rattle.std.specs.Prelude.{Bool, false, not, cond, List, [], ◌∷◌, ℕ, eqb}
use Rattle.feeding.specs.DrawOff.{list_full, untaken}
use Rattle.counting.specs.declared.names.Letters.{Letters}
use Rattle.counting.specs.declared.refusals.Refusals.{Refusals}
use Rattle.counting.specs.Names.{unnamed, name_of}
use Rattle.counting.specs.Refusals.{noted_all}

-- a feed ends with 0 where the bytes end, with 21 where its list is full, and with 20 before a byte that is not taken, since a reply waits
unfoldable pub refuses : ℕ → Bool
refuses number = cond (eqb number 0) false (cond (eqb number list_full) false (not (untaken number)))

-- on the byte before a place of a block; l is for the letters before the block, `place` counts the bytes of all
unfoldable pub refused_of : Refusals → Letters → List ℕ → ℕ → ℕ → ℕ → Refusals
refused_of r l block at number place = cond (refuses number) (noted_all r number (name_of l unnamed block at number) (place ∷ [])) r
