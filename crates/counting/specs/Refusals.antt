-- What was refused, in groups of one name and one number.
use Rattle.std.specs.Prelude.{cond, List, [], ◌∷◌, ℕ, suc, ◌+◌, ◌*◌, ◌/◌, ◌%◌, eqb, ltb, set, get_or, replicate}
use Rattle.console.specs.Sums.{added}
use Rattle.words.specs.Names.{refused_kind, harmless_of}
use Rattle.counting.specs.declared.names.Letters.{Letters}
use Rattle.counting.specs.declared.refusals.Group.{Group}
use Rattle.counting.specs.declared.refusals.Refusals.{Refusals}

abbrev pub groups : ℕ
groups = 16

-- the places of a group
abbrev pub shown : ℕ
shown = 6

abbrev pub free : Group
free = record { key = 0; count = 0; places = replicate shown 0 }

abbrev pub none_of : Refusals
none_of = record { groups = replicate groups free; others = 0 }

-- a number and a name in one: above 0, as no number of a refusal is 0
unfoldable pub key_of : ℕ → Letters → ℕ
key_of number name = number * 65536 + name.first * 256 + name.second

unfoldable pub number_of : ℕ → ℕ
number_of key = key / 65536 % 256

unfoldable pub name_in : ℕ → Letters
name_in key = record { first = key / 256 % 256; second = key % 256 }

-- the group of a key, or the first that is free (its key is 0); as many as there are where there is neither
unfoldable pub group_in : List Group → ℕ → ℕ
group_in [] key = 0
group_in (g ∷ list) key = cond (eqb g.key key) 0 (cond (eqb g.key 0) 0 (suc (group_in list key)))

-- one more place in a group that has so many; past the sixth it is counted alone
unfoldable pub with_place : List ℕ → ℕ → ℕ → List ℕ
with_place places count place = cond (ltb count shown) (set places count place) places

unfoldable pub one_more : Group → ℕ → ℕ → Group
one_more g key place = record { key = key; count = added g.count 1; places = with_place g.places g.count place }

-- past the end of the groups
abbrev pub no_group : Group
no_group = record { key = 0; count = 0; places = [] }

-- one more refusal, in its group
unfoldable pub in_group : Refusals → ℕ → ℕ → ℕ → Refusals
in_group r group key place =
    cond (ltb group groups)
    (record { groups = set r.groups group (one_more (get_or r.groups group no_group) key place); others = r.others })
    (record { groups = r.groups; others = added r.others 1 })

unfoldable pub noted_of : Refusals → ℕ → Letters → ℕ → Refusals
noted_of r number name place = in_group r (group_in r.groups (key_of number name)) (key_of number name) place

-- refusals of one number and name at these places, one after the other
unfoldable pub noted_all : Refusals → ℕ → Letters → List ℕ → Refusals
noted_all r number name [] = r
noted_all r number name (place ∷ places) = noted_all (noted_of r number name place) number name places

-- what becomes of a group
unfoldable pub kind_of_key : ℕ → ℕ
kind_of_key key = refused_kind (number_of key) (name_in key).first (name_in key).second

-- of a group's count, what changes the drawing
unfoldable pub harm_of : ℕ → ℕ → ℕ
harm_of key count = cond (harmless_of (kind_of_key key)) 0 count

-- how many refusals change the drawing: those of harmful groups, and all without a group
unfoldable pub harm_in : List Group → ℕ → ℕ
harm_in [] others = others
harm_in (g ∷ list) others = added (harm_of g.key g.count) (harm_in list others)
