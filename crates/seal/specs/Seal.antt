-- The seal of a list of numbers: a row before it, with the version of the form and a sum that tells when a number was changed or two were exchanged.
use Rattle.std.specs.Prelude.{Bool, ◌&&◌, List, [], ◌∷◌, ℕ, suc, ℤ, pos, ◌+ℤ◌, ◌*ℤ◌, drop}
use Rattle.exact.specs.Whole.{◌≡?◌}
use Rattle.rows.specs.declared.Row.{Row}
use Rattle.rows.specs.Rows.{row, lay, row_at}

-- each number times its place, from the place p on
unfoldable pub weighed : ℕ → List ℤ → ℤ
weighed p [] = pos 0
weighed p (z ∷ zs) = pos p *ℤ z +ℤ weighed (suc p) zs

-- places are counted from 1
unfoldable pub checksum_of : List ℤ → ℤ
checksum_of zs = weighed 1 zs

-- the version of the form
abbrev pub version : ℕ
version = 5

unfoldable pub header_of : List ℤ → Row
header_of zs = row (pos version) (checksum_of zs) (pos 0) (pos 0) (pos 0)

unfoldable pub sealed_of : List ℤ → List ℤ
sealed_of zs = lay (header_of zs) zs

-- whether a row may be a header, its sum apart
unfoldable pub header_sound : Row → Bool
header_sound r = (r.a ≡? pos version) && ((r.c ≡? pos 0) && ((r.d ≡? pos 0) && (r.e ≡? pos 0)))

-- whether the sum that stands in the header is that of the numbers after it
unfoldable pub sum_stands : List ℤ → Bool
sum_stands zs = (row_at zs 0).b ≡? checksum_of (drop 5 zs)
