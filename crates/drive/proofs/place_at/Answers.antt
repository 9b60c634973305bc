-- The proof of `place_at`: each coordinate is `millimetres` of its number.
use borrow.Author.Rules.{rules}
use Rattle.drive.specs.Drive.{spot_of, place_of}
use Rattle.drive.proofs.place_at.Goals as goal

pub returns : goal.returns
unfolding spot_of place_of
returns c = rw (c.millimetres.ensures, c.millimetres-2.ensures) (search rules)
