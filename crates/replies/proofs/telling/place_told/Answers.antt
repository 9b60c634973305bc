-- The proof of `place_told`: a position that is kept may be located; by whether the pen is down.
use Rattle.hpgl.proofs.ValidFacts.{placed-locatable}
use Rattle.replies.proofs.telling.place_told.Goals as goal

pub located-p-requires : goal.located-p-requires
located-p-requires c = (c.requires.settings, placed-locatable c.requires.settings c.requires.position)
