-- The table, computed.
use Rattle.hpgl.specs.Trace.{bytes, bytes_from}
use Rattle.words.specs.Names.{kind_of}
use Rattle.words.proofs.kind.Goals as goal

pub returns : goal.returns
unfolding kind_of bytes bytes_from
returns c = c.kind_in.ensures
