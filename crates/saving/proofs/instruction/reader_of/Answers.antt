use Rattle.std.proofs.Common.{rules}
use Rattle.saved.specs.SavedReader.{reader_of}
use Rattle.saving.proofs.instruction.reader_of.Goals as goal

pub returns : goal.returns
unfolding reader_of
returns c = search rules
