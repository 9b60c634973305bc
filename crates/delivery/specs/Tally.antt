-- What a run counts.
use Rattle.std.specs.Prelude.{◌≡◌, ℤ}
use Rattle.delivery.specs.declared.edge.Tally.{Tally}
use Rattle.delivery.specs.declared.files.Sink.{Sink}
use Rattle.delivery.specs.declared.files.Sink.TheVariants as sinks

abbrev pub nothing_counted : Tally
nothing_counted = record { read = 0; handed = 0; same = 0 }

-- neither a read nor a text is counted
abbrev pub Kept : Tally → Tally → Type 0
Kept before after = (after.read ≡ before.read) × (after.handed ≡ before.handed)

-- the error of the last call on a sink's file that failed
abbrev pub error_of : Sink → ℤ
error_of (sinks.Write file) = file.error
error_of (sinks.Compare file) = file.error
