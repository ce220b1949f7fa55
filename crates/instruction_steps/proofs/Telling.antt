-- What is said of units that tell carries over from one call to the next.
use Rattle.std.proofs.Common.{[]}
use Rattle.model.specs.Language.Io.{Io}
pub use Rattle.unit_io.proofs.Serving.{told_on, told_then}

-- any records serve for what is told of none
pub no_records : Io
no_records = record { left = λ unit. []; printed = [] }
