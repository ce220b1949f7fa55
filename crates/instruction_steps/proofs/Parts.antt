-- Patterns of the module, part by part.
use Rattle.std.proofs.Common.{◌++◌, Option, Some, None}
use Rattle.model.specs.Machine.Steps.{PCode}

-- code that is made, with the code of the parts behind it
abbrev pub behind : PCode → Option PCode → Option PCode
behind made None = None
behind made (Some rest) = Some (made ++ rest)
