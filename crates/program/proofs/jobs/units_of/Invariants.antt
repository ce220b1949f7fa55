use Rattle.std.proofs.Common.{take}
use Rattle.program.specs.Fresh.{AreFresh}
use Rattle.program.proofs.jobs.units_of.Given as goal

-- the units have the files that were given so far
abbrev pub invariant-files : goal.invariant-files
invariant-files g l = AreFresh g.S.UnitSystem.exposes g.S.UnitSystem.input_bytes g.S.UnitSystem.source_bytes l.system (take l.given-index l.files) l.units
