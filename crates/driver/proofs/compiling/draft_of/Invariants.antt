use Rattle.std.proofs.Common.{map}
use Rattle.codegen.specs.Labels.{name_of}
use Rattle.driver.specs.Reading.{Kept}
use Rattle.driver.proofs.compiling.draft_of.Given as goal

abbrev pub invariant-loop-statement : goal.invariant-loop-statement
invariant-loop-statement l = Kept (map name_of l.labels.items) l.statements l.statement-index l.reader l.builder
