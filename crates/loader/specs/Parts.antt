-- The first fault of each part that stands at a place, as the whole of them names it.
use Rattle.std.specs.Prelude.{ℕ, [], Option}
use Rattle.model.specs.declared.format.ModuleFault.{ModuleFault}
use Rattle.model.specs.declared.format.Version.{Version}
use Rattle.model.specs.declared.image.Image.{Image}
use Rattle.model.specs.Module.Images.{instr_size}
use Rattle.model.specs.Module.WellFormed.{entry_offset, entry_rule, expression_rule, instr_fault, label_rule, pattern_bytes, pattern_fault, fault_among, statement_rule, fault_if}

abbrev pub entry_fault : Version → Image → Option ModuleFault
entry_fault v im = fault_if (entry_offset v) (entry_rule im)

abbrev pub label_fault : ℕ → Image → Option ModuleFault
label_fault place im = fault_among (λ front at l. fault_if at (label_rule im front l)) (λ l. 8) [] place im.labels

abbrev pub statement_fault : ℕ → Image → Option ModuleFault
statement_fault place im = fault_among (λ front at o. fault_if at (statement_rule im front o)) (λ o. 4) [] place im.statements

abbrev pub expression_fault : ℕ → Image → Option ModuleFault
expression_fault place im = fault_among (λ front at o. fault_if at (expression_rule im front o)) (λ o. 4) [] place im.expressions

abbrev pub patterns_fault : ℕ → Image → Option ModuleFault
patterns_fault place im = fault_among (pattern_fault im) pattern_bytes [] place im.patterns

abbrev pub code_fault : ℕ → Image → Option ModuleFault
code_fault place im = fault_among (instr_fault im) instr_size [] place im.code
