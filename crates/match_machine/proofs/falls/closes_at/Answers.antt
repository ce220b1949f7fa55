use Rattle.std.proofs.Common.{◌∙◌, sym, ap, Some}
use Rattle.pattern_compiler.specs.View.{instr_of, name_of}
use Rattle.match_machine.proofs.falls.closes_at.Goals as goal

pub returns-in-Some-Close : goal.returns-in-Some-Close
returns-in-Some-Close c =
    λ _. (name_of c.in-Some-Close.field-0-0, sym c.in-Some-Close.ensures ∙ ap (λ i. Some (instr_of i)) c.in-Some-Close.field-0-is)
