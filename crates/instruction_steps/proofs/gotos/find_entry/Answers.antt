use Rattle.std.proofs.Common.{◌≡◌, None, Some, ◌∙◌, List, ℕ, subst, sym}
use Rattle.model.specs.Language.Calls.{return_of}
use Rattle.model.specs.Module.Images.{end_of, statement_labelled}
use Rattle.instruction_steps.proofs.Called.{entry_there}
use Rattle.instruction_steps.proofs.gotos.find_entry.Goals as goal

pub returns : goal.returns
returns c =
    let im = c.args.program.now in
    let number = c.in_ok-statement.statement in
    let same = c.as_slice-bytes.ensures in
    entry_there im c.args.label.now number c.statement.result
    (subst (λ (l : List ℕ). return_of l ≡ None) same (sym c.named.ensures ∙ c.in-None.is))
    (subst (λ (l : List ℕ). statement_labelled im.strings im.labels l (end_of im.statements l) ≡ Some number) same (sym c.in_ok-statement.ensures)) c.statement.ensures
