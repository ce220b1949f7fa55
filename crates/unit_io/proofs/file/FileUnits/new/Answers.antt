use Rattle.std.proofs.Common.{[], subst, sym}
use Rattle.std.specs.Io.Buffered.{writer_inner}
use Rattle.std.specs.Io.KnownBytes.{Keeps}
use Rattle.unit_io.specs.Sides.{exposed, kept_by}
use Rattle.unit_io.proofs.Holding.{new_kept}
use Rattle.unit_io.proofs.KnownSteps.{keeps_appended, keeps_prepended}
use Rattle.unit_io.proofs.file.FileUnits.new.Goals as goal

pub returns-clause-input : goal.returns-clause-input
returns-clause-input g c =
    let bytes = exposed (g.S.UnitSystem.exposes c.args.system.now) (g.S.UnitSystem.input_bytes c.args.system.now) in
    keeps_prepended bytes (g.S.Input.Read.remaining c.new.result.source) c.new.result.held c.new.ensures.held
    (subst (λ (s : g.row.S-Input.Denot). Keeps bytes (g.S.Input.Read.remaining s)) (sym c.new.ensures.source) c.input.ensures)

pub invariant_of-result : goal.invariant_of-result
invariant_of-result g c =
    let none = exposed (g.S.UnitSystem.exposes c.args.system.now) [] in
    let writer = c.in_ok-new.field-0 in
    new_kept g.S.UnitSystem.exposes _ (g.S.UnitSystem.input_bytes c.args.system.now) (returns-clause-input g c)
    (keeps_appended none (g.S.Output.Write.contents (writer_inner writer.target)) (kept_by writer) c.in_ok-new.ensures.empty
    (subst (λ (w : g.row.S-Output.Denot). Keeps none (g.S.Output.Write.contents w)) (sym c.in_ok-new.ensures.target) c.output.ensures))
    c.new-3.ensures.items c.new-5.ensures
