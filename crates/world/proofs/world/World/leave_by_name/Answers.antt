use Rattle.std.proofs.Common.{ap, sym, ◌∙◌}
use Rattle.std.proofs.lemmas.Result.{err_from_is_err_and}
use Rattle.model.specs.declared.instr.ReturnKind.TheVariants as kind
use Rattle.model.specs.Language.Calls.{AName, back_to_caller, leave_op}
use Rattle.model.specs.Language.Conversions.{Gives}
use Rattle.pattern_compiler.specs.View.{name_of}
use Rattle.world.specs.Calling.{kept_with}
use Rattle.world.specs.Held.{world_of}
use Rattle.world.proofs.Leaving.{left_by_fault}
use Rattle.world.proofs.world.World.leave_by_name.Goals as goal

pub returns-in_err-name-clause-left : goal.returns-in_err-name-clause-left
returns-in_err-name-clause-left c io =
    let w = world_of c.args.self.now io in
    let kept = kept_with c.args.kept.now c.args.saved.now.items in
    let p = err_from_is_err_and c.from_residual.result c.from_residual.ensures.1 in
    rw (p.1, p.2) (left_by_fault _ w (back_to_caller kind.NReturn kept w) (leave_op kind.NReturn kept w) (c.in_err-name.ensures.given io kept (sym c.name.ensures)))

pub returns-clause-left : goal.returns-clause-left
returns-clause-left c io =
    let kept = kept_with c.args.kept.now c.args.saved.now.items in
    c.in_ok-name.ensures.given io kept (sym c.name.ensures)
    ∙ ap (λ z. Gives (AName (name_of c.in_ok-name.name)) z) (sym (c.in_ok-back.ensures.back io))
