use Rattle.std.proofs.Common.{ap, sym, refl, ◌∙◌}
use Rattle.model.specs.Language.Calls.{AValue}
use Rattle.model.specs.Language.Conversions.{Gives}
use Rattle.world.specs.Calling.{kept_with}
use Rattle.world.specs.Held.{world_of}
use Rattle.values.specs.Values.{value_of}
use Rattle.world.proofs.Leaving.{gives_value}
use Rattle.world.proofs.world.World.leave_with_value.Goals as goal

pub returns-clause-left : goal.returns-clause-left
returns-clause-left c io =
    let w = world_of c.args.self.now io in
    let kept = kept_with c.args.kept.now c.args.saved.now.items in
    gives_value c.args.kept.now.prototype.name (value_of c.in_ok-value.value) w kept c.in_ok-value.ensures.had refl
    ∙ ap (λ z. Gives (AValue (value_of c.in_ok-value.value)) z) (sym (c.in_ok-value.ensures.back io))
