use Rattle.std.proofs.Common.{◌≡◌, OnOk, subst}
use Rattle.model.specs.Language.Io.{Io}
use Rattle.model.specs.Language.Values.{set_var}
use Rattle.world.specs.Held.{world_of}
use Rattle.values.specs.Values.{value_of}
use Rattle.world.proofs.world.World.exchange_new.Goals as goal

pub returns-clause-set : goal.returns-clause-set
returns-clause-set c =
    subst (λ v. OnOk c.set_new.result ((io : Io) → world_of c.set_new.new.self io ≡ set_var c.args.name.now (value_of v) (world_of c.args.self.now io))) c.replace-new.ensures.value c.set_new.ensures.set
