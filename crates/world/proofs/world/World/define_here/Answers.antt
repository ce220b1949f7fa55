use Rattle.std.proofs.Common.{◌∙◌}
use Rattle.std.proofs.lemmas.Result.{on_ok_weaker}
use Rattle.world.specs.Held.{world_of}
use Rattle.world.proofs.Tables.{defined_is}
use Rattle.world.proofs.world.World.define_here.Goals as goal

pub returns-clause-ok : goal.returns-clause-ok
returns-clause-ok c =
    on_ok_weaker c.put_function.result
    (λ put io. defined_is c.args.prototype c.args.entry c.in_ok-name.name c.in_ok-label.label (world_of c.args.self.now io) (world_of c.put_function.new.self io) (c.in_ok-name.ensures.cases ∙ c.name.ensures) c.in_ok-label.ensures (put io))
    c.put_function.ensures.ok
