use Rattle.std.proofs.Common.{subst, sym}
use Rattle.aggregates.specs.Made.{StandBelow, held_values}
use Rattle.aggregates.proofs.Lists.{all_stand}
use Rattle.aggregates.proofs.field_values.FieldValues.held.Goals as goal

pub returns : goal.returns
returns g c = subst (λ n. StandBelow n (held_values c.args.self.now)) (sym c.len.ensures) (all_stand (held_values c.args.self.now))
