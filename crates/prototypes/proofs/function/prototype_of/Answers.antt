use Rattle.std.proofs.Common.{refl, rules}
use Rattle.prototypes.proofs.Functions.{parts_are}
use Rattle.prototypes.proofs.function.prototype_of.Goals as goal

pub returns-clause-parts : goal.returns-clause-parts
returns-clause-parts c =
    parts_are c.args.name.now _ _ c.new-names.result.items c.push_name.new.names.items c.push_listed.new.names.items c.push_listed-2.new.names.items c.push_listed-2.new.names.items c.len-count.result
    c.new-names.ensures.items c.in_ok-push_name.ensures c.in_ok-push_listed.ensures (search rules) c.in_ok-push_listed-2.ensures refl
