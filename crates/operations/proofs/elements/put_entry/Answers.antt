use Rattle.std.proofs.Common.{ap, rules, sym, w64, ◌∙◌}
use Rattle.std.proofs.lemmas.Int.{to_z-of_z}
use Rattle.model.specs.Language.Operators.{assign_op}
use Rattle.model.specs.Language.Values.{Int}
use Rattle.world.specs.Held.{world_of}
use Rattle.values.specs.declared.value.Value.TheVariants as value
use Rattle.operations.proofs.Placed.{entry_assigned}
use Rattle.operations.proofs.elements.put_entry.Goals as goal

pub returns-clause-set : goal.returns-clause-set
returns-clause-set c q name is io =
    ap (λ z. assign_op name (Int z) (world_of c.args.world.now io)) (sym (to_z-of_z w64 c.args.n (search rules)))
    ∙ entry_assigned c.args.world.now.variables c.objects_mut.result.now c.put_entry-stored.new.self c.args.world.now.functions c.args.world.now.keys c.args.world.now.level c.args.world.now.names c.args.world.now c.args.object (value.Integer _) c.put_entry-stored.result (ap (λ os. record c.args.world.now { objects = os }) c.objects_mut.ensures.held) c.args.index name is
    c.put_entry-stored.ensures.stored q io
