use Rattle.std.proofs.Common.{rules, ap, ◌∙◌}
use Rattle.values.specs.Values.{value_of}
use Rattle.operations.proofs.Keywords.{key_is_refused, key_is_set}
use Rattle.operations.proofs.operators.set_keyword.Goals as goal

pub returns-clause-set : goal.returns-clause-set
returns-clause-set c io =
    key_is_set c.args.id c.in_ok-n.n _ (value_of c.args.value.now) c.args.world.now.variables c.args.world.now.objects c.args.world.now.functions c.keywords_mut.result.now c.set.new.self c.args.world.now.level c.args.world.now.names c.args.world.now c.set.result (ap (λ ks. record c.args.world.now { keys = ks }) c.keywords_mut.ensures.held) (search rules) c.in_ok-n.ensures c.set.ensures.answer c.in-Ok.is c.in-Ok.ensures.ok io

pub returns-in_default-clause-set : goal.returns-in_default-clause-set
returns-in_default-clause-set c io =
    key_is_refused c.args.id c.in_ok-n.n _ (value_of c.args.value.now) c.args.world.now c.set.new.self c.set.result c.in_default.field-0 (search rules) c.in_ok-n.ensures c.set.ensures.answer c.in_default.is (c.in_default.ensures.err ∙ c.keywords_mut.ensures.held) io
