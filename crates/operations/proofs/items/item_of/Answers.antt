use Rattle.std.proofs.Common.{ap, sym, subst, ◌∙◌, Some, Err, Result, Option}
use Rattle.std.specs.Prelude.{map, option_map}
use Rattle.std.proofs.lemmas.Result.{err_from_is_err_and}
use Rattle.model.specs.Language.Conversions.{Bad}
use Rattle.model.specs.Language.Values.{Obj}
use Rattle.model.specs.Language.Aggregates.{element_op}
use Rattle.pattern_compiler.specs.View.{name_of}
use Rattle.pattern_compiler.specs.declared.instr.Name.{Name}
use Rattle.values.specs.declared.fault.Fault.{Fault}
use Rattle.values.specs.Values.{value_of}
use Rattle.world.specs.Held.{world_of}
use Rattle.values.specs.Answers.{answer_map, AnswersOrFails}
use Rattle.operations.proofs.Naming.{item_named, in_array, in_table, in_no_table}
use Rattle.operations.proofs.items.item_of.Goals as goal

pub returns-in_err-array_item-in-Some-Array-clause-name : goal.returns-in_err-array_item-in-Some-Array-clause-name
returns-in_err-array_item-in-Some-Array-clause-name c io =
    let p = err_from_is_err_and c.from_residual.result c.from_residual.ensures.1 in
    subst (λ (x : Result (Option Name) Fault). AnswersOrFails (answer_map (option_map name_of) x) (world_of c.args.world.now io) (element_op (Obj c.args.object) (map value_of c.args.subscripts.now) (world_of c.args.world.now io)))
    (sym (p.1 ∙ ap Err p.2))
    (in_array c.args.world.now c.objects.result.now io c.args.object (map value_of c.args.subscripts.now) c.objects.ensures c.kind.result (Bad c.in_err-array_item-in-Some-Array.field-0.0)
    c.kind.ensures (c.in-Some-Array.is ∙ ap Some c.in-Some-Array.field-0-is) c.in_err-array_item-in-Some-Array.ensures)

pub returns-in_ok-array_item-in-Some-Array-clause-name : goal.returns-in_ok-array_item-in-Some-Array-clause-name
returns-in_ok-array_item-in-Some-Array-clause-name c io =
    let r = c.in_ok-array_item-in-Some-Array in
    item_named c.args.world.now c.objects.result.now io c.args.object (map value_of c.args.subscripts.now) c.objects.ensures c.kind.result (option_map name_of r.field-0)
    c.kind.ensures (c.in-Some-Array.is ∙ ap Some c.in-Some-Array.field-0-is) r.ensures

pub returns-in-Some-Table-clause-name : goal.returns-in-Some-Table-clause-name
returns-in-Some-Table-clause-name c io =
    subst (λ o. AnswersOrFails (answer_map (option_map name_of) c.table_item.result) (world_of c.args.world.now io) o)
    (sym (in_table c.args.world.now c.objects.result.now io c.args.object (map value_of c.args.subscripts.now) c.objects.ensures c.kind.result
    c.kind.ensures (c.in-Some-Table.is ∙ ap Some c.in-Some-Table.field-0-is)))
    (c.table_item.ensures.name (world_of c.args.world.now io))

pub returns-in-Some-Record-clause-name : goal.returns-in-Some-Record-clause-name
returns-in-Some-Record-clause-name c io =
    in_no_table c.args.world.now c.objects.result.now io c.args.object (map value_of c.args.subscripts.now) c.objects.ensures c.kind.result
    c.kind.ensures (λ e. absurd (cc)) (λ e. absurd (cc))

pub returns-in-None-clause-name : goal.returns-in-None-clause-name
returns-in-None-clause-name c io =
    in_no_table c.args.world.now c.objects.result.now io c.args.object (map value_of c.args.subscripts.now) c.objects.ensures c.kind.result
    c.kind.ensures (λ e. absurd (cc)) (λ e. absurd (cc))
