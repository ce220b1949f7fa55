use Rattle.std.proofs.Common.{ap, subst, sym, ◌∙◌, ◌≡◌}
use Rattle.std.specs.Prelude.{slice_get}
use Rattle.model.specs.Language.Aggregates.{as_array}
use Rattle.values.specs.Values.{value_of}
use Rattle.world.specs.Held.{world_of}
use Rattle.heap.specs.Made.{rows_in}
use Rattle.operations.proofs.Made.{null_here, too_many_rows, was_listed, not_listed}
use Rattle.operations.proofs.making.rows.Goals as goal

pub returns-then-row_count-gt524288-clause-made : goal.returns-then-row_count-gt524288-clause-made
returns-then-row_count-gt524288-clause-made c io =
    ap (λ v. as_array (value_of v) (world_of c.args.world.now io)) c.in-Object.is
    ∙ too_many_rows c.args.world.now.variables c.objects.result.now c.args.world.now.functions c.args.world.now.keys c.args.world.now.level c.args.world.now.names c.args.world.now io c.in-Object.object c.row_count.result (ap (λ os. record c.args.world.now { objects = os }) c.objects.ensures) c.row_count.ensures c.if-row_count-gt524288.true

pub returns-clause-made : goal.returns-clause-made
returns-clause-made c io =
    let count : c.row_count.result ≡ rows_in null_here (slice_get c.objects_mut.result.now c.in-Object.object) = subst (λ os. c.row_count.result ≡ rows_in null_here (slice_get os c.in-Object.object)) (c.objects.ensures ∙ sym c.objects_mut.ensures.held) c.row_count.ensures in
    ap (λ v. as_array (value_of v) (world_of c.args.world.now io)) c.in-Object.is
    ∙ was_listed c.args.world.now.variables c.objects_mut.result.now c.table_to_array.new.self c.args.world.now.functions c.args.world.now.keys c.args.world.now.level c.args.world.now.names c.args.world.now io c.in-Object.object c.row_count.result c.in_ok-array.field-0
    (ap (λ os. record c.args.world.now { objects = os }) c.objects_mut.ensures.held) count c.if-row_count-gt524288.false c.in_ok-array.ensures.number c.in_ok-array.ensures.made c.in-Some.array c.in-Some.is

pub returns-in_default-2-clause-made : goal.returns-in_default-2-clause-made
returns-in_default-2-clause-made c io =
    let count : c.row_count.result ≡ rows_in null_here (slice_get c.objects_mut.result.now c.in-Object.object) = subst (λ os. c.row_count.result ≡ rows_in null_here (slice_get os c.in-Object.object)) (c.objects.ensures ∙ sym c.objects_mut.ensures.held) c.row_count.ensures in
    ap (λ v. as_array (value_of v) (world_of c.args.world.now io)) c.in-Object.is
    ∙ not_listed c.args.world.now.variables c.objects_mut.result.now c.table_to_array.new.self c.args.world.now.functions c.args.world.now.keys c.args.world.now.level c.args.world.now.names c.args.world.now io c.in-Object.object c.row_count.result c.in_ok-array.field-0
    (ap (λ os. record c.args.world.now { objects = os }) c.objects_mut.ensures.held) count c.if-row_count-gt524288.false c.in_ok-array.ensures.number c.in_ok-array.ensures.made c.in_default-2.is
