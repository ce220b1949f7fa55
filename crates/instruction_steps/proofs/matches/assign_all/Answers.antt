use Rattle.std.proofs.Common.{◌≤◌, [], Err, Ok, arith, drop, length, refl, rules, sym, ◌∙◌}
use Rattle.std.proofs.lemmas.List.{append-nil}
use Rattle.model.specs.Language.Operators.{assign_all}
use Rattle.model.specs.Laws.Agreement.{IsPrefix}
use Rattle.model.specs.declared.run.Stop.TheVariants as stop
use Rattle.match_machine.specs.View.{pending_of}
use Rattle.pattern_compiler.specs.View.{name_of}
use Rattle.values.specs.Answers.{AnswersAs, done, stopped_by}
use Rattle.values.specs.declared.fault.Fault.TheVariants as fault
use Rattle.world.specs.Held.{world_of}
use Rattle.values.specs.Values.{value_of}
use Rattle.values.specs.declared.value.Value.TheVariants as value
use Rattle.unit_io.specs.Service.{OfThese}
use Rattle.unit_io.proofs.Serving.{all_none, all_on, served_then, told_same, with_some}
use Rattle.instruction_steps.proofs.Assigning.{assigned_any, lacking_served, none_left, residual_served, stopped_rest}
use Rattle.instruction_steps.proofs.Telling.{no_records}
use Rattle.instruction_steps.proofs.Asked.{pending_next, rest_took_none}
use Rattle.instruction_steps.proofs.Printing.{assigned_prints, assigned_rest, kept_same, pending_prints, printed_more, residual_kept}
use Rattle.operations.proofs.Asked.{passed_on}
use Rattle.instruction_steps.proofs.matches.assign_all.Goals as goal

pub returns-in_err-clone-clause-printed : goal.returns-in_err-clone-clause-printed
returns-in_err-clone-clause-printed g c =
    pending_prints (stopped_by c.from_residual.result) _ _ _ c.args.world.now c.loop-assignment.world (pending_of c.args.pending.now) (pending_of (drop c.loop-assignment.assignment-index c.args.pending.now)) c.loop-assignment.invariant.printed c.loop-assignment.invariant.served.told (kept_same _ _)

pub returns-in_err-assign-clause-printed : goal.returns-in_err-assign-clause-printed
returns-in_err-assign-clause-printed g c =
    let result = c.from_residual-in_err-assign.result in
    pending_prints (stopped_by result) _ _ _ c.args.world.now c.loop-assignment.world (pending_of c.args.pending.now) (pending_of (drop c.loop-assignment.assignment-index c.args.pending.now)) c.loop-assignment.invariant.printed c.loop-assignment.invariant.served.told
    (residual_kept result c.in_err-assign.field-0.0 _ _ c.from_residual-in_err-assign.ensures.1 c.in_err-assign.ensures.quiet)

pub loop-assignment-preserved : goal.loop-assignment-preserved
loop-assignment-preserved g c =
    let x = c.assignment-item.result in
    let v = value_of (value.String c.in_ok-clone.field-0) in
    record {
      names = c.assign.ensures.names ∙ c.loop-assignment.invariant.names;
      printed = printed_more _ _ _ _ c.loop-assignment.invariant.printed c.in_ok-assign.ensures.served.told (λ io io' e. assigned_prints (name_of x.name) v c.loop-assignment.world c.assign.new.world io io' (record {}) e);
      served = served_then _ c.loop-assignment.invariant.served c.in_ok-assign.ensures.served
          (λ before now after so_far one. assigned_rest c.args.pending.now c.loop-assignment.assignment-index x v (world_of c.args.world.now before) (world_of c.loop-assignment.world now) (world_of c.assign.new.world after) c.loop-assignment-test.true c.assignment-item.is (search rules) so_far one);
      any_units = λ io.
          let now = c.loop-assignment.invariant.any_units io in
          let after = assigned_any (name_of x.name) v c.loop-assignment.world c.assign.new.world (Ok (record {})) c.in_ok-assign.ensures.served.some now.0 in
          (after.0, assigned_rest c.args.pending.now c.loop-assignment.assignment-index x v (world_of c.args.world.now io) (world_of c.loop-assignment.world now.0) (world_of c.assign.new.world after.0) c.loop-assignment-test.true c.assignment-item.is (search rules) now.1 after.1);
    }

pub loop-assignment-init : goal.loop-assignment-init
loop-assignment-init g c = record {
  printed = told_same (g.U.Units.told c.args.units.now) (λ io io'. IsPrefix io.printed io'.printed) (λ io. ([], sym (append-nil io.printed)));
  names = refl;
  served = all_none g.U.Units c.args.units.now (λ io. refl);
  any_units = λ io. (io, refl);
}

pub returns-clause-served : goal.returns-clause-served
returns-clause-served g c =
    let xs = c.args.pending.now in
    let i = c.loop-assignment.assignment-index in
    let none : length xs ≤ i = omega (arith, c.loop-assignment-test.false) in
    let some = c.loop-assignment.invariant.any_units no_records in
    with_some (all_on c.loop-assignment.invariant.served (λ io io' e. none_left xs i (world_of c.args.world.now io) (world_of c.loop-assignment.world io') none e))
    (OfThese no_records some.0 (none_left xs i (world_of c.args.world.now no_records) (world_of c.loop-assignment.world some.0) none some.1))

pub returns-in_err-assign-clause-served : goal.returns-in_err-assign-clause-served
returns-in_err-assign-clause-served g c =
    let x = c.assignment-item.result in
    let v = value_of (value.String c.in_ok-clone.field-0) in
    let xs = c.args.pending.now in
    let i = c.loop-assignment.assignment-index in
    let f = c.in_err-assign.field-0.0 in
    let first = c.args.world.now in
    let mid = c.loop-assignment.world in
    let last = c.assign.new.world in
    let now = c.loop-assignment.invariant.any_units no_records in
    let after = assigned_any (name_of x.name) v mid last (Err f) c.in_err-assign.ensures.served.some now.0 in
    residual_served c.from_residual-in_err-assign.result f (λ r io io'. AnswersAs (done r) (world_of last io') (assign_all (pending_of xs) (world_of first io))) c.from_residual-in_err-assign.ensures.1
    (with_some
    (served_then _ c.loop-assignment.invariant.served c.in_err-assign.ensures.served (λ io io1 io2 so_far one. stopped_rest xs i x v f (world_of first io) (world_of mid io1) (world_of last io2) c.loop-assignment-test.true c.assignment-item.is (search rules) so_far one))
    (OfThese no_records after.0 (stopped_rest xs i x v f (world_of first no_records) (world_of mid now.0) (world_of last after.0) c.loop-assignment-test.true c.assignment-item.is (search rules) now.1 after.1)))

pub returns-in_err-clone-clause-served : goal.returns-in_err-clone-clause-served
returns-in_err-clone-clause-served g c =
    residual_served c.from_residual.result (fault.Stop stop.NoMemory) (λ r io io'. AnswersAs (done r) (world_of c.loop-assignment.world io') (assign_all (pending_of c.args.pending.now) (world_of c.args.world.now io))) c.from_residual.ensures.1
    (lacking_served c.loop-assignment.invariant.served)

pub returns-in_err-assign-clause-next : goal.returns-in_err-assign-clause-next
returns-in_err-assign-clause-next g c =
    let x = c.assignment-item.result in
    let result = c.from_residual-in_err-assign.result in
    let f = c.in_err-assign.field-0.0 in
    pending_next c.args.world.now c.loop-assignment.world c.args.pending.now c.loop-assignment.assignment-index x (value_of (value.String c.in_ok-clone.field-0)) c.loop-assignment-test.true c.assignment-item.is (search rules)
    _ _ (stopped_by result) _ _ _ c.loop-assignment.invariant.served.sound c.loop-assignment.invariant.served.told
    (passed_on result f _ c.from_residual-in_err-assign.ensures.1 c.in_err-assign.ensures.asked) (residual_kept result f _ _ c.from_residual-in_err-assign.ensures.1 c.in_err-assign.ensures.quiet)

pub returns-in_err-clone-clause-next : goal.returns-in_err-clone-clause-next
returns-in_err-clone-clause-next g c = (
  rest_took_none (stopped_by c.from_residual.result) _ _ _ c.args.pending.now (drop c.loop-assignment.assignment-index c.args.pending.now) c.args.world.now c.loop-assignment.world c.loop-assignment.invariant.served.told (kept_same _ _),
  search rules,
)
