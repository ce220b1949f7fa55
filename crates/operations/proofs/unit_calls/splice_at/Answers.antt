use Rattle.std.proofs.Common.{Err, ap, rules, inl, refl, Some}
use Rattle.unit_io.specs.Service.{OfAny}
use Rattle.unit_io.proofs.Serving.{some_on}
use Rattle.model.specs.Language.Operators.{assign_op, splice_op}
use Rattle.pattern_compiler.specs.View.{name_of}
use Rattle.values.specs.Values.{value_of}
use Rattle.operations.proofs.UnitCalls.{no_more, not_replaced, replaced_by}
use Rattle.operations.proofs.Asked.{no_unit, passed_on, prints_on}
use Rattle.values.specs.Answers.{done, stopped_by}
use Rattle.operations.specs.Asking.{io_after}
use Rattle.operations.proofs.unit_calls.splice_at.Goals as goal

pub returns-in_err-whole-clause-only : goal.returns-in_err-whole-clause-only
returns-in_err-whole-clause-only g c = inl refl

pub returns-clause-only : goal.returns-clause-only
returns-clause-only g c =
    no_more c.assign_at.result (name_of c.args.name.now) (value_of c.in_ok-whole.whole) c.args.world.now c.assign_at.new.world c.assign_at.ensures.ok c.assign_at.ensures.err

pub returns-in_err-whole-clause-served : goal.returns-in_err-whole-clause-served
returns-in_err-whole-clause-served g c = record {
  told = not_replaced c.in_err-whole.field-0.0 c.from_residual.result c.args.world.now (assign_op (name_of c.args.name.now))
      (splice_op (name_of c.args.name.now) c.args.span.now.subject c.args.span.now.start c.args.span.now.end (value_of c.args.value.now)) _ c.from_residual.ensures.1
      (λ io. c.in_err-whole.ensures.value io (name_of c.args.name.now));
  some = OfAny (λ io. not_replaced c.in_err-whole.field-0.0 c.from_residual.result c.args.world.now (assign_op (name_of c.args.name.now))
      (splice_op (name_of c.args.name.now) c.args.span.now.subject c.args.span.now.start c.args.span.now.end (value_of c.args.value.now)) (Some io) c.from_residual.ensures.1
      (λ x. c.in_err-whole.ensures.value x (name_of c.args.name.now)));
  counts = search rules;
  sound = search rules;
}

pub returns-clause-served : goal.returns-clause-served
returns-clause-served g c = record {
  told = replaced_by c.args.world.now c.assign_at.new.world (assign_op (name_of c.args.name.now) (value_of c.in_ok-whole.whole))
      (splice_op (name_of c.args.name.now) c.args.span.now.subject c.args.span.now.start c.args.span.now.end (value_of c.args.value.now)) _ _ _
      (λ io. c.in_ok-whole.ensures.value io (name_of c.args.name.now)) c.assign_at.ensures.served.told;
  some = some_on (λ io io' a. replaced_by c.args.world.now c.assign_at.new.world (assign_op (name_of c.args.name.now) (value_of c.in_ok-whole.whole))
      (splice_op (name_of c.args.name.now) c.args.span.now.subject c.args.span.now.start c.args.span.now.end (value_of c.args.value.now)) (done c.assign_at.result) (Some io) (Some io')
      (λ x. c.in_ok-whole.ensures.value x (name_of c.args.name.now)) a) c.assign_at.ensures.served.some;
  counts = search rules;
  sound = search rules;
}

pub returns-in_err-whole-clause-asked : goal.returns-in_err-whole-clause-asked
returns-in_err-whole-clause-asked g c = passed_on c.from_residual.result c.in_err-whole.field-0.0 _ c.from_residual.ensures.1 (no_unit {A = Unit {0}} (Err c.in_err-whole.field-0.0) _ c.in_err-whole.ensures.stop)

pub returns-clause-asked : goal.returns-clause-asked
returns-clause-asked g c = prints_on _ (stopped_by c.assign_at.result) _ _ (λ io. ap io_after (c.in_ok-whole.ensures.value io (name_of c.args.name.now))) c.assign_at.ensures.asked
