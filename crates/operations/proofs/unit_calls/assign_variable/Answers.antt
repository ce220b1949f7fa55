use Rattle.std.proofs.Common.{rules, sym, ◌∙◌, Some}
use Rattle.operations.proofs.UnitCalls.{assign_asks, assigned_to_unit, assigned_alone}
use Rattle.unit_io.specs.Service.{OfAny}
use Rattle.unit_io.proofs.Serving.{some_on}
use Rattle.values.specs.Answers.{done, stopped_by}
use Rattle.values.specs.Values.{value_of}
use Rattle.operations.proofs.unit_calls.assign_variable.Goals as goal

pub returns-in-Some-clause-served : goal.returns-in-Some-clause-served
returns-in-Some-clause-served g c = record {
  told = assigned_to_unit c.args.name.now _ _ c.args.world.now c.set.new.self _ _ _ (sym c.in-Some.is ∙ c.in_ok-unit.ensures.output) c.in_ok-unit.ensures.set c.write.ensures.served.told;
  some = some_on (λ io io' a. assigned_to_unit c.args.name.now _ (value_of c.args.value) c.args.world.now c.set.new.self (done c.write.result) (Some io) (Some io') (sym c.in-Some.is ∙ c.in_ok-unit.ensures.output) c.in_ok-unit.ensures.set a) c.write.ensures.served.some;
  counts = search rules;
  sound = search rules;
}

pub returns-in-None-clause-served : goal.returns-in-None-clause-served
returns-in-None-clause-served g c = record {
  told = assigned_alone c.args.name.now _ c.args.world.now c.set.new.self _ (sym c.in-None.is ∙ c.in_ok-unit.ensures.output) c.in_ok-unit.ensures.set;
  some = OfAny (λ io. assigned_alone c.args.name.now (value_of c.args.value) c.args.world.now c.set.new.self (Some io) (sym c.in-None.is ∙ c.in_ok-unit.ensures.output) c.in_ok-unit.ensures.set);
  counts = search rules;
  sound = search rules;
}

pub returns-in-Some-clause-asked : goal.returns-in-Some-clause-asked
returns-in-Some-clause-asked g c =
    assign_asks _ c.args.name.now _ (value_of c.args.value) c.args.world.now c.set.new.self (stopped_by c.write.result) (sym c.in-Some.is ∙ c.in_ok-unit.ensures.output) c.in_ok-unit.ensures.set c.write.ensures.asked
