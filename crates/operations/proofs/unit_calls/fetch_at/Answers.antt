use Rattle.std.proofs.Common.{rules, ap, sym, ◌∙◌, Some}
use Rattle.std.specs.Prelude.{option_map}
use Rattle.pattern_compiler.specs.declared.instr.Name.TheVariants as name
use Rattle.unit_io.specs.Service.{OfAny}
use Rattle.values.specs.Answers.{answer_map}
use Rattle.values.specs.Values.{value_of}
use Rattle.operations.proofs.UnitCalls.{fetched_there, fetched_key}
use Rattle.operations.proofs.Asked.{no_unit}
use Rattle.unit_io.proofs.Serving.{served_on}
use Rattle.operations.proofs.unit_calls.fetch_at.Goals as goal

pub returns-in-Element-clause-served : goal.returns-in-Element-clause-served
returns-in-Element-clause-served g c = record {
  told = fetched_there c.args.name.now _ c.args.world.now _ _ c.in-Element.is c.element.ensures.value;
  some = OfAny (λ io. fetched_there c.args.name.now _ c.args.world.now (answer_map (option_map value_of) c.element.result) (Some io) c.in-Element.is c.element.ensures.value);
  counts = search rules;
  sound = search rules;
}

pub returns-in-IntegerKey-clause-served : goal.returns-in-IntegerKey-clause-served
returns-in-IntegerKey-clause-served g c = record {
  told = fetched_key c.args.name.now c.in-IntegerKey.object c.in-IntegerKey.key _ c.args.world.now _ _ c.in-IntegerKey.is (search rules) c.entry.ensures.value;
  some = OfAny (λ io. fetched_key c.args.name.now c.in-IntegerKey.object c.in-IntegerKey.key _ c.args.world.now (answer_map (option_map value_of) c.entry.result) (Some io) c.in-IntegerKey.is (search rules) c.entry.ensures.value);
  counts = search rules;
  sound = search rules;
}

pub returns-in_ok-clone-in-StringKey-clause-served : goal.returns-in_ok-clone-in-StringKey-clause-served
returns-in_ok-clone-in-StringKey-clause-served g c = record {
  told = fetched_there c.args.name.now (name.StringKey c.in-StringKey.object c.in_ok-clone-in-StringKey.field-0) c.args.world.now _ _
      (c.in-StringKey.is ∙ ap (name.StringKey c.in-StringKey.object) (sym c.in_ok-clone-in-StringKey.ensures.cases)) c.entry-in-StringKey.ensures.value;
  some = OfAny (λ io. fetched_there c.args.name.now (name.StringKey c.in-StringKey.object c.in_ok-clone-in-StringKey.field-0) c.args.world.now (answer_map (option_map value_of) c.entry-in-StringKey.result) (Some io)
      (c.in-StringKey.is ∙ ap (name.StringKey c.in-StringKey.object) (sym c.in_ok-clone-in-StringKey.ensures.cases)) c.entry-in-StringKey.ensures.value);
  counts = search rules;
  sound = search rules;
}

pub returns-in-Element-clause-asked : goal.returns-in-Element-clause-asked
returns-in-Element-clause-asked g c = no_unit c.element.result _ c.element.ensures.stop

pub returns-in-IntegerKey-clause-asked : goal.returns-in-IntegerKey-clause-asked
returns-in-IntegerKey-clause-asked g c = no_unit c.entry.result _ c.entry.ensures.stop

pub returns-in_ok-clone-in-StringKey-clause-asked : goal.returns-in_ok-clone-in-StringKey-clause-asked
returns-in_ok-clone-in-StringKey-clause-asked g c = no_unit c.entry-in-StringKey.result _ c.entry-in-StringKey.ensures.stop

pub returns-in-Variable-clause-served : goal.returns-in-Variable-clause-served
returns-in-Variable-clause-served g c = served_on c.fetch_variable.ensures.served (λ io io' p. rw c.in-Variable.is p)
