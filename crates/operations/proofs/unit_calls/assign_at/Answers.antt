use Rattle.std.proofs.Common.{rules, ap, sym, ◌∙◌, Some}
use Rattle.pattern_compiler.specs.declared.instr.Name.TheVariants as name
use Rattle.operations.proofs.UnitCalls.{assigned_there, assigned_key, set_there, set_key}
use Rattle.operations.proofs.Asked.{no_unit, prints_on}
use Rattle.model.specs.Language.Operators.{assign_op}
use Rattle.pattern_compiler.specs.View.{name_of}
use Rattle.unit_io.specs.Service.{OfAny}
use Rattle.values.specs.Answers.{done, stopped_by}
use Rattle.operations.specs.Asking.{io_after}
use Rattle.world.specs.Held.{world_of}
use Rattle.values.specs.Values.{value_of}
use Rattle.unit_io.proofs.Serving.{served_on}
use Rattle.operations.proofs.unit_calls.assign_at.Goals as goal

pub returns-in-Element-clause-served : goal.returns-in-Element-clause-served
returns-in-Element-clause-served g c = record {
  told = assigned_there c.args.name.now _ _ c.args.world.now c.store.new.world _ _ c.in-Element.is c.store.ensures.stored;
  some = OfAny (λ io. assigned_there c.args.name.now _ (value_of c.args.value) c.args.world.now c.store.new.world (done c.store.result) (Some io) c.in-Element.is c.store.ensures.stored);
  counts = search rules;
  sound = search rules;
}

pub returns-in-Element-clause-ok : goal.returns-in-Element-clause-ok
returns-in-Element-clause-ok g c = set_there c.args.name.now _ _ c.args.world.now c.store.new.world c.store.result c.in-Element.is (λ h. h) c.store.ensures.stored

pub returns-in-IntegerKey-clause-served : goal.returns-in-IntegerKey-clause-served
returns-in-IntegerKey-clause-served g c =
    let stored = c.store-in-IntegerKey in
    record {
      told = assigned_key c.args.name.now c.in-IntegerKey.object c.in-IntegerKey.key _ _ c.args.world.now stored.new.world stored.result c.in-IntegerKey.is (search rules) stored.ensures.stored _;
      some = OfAny (λ io. assigned_key c.args.name.now c.in-IntegerKey.object c.in-IntegerKey.key _ (value_of c.args.value) c.args.world.now stored.new.world stored.result c.in-IntegerKey.is (search rules) stored.ensures.stored (Some io));
      counts = search rules;
      sound = search rules;
    }

pub returns-in-IntegerKey-clause-ok : goal.returns-in-IntegerKey-clause-ok
returns-in-IntegerKey-clause-ok g c =
    let stored = c.store-in-IntegerKey in
    set_key c.args.name.now c.in-IntegerKey.object c.in-IntegerKey.key _ _ c.args.world.now stored.new.world stored.result c.in-IntegerKey.is (search rules) stored.ensures.stored

pub returns-in_ok-clone-in-StringKey-clause-served : goal.returns-in_ok-clone-in-StringKey-clause-served
returns-in_ok-clone-in-StringKey-clause-served g c =
    let stored = c.store-in-StringKey in
    record {
      told = assigned_there c.args.name.now (name.StringKey c.in-StringKey.object c.in_ok-clone-in-StringKey.field-0) _ c.args.world.now stored.new.world _ _
          (c.in-StringKey.is ∙ ap (name.StringKey c.in-StringKey.object) (sym c.in_ok-clone-in-StringKey.ensures.cases)) stored.ensures.stored;
      some = OfAny (λ io. assigned_there c.args.name.now (name.StringKey c.in-StringKey.object c.in_ok-clone-in-StringKey.field-0) (value_of c.args.value) c.args.world.now stored.new.world (done stored.result) (Some io)
          (c.in-StringKey.is ∙ ap (name.StringKey c.in-StringKey.object) (sym c.in_ok-clone-in-StringKey.ensures.cases)) stored.ensures.stored);
      counts = search rules;
      sound = search rules;
    }

pub returns-in_ok-clone-in-StringKey-clause-ok : goal.returns-in_ok-clone-in-StringKey-clause-ok
returns-in_ok-clone-in-StringKey-clause-ok g c =
    let stored = c.store-in-StringKey in
    set_there c.args.name.now (name.StringKey c.in-StringKey.object c.in_ok-clone-in-StringKey.field-0) _ c.args.world.now stored.new.world stored.result
    (c.in-StringKey.is ∙ ap (name.StringKey c.in-StringKey.object) (sym c.in_ok-clone-in-StringKey.ensures.cases)) (λ h. h) stored.ensures.stored

pub returns-in-Element-clause-asked : goal.returns-in-Element-clause-asked
returns-in-Element-clause-asked g c = no_unit c.store.result _ c.store.ensures.stop

pub returns-in-IntegerKey-clause-asked : goal.returns-in-IntegerKey-clause-asked
returns-in-IntegerKey-clause-asked g c = no_unit c.store-in-IntegerKey.result _ c.store-in-IntegerKey.ensures.stop

pub returns-in_ok-clone-in-StringKey-clause-asked : goal.returns-in_ok-clone-in-StringKey-clause-asked
returns-in_ok-clone-in-StringKey-clause-asked g c = no_unit c.store-in-StringKey.result _ c.store-in-StringKey.ensures.stop

pub returns-in-Variable-clause-asked : goal.returns-in-Variable-clause-asked
returns-in-Variable-clause-asked g c =
    prints_on _ (stopped_by c.assign_variable.result) _ _ (λ io. ap (λ n. io_after (assign_op (name_of n) (value_of c.args.value) (world_of c.args.world.now io))) c.in-Variable.is) c.assign_variable.ensures.asked

pub returns-in-Variable-clause-served : goal.returns-in-Variable-clause-served
returns-in-Variable-clause-served g c = served_on c.assign_variable.ensures.served (λ io io' p. rw c.in-Variable.is p)
