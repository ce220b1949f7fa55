use Rattle.std.proofs.Common.{◌≡◌, ap, ◌∙◌, take, arith}
use Rattle.std.proofs.lemmas.Grind.{common_steps}
use Rattle.values.specs.Functions.{function_of_type}
use Rattle.operations.proofs.TypeFunctions.{constructor_first, field_turn}
use Rattle.operations.proofs.types.functions_of.Goals as goal

pub loop-field-init : goal.loop-field-init
loop-field-init c = record {
  made = constructor_first c.args.prototype.now.name c.in_ok-clone.field-0 c.args.prototype.now.fields c.in_ok-from_slice.field-0 c.new-made.result.entries c.insert.new.self.entries
      c.new-made.ensures.empty (c.in_ok-clone.ensures.cases ∙ c.name.ensures) (c.in_ok-from_slice.ensures ∙ c.fields-fields.ensures) c.in_ok-_none.ensures.updates.0;
  unique = c.in_ok-_none.ensures.unique;
}

pub loop-field-preserved : goal.loop-field-preserved
loop-field-preserved c = record {
  made = field_turn c.args.prototype.now.name c.args.prototype.now.fields c.fields-fields.result.now c.loop-field.field-index c.field-item.result c.in_ok-clone-2.field-0 c.loop-field.made.entries c.insert-in-loop-field.new.self.entries
      c.loop-field-test.true c.field-item.is c.in_ok-clone-2.ensures.cases c.in_ok-_old.ensures.updates.0 c.loop-field.invariant.made;
  unique = c.in_ok-_old.ensures.unique;
}

pub returns-clause-function : goal.returns-clause-function
returns-clause-function c x =
    let all : take c.loop-field.field-index c.fields-fields.result.now ≡ c.fields-fields.result.now = grind (arith, common_steps, c.loop-field-test.false) in
    c.loop-field.invariant.made x ∙ ap (λ fs. function_of_type c.args.prototype.now.name c.args.prototype.now.fields fs x) (all ∙ c.fields-fields.ensures)
