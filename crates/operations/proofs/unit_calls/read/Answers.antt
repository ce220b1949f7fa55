use Rattle.std.proofs.Common.{rules}
use Rattle.std.specs.Prelude.{option_map}
use Rattle.values.specs.Answers.{answer_map}
use Rattle.values.specs.Values.{value_of}
use Rattle.operations.proofs.UnitCalls.{end_some, read_ends, read_some, read_takes}
use Rattle.operations.proofs.Asked.{refused_read}
use Rattle.unit_io.specs.Service.{OfAny}
use Rattle.operations.proofs.Telling.{told_kept}
use Rattle.operations.proofs.unit_calls.read.Goals as goal

pub returns-in-Ok-Some-clause-served : goal.returns-in-Ok-Some-clause-served
returns-in-Ok-Some-clause-served g c = record {
  told = read_takes c.args.name.now c.args.unit _ c.in-Ok-Some.line c.args.world.now c.take.new.world _ _ _ c.in-Ok-Some.field-0-is c.in-Ok-Some.ensures.ok c.take.ensures.taken;
  some = read_some c.args.name.now c.args.unit _ c.in-Ok-Some.line c.args.world.now c.take.new.world _ _ (answer_map (option_map value_of) c.take.result) c.in-Ok-Some.field-0-is c.in-Ok-Some.ensures.ok c.take.ensures.taken;
  counts = search rules;
  sound = search rules;
}

pub returns-in-Ok-None-clause-served : goal.returns-in-Ok-None-clause-served
returns-in-Ok-None-clause-served g c = record {
  told = read_ends c.args.name.now c.args.unit _ c.args.world.now _ _ c.in-Ok-None.field-0-is c.in-Ok-None.ensures.ok;
  some = end_some c.args.name.now c.args.unit _ c.args.world.now _ _ c.in-Ok-None.field-0-is c.in-Ok-None.ensures.ok;
  counts = search rules;
  sound = search rules;
}

pub returns-in-Err-clause-asked : goal.returns-in-Err-clause-asked
returns-in-Err-clause-asked g c = refused_read _ c.args.unit c.in-Err.cause c.stop_of.result c.args.name.now c.args.world.now c.stop_of.ensures c.in-Err.ensures.may

pub returns-in-Err-clause-served : goal.returns-in-Err-clause-served
returns-in-Err-clause-served g c = record {
  told = told_kept _ _ _ c.in-Err.ensures.err (λ io. tt);
  some = OfAny (λ io. tt);
  counts = search rules;
  sound = search rules;
}
