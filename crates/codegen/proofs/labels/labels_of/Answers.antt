use Rattle.std.proofs.Common.{◌≡◌, ◌<◌, [], length, refl, drop, arith}
use Rattle.std.proofs.lemmas.Grind.{common_steps}
use Rattle.codegen.proofs.LabelTables.{any_default, step, ends}
use Rattle.codegen.proofs.labels.labels_of.Goals as goal

pub loop-name-preserved : goal.loop-name-preserved
loop-name-preserved c =
    let less : c.loop-name.name-index < length c.args.names.now = omega arith in
    step c.args.names.now c.loop-name.name-index c.loop-name.number _ _ c.loop-name.labels _ less (any_default _ _ _ _ less) refl c.in_ok-note_given.ensures c.loop-name.invariant

pub returns : goal.returns
returns c =
    let none : drop c.loop-name.name-index c.args.names.now ≡ [] = grind (arith, common_steps, c.loop-name-test.false) in
    ends c.args.names.now c.loop-name.name-index c.loop-name.number c.loop-name.labels none c.loop-name.invariant
