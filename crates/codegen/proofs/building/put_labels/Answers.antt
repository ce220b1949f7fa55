use Rattle.std.proofs.Common.{◌≡◌, ◌<◌, [], length, refl, sym, subst, drop, arith}
use Rattle.std.proofs.lemmas.Grind.{common_steps}
use Rattle.expr_codegen.specs.Views.{gen_of}
use Rattle.codegen.proofs.LabelTables.{any_default}
use Rattle.codegen.proofs.Images.{Kept, begins, step, ends_labels, ends_texts}
use Rattle.codegen.proofs.building.put_labels.Goals as goal

pub loop-name-init : goal.loop-name-init
loop-name-init c = subst (λ ls. Kept c.args.names.now 0 1 ls (gen_of c.args.g.now) (gen_of c.args.g.now)) (sym c.new-labels.ensures.items) (begins c.args.names.now (gen_of c.args.g.now))

pub loop-name-preserved : goal.loop-name-preserved
loop-name-preserved c =
    let less : c.loop-name.name-index < length c.args.names.now = omega arith in
    step c.args.names.now c.loop-name.name-index c.loop-name.number _ _ c.loop-name.labels.items _ (gen_of c.args.g.now) (gen_of c.loop-name.g) _ less (any_default _ _ _ _ less) refl c.in_ok-put_label.ensures c.loop-name.invariant

pub returns-clause-texts : goal.returns-clause-texts
returns-clause-texts c =
    let none : drop c.loop-name.name-index c.args.names.now ≡ [] = grind (arith, common_steps, c.loop-name-test.false) in
    ends_texts c.args.names.now c.loop-name.name-index c.loop-name.number c.loop-name.labels.items (gen_of c.args.g.now) (gen_of c.loop-name.g) none c.loop-name.invariant

pub returns-clause-code : goal.returns-clause-code
returns-clause-code c = c.loop-name.invariant.1

pub returns-clause-labels : goal.returns-clause-labels
returns-clause-labels c =
    let none : drop c.loop-name.name-index c.args.names.now ≡ [] = grind (arith, common_steps, c.loop-name-test.false) in
    ends_labels c.args.names.now c.loop-name.name-index c.loop-name.number c.loop-name.labels.items (gen_of c.args.g.now) (gen_of c.loop-name.g) none c.loop-name.invariant
