use Rattle.std.proofs.Common.{◌≡◌, subst, ◌∙◌, arith}
use Rattle.values.specs.Arguments.{AreFilled}
use Rattle.values.proofs.Filling.{none_filled, fill_turn}
use Rattle.values.proofs.arguments.fill.Goals as goal

pub loop-number-init : goal.loop-number-init
loop-number-init c = none_filled c.args.values.now.items c.len-number.result (c.len-number.ensures ∙ c.args.values.now.ok.0)

pub loop-number-preserved : goal.loop-number-preserved
loop-number-preserved c = fill_turn c.args.values.now.items c.loop-number.values.items c.put.new.values.items c.loop-number._number c.null.result c.null.ensures c.in_ok-put.ensures c.loop-number.invariant

pub returns : goal.returns
returns c =
    let all : c.loop-number._number ≡ c.args.count = omega (arith, c.requires) in
    subst (λ n. AreFilled n c.args.values.now.items c.loop-number.values.items) all c.loop-number.invariant
