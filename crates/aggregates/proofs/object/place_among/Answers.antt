use Rattle.std.proofs.Common.{refl, ◌∙◌, arith}
use Rattle.aggregates.proofs.Fields.{found_here, found_later, found_nowhere}
use Rattle.aggregates.proofs.object.place_among.Goals as goal

pub loop-k-init : goal.loop-k-init
loop-k-init c = refl

pub returns-then-eq : goal.returns-then-eq
returns-then-eq c =
    found_here c.args.name.now c.args.fields.now c.loop-k.k c.index-fields-k.result (omega arith) c.index-fields-k.is c.if-eq.ensures
    ∙ c.loop-k.invariant

pub loop-k-preserved : goal.loop-k-preserved
loop-k-preserved c =
    found_later c.args.name.now c.args.fields.now c.loop-k.k c.index-fields-k.result (omega arith) c.index-fields-k.is c.if-eq.ensures
    ∙ c.loop-k.invariant

pub returns : goal.returns
returns c = found_nowhere c.args.name.now c.args.fields.now c.loop-k.k (omega arith) ∙ c.loop-k.invariant
