use Rattle.std.proofs.Common.{◌∙◌, ◌<◌, length, arith}
use Rattle.flow_check.specs.Marks.{marked}
use Rattle.flow_check.proofs.Seeding.{seed_step, any_default}
use Rattle.flow_check.proofs.check.seed.Goals as goal

pub loop-offset-preserved : goal.loop-offset-preserved
loop-offset-preserved c =
    let lt : c.loop-offset.offset-index < length c.args.offsets.now = omega arith in
    λ y. seed_step c.args.offsets.now c.loop-offset.offset-index _ c.args.shape (marked c.loop-offset.marks) _ lt (any_default _ _ _ _ lt) c.in_ok-note.ensures y ∙ c.loop-offset.invariant y
