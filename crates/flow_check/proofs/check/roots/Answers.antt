use Rattle.std.proofs.Common.{None, ◌∙◌}
use Rattle.flow_check.specs.Marks.{seeded}
use Rattle.flow_check.specs.Shapes.{empty_shape}
use Rattle.flow_check.specs.declared.shapes.Mode.TheVariants.{Goto}
use Rattle.flow_check.proofs.Seeding.{seeded_same}
use Rattle.flow_check.proofs.check.roots.Goals as goal

pub returns : goal.returns
returns c = λ y.
    c.in_ok-seed-2.ensures y ∙
    seeded_same _ _ _ _ _ (seeded c.args.image.now.statements (empty_shape Goto) (λ x. None)) c.expressions.ensures c.empty-2.ensures
    (λ z. c.in_ok-seed.ensures z ∙ seeded_same _ _ _ _ _ (λ x. None) c.statements.ensures c.empty.ensures c.in_ok-marks.ensures z) y
