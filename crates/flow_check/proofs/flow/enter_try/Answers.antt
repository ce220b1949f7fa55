use Rattle.std.proofs.Common.{◌∙◌, refl, ap, Some}
use Rattle.flow_check.specs.declared.pool.Top.TheVariants.{Try}
use Rattle.flow_check.specs.Numbers.{node}
use Rattle.flow_check.proofs.SameShapes.{shape_grown}
use Rattle.flow_check.proofs.flow.enter_try.Goals as goal

pub returns-clause-advanced : goal.returns-clause-advanced
returns-clause-advanced c = λ s h.
    let k = (c.if-not-is_kept.ensures _ s h).0 refl in
    let g = c.in_ok-handlers.ensures.grows in
    let all = shape_grown _ _ g _ _ h in
    let at = c.in_ok-handlers.ensures.put ∙ ap (λ n. Some (node (Try c.args.target n) c.args.shape.handlers)) h.depth in
    ((s.kinds, refl, k), record { mode = all.mode; kinds = all.kinds; depth = all.depth; handlers = (_, at, all.handlers); floor = all.depth }, (refl, all))
