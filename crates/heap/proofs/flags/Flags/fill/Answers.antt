use Rattle.std.proofs.Common.{[], ◌∷◌, false, length, ap, arith, ◌∙◌}
use Rattle.heap.specs.Paged.{padded}
use Rattle.heap.proofs.Paging.{append_long, padded_more}
use Rattle.heap.proofs.flags.Flags.fill.Goals as goal

pub loop-place-preserved : goal.loop-place-preserved
loop-place-preserved c =
    let xs = c.loop-place.self-inside.flags.items in
    let long = ap length c.in_ok-push.ensures.items in
    let more = append_long xs (false ∷ []) in
    (ap (padded false 512) c.in_ok-push.ensures.items ∙ padded_more false 512 xs ∙ c.loop-place.invariant.0, omega (arith, long, more, c.loop-place.invariant.1))
