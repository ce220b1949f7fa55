use Rattle.std.proofs.Common.{◌∙◌, arith}
use Rattle.aggregates.proofs.Counts.{counted_same, counted_some}
use Rattle.aggregates.proofs.bounds.elements_in.Goals as goal

pub loop-dimension-preserved : goal.loop-dimension-preserved
loop-dimension-preserved c = record {
  same = c.saturating_mul-count.ensures ∙ counted_same c.args.bounds.now c.loop-dimension.dimension-index c.dimension-item.result (omega arith) c.dimension-item.is c.loop-dimension.count c.count.result 18446744073709551615 (omega arith) c.loop-dimension.invariant.same c.loop-dimension.invariant.some c.count.ensures.count c.count.ensures.some;
  some = counted_some c.args.bounds.now c.loop-dimension.dimension-index c.dimension-item.result (omega arith) c.dimension-item.is c.loop-dimension.invariant.some c.count.ensures.some;
}
