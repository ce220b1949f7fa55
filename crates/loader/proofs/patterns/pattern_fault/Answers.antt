use Rattle.std.proofs.Common.{suc, arith}
use Rattle.model.specs.declared.image.PatInstr.TheVariants.{Lit}
use Rattle.model.specs.Module.WellFormed.{pat_bytes}
use Rattle.loader.proofs.Sizes.{next, taken, pattern_sum}
use Rattle.loader.proofs.patterns.pattern_fault.Goals as goal

pub overflow_add-offset-in-loop-k : goal.overflow_add-offset-in-loop-k
overflow_add-offset-in-loop-k c =
    let is = c.args.pattern.now in
    let k = c.loop-k.k in
    omega (arith, c.requires.count, c.requires.there, c.loop-k.invariant.place, c.pat_bytes-offset.ensures, next pat_bytes is k (Lit 0) c.loop-k-test.true, taken pat_bytes is (suc k), pattern_sum is)
