use Rattle.std.proofs.Common.{suc, arith}
use Rattle.model.specs.declared.image.PatInstr.TheVariants.{Lit}
use Rattle.model.specs.Module.WellFormed.{pat_bytes}
use Rattle.loader.proofs.Sizes.{next, taken, pattern_sum}
use Rattle.loader.proofs.places.pattern_bytes.Goals as goal

pub overflow_add-size : goal.overflow_add-size
overflow_add-size c =
    let is = c.args.pattern.now in
    let k = c.loop-instr.instr-index in
    omega (arith, c.requires, c.loop-instr.invariant, c.pat_bytes-size.ensures, next pat_bytes is k (Lit 0) c.loop-instr-test.true, taken pat_bytes is (suc k), pattern_sum is)
