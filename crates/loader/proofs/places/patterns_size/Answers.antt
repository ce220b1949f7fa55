use Rattle.std.proofs.Common.{suc, [], arith, ap, length}
use Rattle.model.specs.Module.WellFormed.{pattern_bytes}
use Rattle.loader.proofs.Sizes.{next, taken, patterns_short, pattern_count}
use Rattle.loader.proofs.places.patterns_size.Goals as goal

pub pattern_bytes-size-requires : goal.pattern_bytes-size-requires
pattern_bytes-size-requires c =
    let ps = c.args.patterns.now in
    omega (arith, pattern_count [] ps c.loop-pattern.pattern-index c.pattern-item.result c.requires.entries c.loop-pattern-test.true, ap length c.pattern-item.is, ap length c.as_slice.ensures)

pub overflow_add-size : goal.overflow_add-size
overflow_add-size c =
    let ps = c.args.patterns.now in
    let k = c.loop-pattern.pattern-index in
    let p = c.pattern-item.result in
    omega (arith, c.loop-pattern.invariant, c.pattern_bytes-size.ensures, next pattern_bytes ps k p c.loop-pattern-test.true, taken pattern_bytes ps (suc k), patterns_short ps c.requires, ap pattern_bytes c.pattern-item.is, ap pattern_bytes c.as_slice.ensures)
