use Rattle.std.proofs.Common.{[], suc, length, arith, ap, List, map, take, get_or, ◌∙◌}
use Rattle.std.specs.List.{sum}
use Rattle.model.specs.declared.image.PatInstr.{PatInstr}
use Rattle.model.specs.Module.WellFormed.{pattern_bytes}
use Rattle.loader.proofs.Sizes.{next, taken, pattern_count}
use Rattle.loader.proofs.patterns.patterns_fault.Goals as goal

pub pattern_fault-fault-requires-clause-count : goal.pattern_fault-fault-requires-clause-count
pattern_fault-fault-requires-clause-count c =
    let im = c.args.image.now in
    let e = c.patterns-patterns.ensures in
    let k = c.loop-pattern.pattern-index in
    let p = c.pattern-item.result in
    omega (arith, pattern_count [] im.patterns k p c.requires.spelt.patterns.entries (omega (arith, c.loop-pattern-test.true, ap length e)), ap length (c.pattern-item.is ∙ ap (λ (ps : List (List PatInstr)). get_or ps k p) e), ap length c.as_slice.ensures)

pub pattern_fault-fault-requires-clause-there : goal.pattern_fault-fault-requires-clause-there
pattern_fault-fault-requires-clause-there c =
    let im = c.args.image.now in
    let e = c.patterns-patterns.ensures in
    let k = c.loop-pattern.pattern-index in
    omega (arith, c.requires.there, c.loop-pattern.invariant.place, taken pattern_bytes im.patterns k, ap (λ (ps : List (List PatInstr)). sum (map pattern_bytes (take k ps))) e)

pub pattern_bytes-offset-requires : goal.pattern_bytes-offset-requires
pattern_bytes-offset-requires c =
    let im = c.args.image.now in
    let e = c.patterns-patterns.ensures in
    let k = c.loop-pattern.pattern-index in
    let p = c.pattern-item.result in
    omega (arith, pattern_count [] im.patterns k p c.requires.spelt.patterns.entries (omega (arith, c.loop-pattern-test.true, ap length e)), ap length (c.pattern-item.is ∙ ap (λ (ps : List (List PatInstr)). get_or ps k p) e), ap length c.as_slice-in-loop-pattern.ensures)

pub overflow_add-offset : goal.overflow_add-offset
overflow_add-offset c =
    let im = c.args.image.now in
    let ps = c.patterns-patterns.result.now in
    let k = c.loop-pattern.pattern-index in
    let p = c.pattern-item.result in
    omega (arith, c.requires.there, c.loop-pattern.invariant.place, c.pattern_bytes-offset.ensures, next pattern_bytes ps k p c.loop-pattern-test.true, taken pattern_bytes ps (suc k), ap (λ (qs : List (List PatInstr)). sum (map pattern_bytes qs)) c.patterns-patterns.ensures, ap pattern_bytes c.pattern-item.is, ap pattern_bytes c.as_slice-in-loop-pattern.ensures)
