use Rattle.std.proofs.Common.{arith, subst}
use Rattle.std.specs.List.{AllByRecursion}
use Rattle.values.proofs.Living.{all_taken}
use Rattle.frames.specs.Frames.{IsCall}
use Rattle.frames.proofs.Reaching.{all_reverse}
use Rattle.frames.proofs.marking.are_calls.Goals as goal

pub returns : goal.returns
returns c = λ _.
    let items = c.as_slice-items.result.now in
    subst (AllByRecursion IsCall) c.as_slice-items.ensures (all_reverse IsCall items (all_taken IsCall items c.loop-frame.frame-index (omega (arith, c.loop-frame-test.false)) c.loop-frame.invariant))
