use Rattle.std.proofs.Common.{◌+◌, subst}
use Rattle.pattern_compiler.specs.View.{basic_of, code_of}
use Rattle.prefilter.specs.Looks.{FailsAt}
use Rattle.prefilter.proofs.Looks.{fails_part, fails_split}
use Rattle.prefilter.proofs.look.parts_beside.Goals as goal

pub returns-in_default-clause-fails : goal.returns-in_default-clause-fails
returns-in_default-clause-fails c = λ u e ns none other.
    fails_part u (code_of c.args.instrs.now) ns c.args.place e (basic_of c.in_ok-part_of.field-0.now) c.in_ok-part_of.ensures none

pub returns-clause-fails : goal.returns-clause-fails
returns-clause-fails c = λ u e ns none none-2.
    let code = code_of c.args.instrs.now in
    let q = c.args.place in
    let split = c.in-Some.ensures.leads in
    let first : FailsAt u code ns (q + 1) e 1 = fails_part u code ns (q + 1) e (basic_of c.in_ok-part_of-2.field-0.now) c.in_ok-part_of-2.ensures none in
    let second : FailsAt u code ns c.in-Some.to e 1 = fails_part u code ns c.in-Some.to e (basic_of c.in_ok-part_of-3.field-0.now) c.in_ok-part_of-3.ensures none-2 in
    fails_split u code ns q e 1 1 split.0 split.1 first (subst (λ p. FailsAt u code ns p e 1) split.2 second)
