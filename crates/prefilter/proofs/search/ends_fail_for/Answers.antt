use Rattle.std.proofs.Common.{arith}
use Rattle.prefilter.proofs.Needles.{fails_by_ends}
use Rattle.prefilter.proofs.search.ends_fail_for.Goals as goal

pub returns-then-at-to-clause-fails : goal.returns-then-at-to-clause-fails
returns-then-at-to-clause-fails c =
    fails_by_ends c.args.subject.now c.args.text.now c.args.from c.args.limit _ (omega (arith, c.requires)) (omega (arith, c.in-len2-up.len_at_least))
    (λ k l m fits. c.pair_place-at.ensures.others k l (omega (arith, m, fits, c.if-at-to.true, c.min.ensures)))

pub returns-else-at-to-clause-fails : goal.returns-else-at-to-clause-fails
returns-else-at-to-clause-fails c =
    fails_by_ends c.args.subject.now c.args.text.now c.args.from _ _ (omega (arith, c.requires, c.pair_place-at.ensures.ends, c.min.ensures)) (omega (arith, c.in-len2-up.len_at_least))
    (λ k l m fits. c.pair_place-at.ensures.others k l (omega (arith, m, c.pair_place-at.ensures.ends)))
