use Rattle.std.proofs.Common.{◌+◌, [], refl, subst}
use Rattle.model.specs.Pattern.Steps.{Code}
use Rattle.prefilter.specs.Looks.{StartFails}
use Rattle.prefilter.proofs.Filters.{last_fails}
use Rattle.prefilter.proofs.prefilter.lost_from.Goals as goal

pub returns-then-fails-gt0-clause-fails : goal.returns-then-fails-gt0-clause-fails
returns-then-fails-gt0-clause-fails c = λ some.
    subst (λ (k : Code). StartFails c.args.bytes.now k c.args.start (c.fails_at-fails.result + c.front-place.result.1 + 1)) c.as_slice-instrs.ensures
    (c.fails_at-fails.result + c.front-place.result.1, refl, c.front-place.ensures.leads c.args.bytes.now [] c.args.start c.fails_at-fails.result (λ ms. c.fails_at-fails.ensures.fails c.if-fails-gt0.true ms (record {})))

pub returns-then-fails-gt0-clause-lost : goal.returns-then-fails-gt0-clause-lost
returns-then-fails-gt0-clause-lost c = λ some.
    last_fails c.args.bytes.now c.args.code.now c.args.start (c.fails_at-fails.result + c.front-place.result.1 + 1)
    (subst (λ (k : Code). StartFails c.args.bytes.now k c.args.start (c.fails_at-fails.result + c.front-place.result.1 + 1)) c.as_slice-instrs.ensures
    (c.fails_at-fails.result + c.front-place.result.1, refl, c.front-place.ensures.leads c.args.bytes.now [] c.args.start c.fails_at-fails.result (λ ms. c.fails_at-fails.ensures.fails c.if-fails-gt0.true ms (record {}))))
