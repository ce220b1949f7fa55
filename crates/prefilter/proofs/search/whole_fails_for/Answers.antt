use Rattle.std.proofs.Common.{◌≡◌, ◌+◌, ◌-◌, length, take, drop, subst, arith}
use Rattle.std.specs.Prelude.{min}
use Rattle.std.proofs.lemmas.List.{length-drop, length-take}
use Rattle.model.specs.Pattern.Patterns.{Lit}
use Rattle.prefilter.specs.Starts.{FailsFrom}
use Rattle.prefilter.proofs.Needles.{fails_before, fails_on}
use Rattle.prefilter.proofs.search.whole_fails_for.Goals as goal

pub returns-in-Some-clause-fails : goal.returns-in-Some-clause-fails
returns-in-Some-clause-fails c =
    let u = c.args.subject.now in
    let w = c.args.text.now in
    let at = c.args.from + c.loop-tries.passed in
    let n = c.min.result in
    fails_on u (Lit w) c.args.from c.loop-tries.passed n c.loop-tries.invariant.fails
    (fails_before u w at _ n c.in-Some.more
    (omega (arith, c.requires.within, c.loop-tries.invariant.within, c.min.ensures)) (omega (arith, c.min.ensures))
    (λ k l m. omega (arith, l, m, c.min.ensures, c.min-far.ensures, c.saturating_add.ensures)) c.in-Some.ensures.0.before)

pub returns-in-None-clause-fails : goal.returns-in-None-clause-fails
returns-in-None-clause-fails c =
    let u = c.args.subject.now in
    let w = c.args.text.now in
    let from = c.args.from in
    let passed = c.loop-tries.passed in
    let at = from + passed in
    let n = c.args.limit - passed in
    let far = c.min-far.result in
    let size : length (take (at + far - at) (drop at u)) ≡ min (at + far - at) (length (drop at u)) = length-take (at + far - at) (drop at u) in
    let all : passed + n ≡ c.args.limit = omega (arith, c.loop-tries.invariant.within) in
    subst (λ m. FailsFrom u (Lit w) from m) all
    (fails_on u (Lit w) from passed n c.loop-tries.invariant.fails
    (fails_before u w at _ n _ (omega (arith, c.requires.within, c.loop-tries.invariant.within))
    (omega (arith, c.requires.within, c.loop-tries.invariant.within, c.min-far.ensures, c.saturating_add.ensures, c.ranges.limit.fits, size, length-drop at u))
    (λ k l m. omega (arith, l, m, c.min-far.ensures, c.saturating_add.ensures)) c.in-None.ensures))
