use Rattle.std.proofs.Common.{◌<◌}
use Rattle.model.specs.Pattern.Patterns.{Lit}
use Rattle.prefilter.specs.Starts.{FailsFrom}
use Rattle.prefilter.proofs.search.whole_fails_for.Given as goal

abbrev pub invariant-loop-tries : goal.invariant-loop-tries
invariant-loop-tries l = record {
  fails : FailsFrom l.subject (Lit l.text) l.from l.passed;
  within : l.passed < l.limit;
}

abbrev pub decreases-loop-tries : goal.decreases-loop-tries
decreases-loop-tries l = l.tries
