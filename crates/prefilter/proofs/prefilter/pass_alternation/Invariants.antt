use Rattle.std.proofs.Common.{◌-◌}
use Rattle.std.specs.Prelude.{IfSome}
use Rattle.pattern_compiler.specs.View.{code_of}
use Rattle.prefilter.specs.Filters.{AreFirsts}
use Rattle.prefilter.specs.Starts.{ArePassed}
use Rattle.prefilter.proofs.prefilter.pass_alternation.Given as goal

abbrev pub invariant-loop-passed : goal.invariant-loop-passed
invariant-loop-passed l = record {
  passed : ArePassed l.bytes l.code l.start l.left l.bound l.passed;
  filter : IfSome l.filter (λ f. AreFirsts l.code f);
}

abbrev pub decreases-loop-passed : goal.decreases-loop-passed
decreases-loop-passed l = l.left - l.passed.starts
