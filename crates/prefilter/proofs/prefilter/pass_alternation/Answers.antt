use Rattle.std.proofs.Common.{◌+◌, ◌-◌, ◌*◌, subst, sym, refl, arith}
use Rattle.std.specs.Prelude.{IfSome}
use Rattle.model.specs.Pattern.Steps.{Code}
use Rattle.prefilter.specs.Filters.{AreFirsts}
use Rattle.prefilter.specs.Starts.{ArePassed}
use Rattle.prefilter.specs.declared.prefilter.Passed.{Passed}
use Rattle.prefilter.proofs.Filters.{fits_within, nothing_passed, one_more, passed_more, starts_passed}
use Rattle.prefilter.proofs.prefilter.pass_alternation.Goals as goal
use Rattle.prefilter.proofs.prefilter.pass_alternation.Goals.{then-passed-eq0, else-passed-eq0}

pub loop-passed-preserved : goal.loop-passed-preserved
loop-passed-preserved c =
    let u = c.args.bytes.now in
    let code = c.args.code.now in
    let b = c.args.start in
    let left = c.args.left in
    let most = c.args.bound in
    let n = c.lost_from-fails.result in
    let p = c.loop-passed.passed in
    let next : Passed = record { starts = p.starts + 1; steps = p.steps + n } in
    let one : ArePassed u code b left most next = one_more u code b left most n p c.loop-passed.invariant.passed c.loop-passed-test.true c.lost_from-fails.ensures.bound (c.lost_from-fails.ensures.fails (omega (arith, c.if-fails-eq0.false))) in
    let filter : IfSome c.if-passed-eq0.filter (λ f. AreFirsts code f) = elim c.if-passed-eq0.branch [
      | then-passed-eq0 w ↦
          subst (λ o. IfSome o (λ f. AreFirsts code f)) (sym w.filter-is)
          (subst (λ (k : Code). IfSome w.firsts_of-filter.result (λ f. AreFirsts k f)) w.as_slice.ensures w.firsts_of-filter.ensures)
      | else-passed-eq0 w ↦ subst (λ o. IfSome o (λ f. AreFirsts code f)) (sym w.filter-is) c.loop-passed.invariant.filter
    ] in
    record { passed = one; filter = filter }

pub loop-passed-preserved-in-Some : goal.loop-passed-preserved-in-Some
loop-passed-preserved-in-Some c =
    let u = c.args.bytes.now in
    let code = c.args.code.now in
    let b = c.args.start in
    let left = c.args.left in
    let most = c.args.bound in
    let n = c.lost_from-fails.result in
    let p = c.loop-passed.passed in
    let next : Passed = record { starts = p.starts + 1; steps = p.steps + n } in
    let one : ArePassed u code b left most next = one_more u code b left most n p c.loop-passed.invariant.passed c.loop-passed-test.true c.lost_from-fails.ensures.bound (c.lost_from-fails.ensures.fails (omega (arith, c.if-fails-eq0.false))) in
    let filter : IfSome c.if-passed-eq0.filter (λ f. AreFirsts code f) = elim c.if-passed-eq0.branch [
      | then-passed-eq0 w ↦
          subst (λ o. IfSome o (λ f. AreFirsts code f)) (sym w.filter-is)
          (subst (λ (k : Code). IfSome w.firsts_of-filter.result (λ f. AreFirsts k f)) w.as_slice.ensures w.firsts_of-filter.ensures)
      | else-passed-eq0 w ↦ subst (λ o. IfSome o (λ f. AreFirsts code f)) (sym w.filter-is) c.loop-passed.invariant.filter
    ] in
    let k = c.missing_for-starts.result in
    let m = c.in-Some.keys.steps in
    let few = c.missing_for-starts.ensures.limit in
    let firsts : AreFirsts code c.in-Some.keys = subst (λ o. IfSome o (λ f. AreFirsts code f)) c.in-Some.is filter in
    let others : ArePassed u code (b + (p.starts + 1)) (left - (p.starts + 1)) (most - (p.steps + n)) (record { starts = k; steps = k * (m + 1) }) = starts_passed u code (b + (p.starts + 1)) (left - (p.starts + 1)) (most - (p.steps + n)) k m (m + 1) refl (omega (arith, few, c.min-limit.ensures)) (fits_within k (left - (p.starts + 1)) (most - (p.steps + n)) (m + 1) (omega (arith, few, c.min-limit.ensures)) (omega arith)) (c.missing_for-starts.ensures.fails code firsts) in
    record { passed = passed_more u code b left most next (record { starts = k; steps = k * (m + 1) }) one others; filter = filter }
