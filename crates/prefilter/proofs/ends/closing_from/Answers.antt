use Rattle.std.proofs.Common.{◌+◌, ◌<◌, ◌≤◌, ◌∙◌, length, count_by, take, drop, ◌==◌, arith}
use Rattle.std.proofs.lemmas.List.Sums.{count_by-le-length}
use Rattle.std.proofs.lemmas.Simd.{length-chunk}
use Rattle.prefilter.proofs.PlainBytes.{still_open}
use Rattle.prefilter.proofs.ends.closing_from.Goals as goal

pub loop-at-preserved-then-closed-depth : goal.loop-at-preserved-then-closed-depth
loop-at-preserved-then-closed-depth c =
    let u = c.args.subject.now in
    let at = c.loop-at.at in
    let xs = take 16 (drop at u) in
    let shut = c.places_of.ensures.ones in
    let opened = c.places_of-then-closed-depth.ensures.ones in
    let inside : at + 16 ≤ length u = omega (arith, c.if-subject-at-ge16.true, c.loop-at-test.true) in
    let fewer : count_by (λ b. b == 41) xs < c.loop-at.depth = omega (arith, c.if-closed-depth.true, shut) in
    record {
      ends = rw (opened, shut) (still_open u 16 at c.loop-at.depth inside fewer ∙ c.loop-at.invariant.ends);
      depth = omega (arith, c.loop-at.invariant.depth, c.if-closed-depth.true, opened, count_by-le-length (λ b. b == 40) xs, length-chunk at 16 u inside);
      within = inside;
    }
