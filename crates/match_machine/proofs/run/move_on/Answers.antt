use Rattle.std.proofs.Common.{◌≡◌, ◌∷◌, ◌≤◌, ◌<◌, ◌∙◌, sym, ap, subst, arith, length}
use Rattle.std.specs.Prelude.{IfSome}
use Rattle.model.specs.Pattern.Steps.{Left, settled}
use Rattle.backtrack.specs.Standing.{Standing}
use Rattle.prefilter.proofs.Going.{settled_left, settled_within}
use Rattle.match_machine.proofs.run.move_on.Goals as goal

pub loop-thread-preserved : goal.loop-thread-preserved
loop-thread-preserved c =
    let t = c.loop-thread.thread in
    let l = c.leave.new.self in
    let p = c.in-Some.place in
    let e : t.trail ≡ record l { code = t.trail.code; notes = Left l.code p ∷ l.notes } =
    subst (λ o. IfSome o (λ q. t.trail ≡ record l { code = t.trail.code; notes = Left l.code q ∷ l.notes })) c.in-Some.is c.in_ok-place.ensures.left in
    let g : c.len.result ≡ length t.trail.code = c.len.ensures ∙ ap length c.code.ensures in
    let h : length t.trail.code ≤ t.place = omega (arith, g, c.loop-thread-test.true) in
    record {
      thread =
          sym (settled_left l.notes t.trail.code l.code t.place p t.cursor l.pending h)
          ∙ sym (ap (λ (v : Standing). settled v.notes v.code t.place t.cursor v.pending) e) ∙ c.loop-thread.invariant.thread;
      choices = sym (ap (λ (v : Standing). v.backs) e) ∙ c.loop-thread.invariant.choices;
    }

pub returns-clause-thread : goal.returns-clause-thread
returns-clause-thread c =
    let t = c.loop-thread.thread in
    let g : c.len.result ≡ length t.trail.code = c.len.ensures ∙ ap length c.code.ensures in
    let h : t.place < length t.trail.code = omega (arith, g, c.loop-thread-test.false) in
    sym (settled_within t.trail.notes t.trail.code t.place t.cursor t.trail.pending h) ∙ c.loop-thread.invariant.thread
