use Rattle.std.proofs.Common.{ap, subst, ◌∙◌}
use Rattle.std.specs.Prelude.{IfSome}
use Rattle.match_machine.specs.Again.{IsAskedAgain}
use Rattle.match_machine.specs.View.{answer_view}
use Rattle.frames.proofs.Matches.{answered_seen, runs_after}
use Rattle.frames.specs.Matches.{Match}
use Rattle.frames.specs.declared.matching.Held.{Held}
use Rattle.frames.proofs.matching.Matching.answer_again.Goals as goal

abbrev Again : goal.In-Some → Type 0
Again c =
    let held = c.deref_mut.result.now.matcher in
    IsAskedAgain held.subject held.code (answer_view c.args.answer.now) c.in-Some.count held.state c.answer_again.new.self.state

again : (c : goal.In-Some) → Again c
again c =
    let held = c.deref_mut.result.now.matcher in
    subst (λ o. IfSome o (λ n. IsAskedAgain held.subject held.code (answer_view c.args.answer.now) n held.state c.answer_again.new.self.state)) c.in-Some.is c.in_ok-count.ensures.again

pub returns-clause-answered : goal.returns-clause-answered
returns-clause-answered c =
    let held = c.deref_mut.result.now in
    let seen : Held → Match = λ h. record { search = h.matcher; place = h.place; keep = h.keep } in
    answered_seen held.matcher c.answer_again.new.self held.place held.keep c.args.self.now (answer_view c.args.answer.now) c.in-Some.count
    (ap seen c.deref_mut.ensures.value ∙ c.self.view_is) c.in_ok-count.ensures.same (again c)

pub returns-clause-running : goal.returns-clause-running
returns-clause-running c =
    let held = c.deref_mut.result.now.matcher in
    runs_after held.subject held.code (answer_view c.args.answer.now) c.in-Some.count held.state c.answer_again.new.self.state (again c)
