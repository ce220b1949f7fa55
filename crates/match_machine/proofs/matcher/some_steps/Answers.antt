use Rattle.std.proofs.Common.{◌≡◌, List, ℕ, subst}
use Rattle.match_machine.specs.Moved.{Advances}
use Rattle.match_machine.specs.declared.state.Run.{Run}
use Rattle.match_machine.proofs.Begun.{one_step}
use Rattle.match_machine.proofs.matcher.some_steps.Goals as goal
use Rattle.match_machine.proofs.matcher.some_steps.Goals.{in_default-via-in-Some+in-Said+in-Some+in_default, in_default-via-in-Some+in-Said+in_default, in_default-via-in-Some+in_default, in_default-via-in_default}

pub returns-in_ok-take_answer-in_default : goal.returns-in_ok-take_answer-in_default
returns-in_ok-take_answer-in_default c =
    let u = c.args.bytes.now in
    let code = c.args.code.now in
    let run = c.args.run.now in
    let new = c.take_answer.new.run in
    let same : c.in_default.run ≡ run = elim c.in_default.branch [
      | in_default-via-in-Some+in-Said+in-Some+in_default w ↦ w.run-is
      | in_default-via-in-Some+in-Said+in_default w ↦ w.run-is
      | in_default-via-in-Some+in_default w ↦ w.run-is
      | in_default-via-in_default w ↦ w.run-is
    ] in
    let next : Advances u code c.in_default.run new = subst (λ (w : List ℕ). Advances w code c.in_default.run new) c.requires.text (c.in_ok-take_answer-in_default.ensures code) in
    one_step u code c.args.bound run new c.requires.going c.requires.bound (subst (λ (r : Run). Advances u code r new) same next)
