use Rattle.std.proofs.Common.{List, ap, ◌∙◌, []}
use Rattle.backtrack.specs.Standing.{Back}
use Rattle.match_machine.specs.View.{choices_of, thread_of}
use Rattle.model.specs.Pattern.Steps as s
use Rattle.match_machine.proofs.run.onward_out.Goals as goal

pub returns : goal.returns
returns c =
    let run = c.args.run.now in
    let t = c.move_on.new.thread in
    record {
      state = λ u.
          c.stay.ensures u
          ∙ ap (λ (x : s.Thread). s.go x (choices_of u t.trail.backs) run.start run.left []) c.in_ok-move_on.ensures.thread
          ∙ ap (λ (bs : List Back). s.go (s.onward (thread_of run.thread) c.args.place c.args.cursor) (choices_of u bs) run.start run.left []) c.in_ok-move_on.ensures.choices;
    }
