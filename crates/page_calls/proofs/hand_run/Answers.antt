use Rattle.std.proofs.Common.{◌∙◌, sym, []}
use Rattle.model.specs.declared.run.Status.TheVariants as status
use Rattle.page_calls.proofs.Shows.{nothing_is_shown}
use Rattle.page_calls.proofs.hand_run.Goals as goal

pub returns-in-Err : goal.returns-in-Err
returns-in-Err c = record {
  bytes = [];
  came_to = status.Running;
  whole = c.put-shown-in-Err.ensures.whole;
  front = c.put-shown-in-Err.ensures.front;
  shown = nothing_is_shown c.args.deck.now c.args.input.now;
  normal = λ z. c.exit_status-in-Err.ensures (sym c.from-shown-in-Err.ensures ∙ z);
}
