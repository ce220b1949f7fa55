use Rattle.page_calls.proofs.Shows.{is_shown}
use Rattle.page_calls.proofs.running.run.Goals as goal

pub returns-in-Ok-printed_on-clause-shown : goal.returns-in-Ok-printed_on-clause-shown
returns-in-Ok-printed_on-clause-shown c =
    is_shown c.args.deck.now c.args.input.now c.in-Ok-printed_on.printed.items c.args.steps c.in_ok-ran.ran.status c.in-Ok.units c.run_deck.new.units.units c.in-Ok.ensures.left c.in-Ok.ensures.printed c.in-Ok-printed_on.ensures c.in_ok-ran.ensures.meaning
