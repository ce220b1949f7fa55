use Rattle.driver.proofs.WholeRuns.{card_is, is_run, refines, only_memory}
use Rattle.driver.proofs.watching.watch_deck.Goals as goal

pub returns-in-Ok-clause-run : goal.returns-in-Ok-clause-run
returns-in-Ok-clause-run g c =
    is_run c.args.deck.now c.deref.result.now c.in_ok-module.module.items c.args.bound c.in-Ok.ran.status (g.U.Units.told c.args.units.now) (g.U.Units.told c.watch_with_card.new.units) c.deref.ensures.value c.in_ok-module.ensures.module c.in-Ok.ensures.run

pub lacking-requires : goal.lacking-requires
lacking-requires g c = record { memory = only_memory c.args.deck.now c.deref.result.now c.in_ok-module.module.items c.in-Err.fault c.deref.ensures.value c.in_ok-module.ensures.module c.in-Err.ensures.refused }

pub returns-in-Ok-clause-meaning : goal.returns-in-Ok-clause-meaning
returns-in-Ok-clause-meaning g c =
    refines c.args.deck.now c.args.bound c.in-Ok.ran.status (g.U.Units.told c.args.units.now) (g.U.Units.told c.watch_with_card.new.units) (returns-in-Ok-clause-run g c)

pub returns-in-Ok-clause-card : goal.returns-in-Ok-clause-card
returns-in-Ok-clause-card g c =
    card_is c.args.deck.now c.deref.result.now c.in_ok-module.module.items c.in-Ok.ran.status c.in-Ok.ran.card c.deref.ensures.value c.in_ok-module.ensures.module c.in-Ok.ensures.card
