use Rattle.std.proofs.Common.{refl}
use Rattle.statement_machine.proofs.Seeing.{told_if_ran}
use Rattle.driver.proofs.Standing.{stopped_stands}
use Rattle.driver.proofs.WholeRuns.{is_run, refines}
use Rattle.driver.proofs.watching.watch_with_card.Goals as goal

pub returns-clause-run : goal.returns-clause-run
returns-clause-run g c =
    let served = c.watch_from_entry-status.ensures.served in
    let loaded = c.in_ok-program.ensures.loaded in
    record {
      image = c.in_ok-program.program;
      read = loaded.0;
      loaded = loaded.1;
      run = told_if_ran c.watch_from_entry-status.result (g.U.Units.told c.args.units.now) (g.U.Units.told c.watch_from_entry-status.new.units) _ served.told;
      stopped = c.watch_from_entry-status.ensures.printed;
      stands = stopped_stands c.in_ok-program.program c.args.bound c.watch_from_entry-status.result (g.U.Units.told c.args.units.now) (g.U.Units.told c.watch_from_entry-status.new.units) c.watch_from_entry-status.ensures.printed;
      asked = c.watch_from_entry-status.ensures.asked;
    }

pub returns-clause-counts : goal.returns-clause-counts
returns-clause-counts g c = c.watch_from_entry-status.ensures.served.counts

pub returns-clause-meaning : goal.returns-clause-meaning
returns-clause-meaning g c deck m =
    let before = g.U.Units.told c.args.units.now in
    let after = g.U.Units.told c.watch_from_entry-status.new.units in
    let bytes = c.args.bytes.now in
    refines deck c.args.bound c.watch_from_entry-status.result before after (is_run deck bytes bytes c.args.bound c.watch_from_entry-status.result before after refl m (returns-clause-run g c))

pub returns-clause-card : goal.returns-clause-card
returns-clause-card g c = (c.in_ok-program.program, c.in_ok-program.ensures.loaded.0, c.card_told-card.ensures)
