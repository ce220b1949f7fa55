use Rattle.std.proofs.Common.{subst, sym}
use Rattle.model.specs.Deck.Cards.{first_cards}
use Rattle.unit_io.specs.Files.{told_of}
use Rattle.unit_io.specs.Ways.{any_may_fail}
use Rattle.driver.specs.Whole.{IsRunOf, RefinesMeaning}
use Rattle.driver.proofs.FileRuns.{card_kept, finished_meaning, handed_on, run_on_files, sound_units, writes}
use Rattle.driver.proofs.on_files.run_deck_on_files.Goals as goal

pub returns-clause-meaning : goal.returns-clause-meaning
returns-clause-meaning g c =
    let exposes = g.S.UnitSystem.exposes in
    let deck = c.args.deck.now in
    let before = c.args.units.now in
    let after = c.flush.new.self in
    let told = c.in_ok-ran.ensures.meaning in
    writes exposes c.finished.result.status before after c.flush.ensures.kept deck c.args.bound
    (finished_meaning deck c.args.bound c.in_ok-ran.ran.status c.finished.result.status c.flush.result (told_of exposes before) (told_of exposes after) c.finished.ensures.status
    (subst (RefinesMeaning deck c.args.bound c.in_ok-ran.ran.status (told_of exposes before)) (sym c.flush.ensures.told) told))

pub returns-clause-handed_on : goal.returns-clause-handed_on
returns-clause-handed_on g c = handed_on c.in_ok-ran.ran.status c.finished.result.status c.flush.result _ c.finished.ensures.status c.flush.ensures.all

pub returns-clause-sound_units : goal.returns-clause-sound_units
returns-clause-sound_units g c =
    sound_units c.in_ok-ran.ran.status c.finished.result.status c.flush.result c.args.units.now.counts _ c.flush.new.self.counts
    c.finished.ensures.status c.in_ok-ran.ensures.counts c.flush.ensures.same

pub returns-clause-card : goal.returns-clause-card
returns-clause-card g c =
    card_kept (first_cards c.args.deck.now) c.in_ok-ran.ran.status c.finished.result.status c.flush.result c.in_ok-ran.ran.card c.finished.result.card c.finished.ensures.status c.finished.ensures.card c.in_ok-ran.ensures.card

pub returns-clause-run : goal.returns-clause-run
returns-clause-run g c =
    run_on_files g.S.UnitSystem.exposes (IsRunOf c.args.deck.now c.args.bound any_may_fail) c.in_ok-ran.ran.status c.finished.result.status c.flush.result c.args.units.now c.run_deck.new.units c.flush.new.self
    c.in_ok-ran.ensures.run c.in_ok-ran.ensures.counts c.finished.ensures.status c.flush.ensures.told c.flush.ensures.all c.flush.ensures.same c.flush.ensures.counted c.flush.ensures.others
