use Rattle.std.proofs.Common.{◌≡◌, ◌∙◌, sym, ap, subst, [], map, take, arith, Ok}
use Rattle.std.proofs.lemmas.Grind.{common_steps}
use Rattle.std.proofs.lemmas.Result.{err_from_is_err_and}
use Rattle.codegen.specs.Building.{HasPut}
use Rattle.codegen.specs.Labels.{name_of}
use Rattle.driver.proofs.CompiledDecks.{begins, ended, few_labels, few_names, names_are}
use Rattle.driver.proofs.WholeDecks.{accepted_is, cards_are, draft_is, fits, of_cards, of_statements}
use Rattle.driver.proofs.compiling.draft_of.Goals as goal

pub new-requires : goal.new-requires
new-requires c =
    let ss = c.as_slice-statements.result.now in
    few_labels name_of c.in_ok-labels.labels.items c.deref.result.now ss c.deref.ensures.value c.in_ok-labels.ensures
    (few_names c.decks_fit.ensures c.args.deck.now ss (c.in_ok-deck.ensures.statements ∙ ap Ok (sym c.as_slice-statements.ensures)))

pub loop-statement-init : goal.loop-statement-init
loop-statement-init c =
    begins (map name_of c.in_ok-labels.labels.items) c.as_slice-statements.result.now c.new-reader.result c.in_ok-builder.builder c.new-reader.ensures
    (subst (λ ns. HasPut (map name_of ns) [] c.in_ok-builder.builder) c.deref.ensures.value c.in_ok-builder.ensures)

pub put_next-requires : goal.put_next-requires
put_next-requires c =
    let ss = c.as_slice-statements.result.now in
    (c.args.deck.now, map name_of c.in_ok-labels.labels.items, ss, c.loop-statement.statement-index, c.in_ok-deck.ensures.statements ∙ ap Ok (sym c.as_slice-statements.ensures), c.loop-statement-test.true, c.statement-item.is, c.loop-statement.invariant)

pub loop-statement-preserved : goal.loop-statement-preserved
loop-statement-preserved c =
    c.in_ok-put_next.ensures (map name_of c.in_ok-labels.labels.items) c.as_slice-statements.result.now c.loop-statement.statement-index c.loop-statement-test.true c.statement-item.is c.loop-statement.invariant

pub returns-in_err-deck-clause-refused : goal.returns-in_err-deck-clause-refused
returns-in_err-deck-clause-refused c =
    let p = err_from_is_err_and c.from_residual.result c.from_residual.ensures.1 in
    rw (p.1) (of_cards c.args.deck.now c.in_err-deck.field-0.0 p.0 c.in_err-deck.ensures.fault p.2)

pub returns-in_err-finish-clause-refused : goal.returns-in_err-finish-clause-refused
returns-in_err-finish-clause-refused c =
    let ss = c.as_slice-statements.result.now in
    let all : take c.loop-statement.statement-index ss ≡ ss = grind (arith, common_steps, c.loop-statement-test.false) in
    let e = ended (map name_of c.in_ok-labels.labels.items) ss c.loop-statement.statement-index c.loop-statement.reader c.loop-statement.builder all c.loop-statement.invariant in
    let p = err_from_is_err_and c.from_residual-in_err-finish.result c.from_residual-in_err-finish.ensures.1 in
    rw (p.1) (of_statements c.args.deck.now ss c.in_err-finish.field-0.0 p.0 (c.in_ok-deck.ensures.statements ∙ ap Ok (sym c.as_slice-statements.ensures)) (c.in_err-finish.ensures.refused ss e.has_read) p.2)

pub finish-requires-2-clause-few : goal.finish-requires-2-clause-few
finish-requires-2-clause-few c =
    let ss = c.as_slice-statements.result.now in
    few_labels name_of c.in_ok-labels.labels.items c.deref-2.result.now ss c.deref-2.ensures.value c.in_ok-labels.ensures
    (few_names c.decks_fit.ensures c.args.deck.now ss (c.in_ok-deck.ensures.statements ∙ ap Ok (sym c.as_slice-statements.ensures)))

pub finish-requires-2-clause-put : goal.finish-requires-2-clause-put
finish-requires-2-clause-put c =
    let ss = c.as_slice-statements.result.now in
    let deck = c.in_ok-deck.ensures.statements ∙ ap Ok (sym c.as_slice-statements.ensures) in
    let all : take c.loop-statement.statement-index ss ≡ ss = grind (arith, common_steps, c.loop-statement-test.false) in
    let e = ended (map name_of c.in_ok-labels.labels.items) ss c.loop-statement.statement-index c.loop-statement.reader c.loop-statement.builder all c.loop-statement.invariant in
    let none = c.in_ok-finish.ensures.faultless ss e.has_read in
    let accepted = accepted_is c.args.deck.now ss e.trees deck none (e.all none) in
    (e.trees, subst (λ ns. HasPut (map name_of ns) e.trees c.loop-statement.builder) (sym c.deref-2.ensures.value) e.has_put, fits c.args.deck.now e.trees accepted)

pub returns-clause-draft : goal.returns-clause-draft
returns-clause-draft c =
    let ss = c.as_slice-statements.result.now in
    let text = c.args.deck.now in
    let deck = c.in_ok-deck.ensures.statements ∙ ap Ok (sym c.as_slice-statements.ensures) in
    let all : take c.loop-statement.statement-index ss ≡ ss = grind (arith, common_steps, c.loop-statement-test.false) in
    let e = ended (map name_of c.in_ok-labels.labels.items) ss c.loop-statement.statement-index c.loop-statement.reader c.loop-statement.builder all c.loop-statement.invariant in
    let none = c.in_ok-finish.ensures.faultless ss e.has_read in
    let accepted = accepted_is text ss e.trees deck none (e.all none) in
    let given = c.deref-2.result.now in
    let names = ap (map name_of) c.deref-2.ensures.value ∙ c.in_ok-labels.ensures in
    let put = subst (λ ns. HasPut (map name_of ns) e.trees c.loop-statement.builder) (sym c.deref-2.ensures.value) e.has_put in
    record {
      statements = e.trees;
      trees = accepted;
      generated = draft_is text c.in_ok-cards.cards e.trees c.in_ok-draft.draft (c.in_ok-draft.ensures e.trees put (fits text e.trees accepted) (names_are text (map name_of given) ss e.trees deck accepted names)) (cards_are text ss c.in_ok-cards.cards deck c.in_ok-cards.ensures);
    }
