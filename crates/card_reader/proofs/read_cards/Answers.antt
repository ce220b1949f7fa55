use Rattle.std.proofs.Common.{sym, ap, subst, arith, length, take}
use Rattle.std.specs.Prelude.{Ok, is_some, true, false}
use Rattle.model.specs.Deck.Cards.{kind_of_columns}
use Rattle.card_reader.specs.Parts.{step}
use Rattle.card_reader.specs.Reading.{merge, card_fault, IsCardRead}
use Rattle.card_reader.specs.Reached.{early}
use Rattle.card_reader.proofs.Answering.{if_ok, if_err, kind_columns}
use Rattle.card_reader.proofs.Following.{nothing_read, goes_on, ends_here, ends_nowhere}
use Rattle.card_reader.proofs.read_cards.Goals as goal

pub loop-line-init : goal.loop-line-init
loop-line-init c = record {
  reached = nothing_read c.args.deck.now c.new-reader.result c.new-reader.ensures.empty c.new-reader.ensures.begun;
  cards = omega arith;
  statements = omega (arith, ap length c.new-reader.ensures.statements);
}

pub returns-then-branch-clause-statements : goal.returns-then-branch-clause-statements
returns-then-branch-clause-statements c =
    let l = c.loop-line in
    let s = l.invariant.reached in
    let line = c.in-Some.line.now in
    let kind = sym (kind_columns l.card line) in
    let read = c.in_ok-read_card.ensures.read s.parts (early s.before) s.waits in
    let told = subst (λ b. IsCardRead (Ok b) c.read_card.new.self (step s.parts (kind_of_columns (take 72 line)) l.card) (merge (early s.before) (card_fault (is_some s.parts) (kind_of_columns (take 72 line)) l.card line))) c.if-branch.true read in
    let known = subst (λ k. IsCardRead (Ok true) c.read_card.new.self (step s.parts k l.card) (merge (early s.before) (card_fault (is_some s.parts) k l.card line))) kind told in
    if_ok c.finish.result _ _ (ends_here c.args.deck.now l.reader c.read_card.new.self l.card l.rest.now line c.in-Some.more.now s c.in-Some.ensures.0 known) c.finish.ensures.statements

pub returns-then-branch-clause-fault : goal.returns-then-branch-clause-fault
returns-then-branch-clause-fault c =
    let l = c.loop-line in
    let s = l.invariant.reached in
    let line = c.in-Some.line.now in
    let kind = sym (kind_columns l.card line) in
    let read = c.in_ok-read_card.ensures.read s.parts (early s.before) s.waits in
    let told = subst (λ b. IsCardRead (Ok b) c.read_card.new.self (step s.parts (kind_of_columns (take 72 line)) l.card) (merge (early s.before) (card_fault (is_some s.parts) (kind_of_columns (take 72 line)) l.card line))) c.if-branch.true read in
    let known = subst (λ k. IsCardRead (Ok true) c.read_card.new.self (step s.parts k l.card) (merge (early s.before) (card_fault (is_some s.parts) k l.card line))) kind told in
    if_err c.finish.result _ _ (ends_here c.args.deck.now l.reader c.read_card.new.self l.card l.rest.now line c.in-Some.more.now s c.in-Some.ensures.0 known) c.finish.ensures.fault

pub loop-line-preserved : goal.loop-line-preserved
loop-line-preserved c =
    let l = c.loop-line in
    let s = l.invariant.reached in
    let line = c.in-Some.line.now in
    let kind = sym (kind_columns l.card line) in
    let read = c.in_ok-read_card.ensures.read s.parts (early s.before) s.waits in
    let told = subst (λ b. IsCardRead (Ok b) c.read_card.new.self (step s.parts (kind_of_columns (take 72 line)) l.card) (merge (early s.before) (card_fault (is_some s.parts) (kind_of_columns (take 72 line)) l.card line))) c.if-branch.false read in
    let known = subst (λ k. IsCardRead (Ok false) c.read_card.new.self (step s.parts k l.card) (merge (early s.before) (card_fault (is_some s.parts) k l.card line))) kind told in
    record {
      reached = goes_on c.args.deck.now l.reader c.read_card.new.self l.card l.rest.now line c.in-Some.more.now s c.in-Some.ensures.0 known;
      cards = omega (arith, l.invariant.cards, c.in-Some.ensures.1);
      statements = omega (arith, l.invariant.statements, c.in_ok-read_card.ensures.count, c.in-Some.ensures.1, c.in-Some.ensures.2);
    }

pub returns-clause-fault : goal.returns-clause-fault
returns-clause-fault c =
    let l = c.loop-line in
    let s = l.invariant.reached in
    ends_nowhere c.args.deck.now l.reader l.card l.rest.now c.in_ok-without_end.field-0 s c.in_default.ensures (c.in_ok-without_end.ensures s.parts (early s.before) s.waits)
