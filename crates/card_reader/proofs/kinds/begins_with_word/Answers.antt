use Rattle.std.proofs.Common.{sym, ap, ◌∙◌}
use Rattle.std.specs.Prelude.{[]}
use Rattle.model.specs.Deck.Cards.{is_word_first}
use Rattle.card_reader.proofs.Words.{word_found, word_missing, at_end, at_blank}
use Rattle.card_reader.proofs.kinds.begins_with_word.Goals as goal

pub returns-in-Some-empty : goal.returns-in-Some-empty
returns-in-Some-empty c =
    let h = c.in-Some-empty.ensures.cases in
    sym (word_found c.args.word.now c.args.text.now h.0 ∙ ap (is_word_first []) (sym h.1) ∙ at_end c.in-Some-empty.field-0.now c.in-Some-empty.len_below)

pub returns-in-Some-len1-up : goal.returns-in-Some-len1-up
returns-in-Some-len1-up c =
    let h = c.in-Some-len1-up.ensures.cases in
    sym (word_found c.args.word.now c.args.text.now h.0 ∙ ap (is_word_first []) (sym h.1) ∙ at_blank c.in-Some-len1-up.field-0.now c.in-Some-len1-up.len_at_least)

pub returns-in-None : goal.returns-in-None
returns-in-None c = sym (word_missing c.args.word.now c.args.text.now c.in-None.ensures.cases)
