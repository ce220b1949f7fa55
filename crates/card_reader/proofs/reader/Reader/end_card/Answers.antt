use Rattle.std.proofs.Common.{◌∙◌, refl, ap}
use Rattle.std.specs.Prelude.{codes, ◌++◌}
use Rattle.model.specs.Deck.Cards.{placed, is_word_first}
use Rattle.card_reader.specs.Parts.{parts}
use Rattle.card_reader.proofs.Keeping.{extends, requoted, is_read_end, is_read_on}
use Rattle.card_reader.proofs.reader.Reader.end_card.Goals as goal

pub returns-in_ok-close_piece-clause-read : goal.returns-in_ok-close_piece-clause-read
returns-in_ok-close_piece-clause-read c = λ p e h.
    let grown = extends c.args.self.now c.extend.new.self p e c.args.card c.args.text.now h c.extend.ensures.others c.in_ok-extend.ensures.piece c.extend.ensures.card in
    let asked = requoted c.extend.new.self (record c.extend.new.self { quote = c.args.quote }) (parts p.whole (p.last ++ placed c.args.card c.args.text.now) p.quote) e c.args.quote grown
    (record { statements = refl; piece = refl; card = refl; fault = refl }) refl in
    is_read_end c.is_end_statement-is_end.result _ c.close_piece.new.self _ e asked c.in_ok-close_piece.ensures c.if-is_end.true
    (c.is_end_statement-is_end.ensures ∙ ap (is_word_first (codes "END")) (c.as_slice.ensures ∙ grown.piece))

pub returns-else-is_end-clause-read : goal.returns-else-is_end-clause-read
returns-else-is_end-clause-read c = λ p e h.
    let grown = extends c.args.self.now c.extend.new.self p e c.args.card c.args.text.now h c.extend.ensures.others c.in_ok-extend.ensures.piece c.extend.ensures.card in
    let asked = requoted c.extend.new.self (record c.extend.new.self { quote = c.args.quote }) (parts p.whole (p.last ++ placed c.args.card c.args.text.now) p.quote) e c.args.quote grown
    (record { statements = refl; piece = refl; card = refl; fault = refl }) refl in
    is_read_on c.is_end_statement-is_end.result _ _ e asked c.if-is_end.false
    (c.is_end_statement-is_end.ensures ∙ ap (is_word_first (codes "END")) (c.as_slice.ensures ∙ grown.piece))
