use Rattle.std.proofs.Common.{◌∙◌, refl, ap}
use Rattle.std.specs.Prelude.{codes, ◌++◌}
use Rattle.model.specs.Deck.Cards.{placed, is_word_first}
use Rattle.card_reader.specs.Parts.{parts}
use Rattle.card_reader.proofs.Keeping.{extends, piece_ends}
use Rattle.card_reader.proofs.reader.Reader.end_piece.Goals as goal

pub returns-clause-read : goal.returns-clause-read
returns-clause-read c = λ p e h.
    let grown = extends c.args.self.now c.extend.new.self p e c.args.card c.args.text.now h c.extend.ensures.others c.in_ok-extend.ensures.piece c.extend.ensures.card in
    piece_ends c.is_end_statement-is_end.result c.extend.new.self c.close_piece.new.self _ (parts p.whole (p.last ++ placed c.args.card c.args.text.now) p.quote) e grown c.in_ok-close_piece.ensures
    (c.is_end_statement-is_end.ensures ∙ ap (is_word_first (codes "END")) (c.as_slice.ensures ∙ grown.piece))
    (record { statements = refl; piece = refl; card = refl; fault = refl }) refl
