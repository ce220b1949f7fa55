use Rattle.std.proofs.Common.{◌≡◌, sym, ◌∙◌, ap, subst}
use Rattle.std.specs.Prelude.{None}
use Rattle.model.specs.Deck.Cut.{Cut, least_lexical}
use Rattle.model.specs.Deck.Pieces.{pieces}
use Rattle.model.proofs.Decks.Cutting.{cut_is}
use Rattle.model.proofs.Decks.Lexing.{lexed}
use Rattle.lexer.proofs.lex.Goals as goal

pub returns-in-None-clause-cut : goal.returns-in-None-clause-cut
returns-in-None-clause-cut c = subst (Cut c.args.text.now) (sym c.in_ok-limits.ensures.tokens.pieces) (cut_is c.args.text.now)

pub returns-in-None-clause-lexed : goal.returns-in-None-clause-lexed
returns-in-None-clause-lexed c =
    let tokens = c.in_ok-limits.ensures.tokens in
    let fair : least_lexical (pieces c.args.text.now) ≡ None = ap least_lexical (sym tokens.pieces) ∙ tokens.least ∙ sym c.in-None.ensures in
    lexed c.cut_text.new.tokens.items c.args.text.now (subst (Cut c.args.text.now) (sym tokens.pieces) (cut_is c.args.text.now)) fair
