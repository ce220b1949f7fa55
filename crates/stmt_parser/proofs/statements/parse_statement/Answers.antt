use Rattle.std.proofs.Common.{refl, inr, subst}
use Rattle.model.specs.Deck.ParseStatements.{stmt}
use Rattle.model.specs.Deck.Tokens.{toks}
use Rattle.model.specs.Deck.TreeViews.{stmt_of}
use Rattle.model.proofs.Decks.StatementComplete.{no_tree}
use Rattle.model.proofs.Decks.StatementSound.{stmt_sound}
use Rattle.stmt_parser.specs.Views.{Fails}
use Rattle.stmt_parser.proofs.statements.parse_statement.Goals as goal

pub returns-in-Ok-clause-tree : goal.returns-in-Ok-clause-tree
returns-in-Ok-clause-tree c = stmt_sound (toks c.args.tokens.now) (stmt_of c.in-Ok.statement.value) c.in-Ok.ensures

pub returns-in-Err-NoTree-clause-cause : goal.returns-in-Err-NoTree-clause-cause
returns-in-Err-NoTree-clause-cause c = inr (refl, no_tree (toks c.args.tokens.now) (subst (λ s. Fails s (stmt (toks c.args.tokens.now))) c.in-Err-NoTree.field-0-is c.in-Err-NoTree.ensures))
