-- The tree that the parser gives is spelled by all the tokens.
use Rattle.std.proofs.Common.{◌≡◌, sym, ◌∙◌, subst, length, List, [], append-nil}
use Rattle.std.specs.Prelude.{Some}
use Rattle.model.specs.Deck.Tokens.{Tok}
use Rattle.model.specs.Deck.Trees.{Expr}
use Rattle.model.specs.Deck.Grammar.{IsExpr}
use Rattle.model.specs.Deck.Parse.{whole, expr}
use Rattle.model.proofs.Decks.ParseSteps.{finish_is}
use Rattle.model.proofs.Decks.ParseSound.{Front, whole_sound}

pub all_text : {P : List Tok → Type 0} (ts : List Tok) → Front P ts [] → P ts
all_text {P} ts r = subst P (sym (r.is ∙ append-nil r.text)) r.spelled

pub expr_sound : (ts : List Tok) (e : Expr) → expr ts ≡ Some e → IsExpr e ts
unfolding expr
expr_sound ts e h = all_text ts (whole_sound (length ts) ts (e, []) (finish_is (whole (length ts) ts) e h))
