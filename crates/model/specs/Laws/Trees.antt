-- The parser functions find the one tree of a token list, where there is one.
use Rattle.std.specs.Prelude.{◌≡◌, List, Some}
use Rattle.model.specs.Deck.Tokens.{Tok}
use Rattle.model.specs.Deck.Trees.{Expr, Stmt}
use Rattle.model.specs.Deck.Grammar.{IsExpr}
use Rattle.model.specs.Deck.Statements.{Tree}
use Rattle.model.specs.Deck.Parse.{expr}
use Rattle.model.specs.Deck.ParseStatements.{stmt}

pub record OneExpr : Type 0 where
  pub sound : (ts : List Tok) (e : Expr) → expr ts ≡ Some e → IsExpr e ts
  pub complete : (ts : List Tok) (e : Expr) → IsExpr e ts → expr ts ≡ Some e
  pub one : (ts : List Tok) (e f : Expr) → IsExpr e ts → IsExpr f ts → e ≡ f

pub record OneTree : Type 0 where
  pub sound : (ts : List Tok) (s : Stmt) → stmt ts ≡ Some s → Tree s ts
  pub complete : (ts : List Tok) (s : Stmt) → Tree s ts → stmt ts ≡ Some s
  pub one : (ts : List Tok) (s t : Stmt) → Tree s ts → Tree t ts → s ≡ t
