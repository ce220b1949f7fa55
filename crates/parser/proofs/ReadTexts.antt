-- What one text gives, by what its tokens give.
use Rattle.std.proofs.Common.{◌≡◌, ◌∙◌, refl, sym, ap, subst, ◌≢◌, List, map, Option, Some, None, inl, inr}
use Rattle.std.specs.Prelude.{◌⊎◌, Result, Ok, Err, IfOk, IfErr}
use Rattle.std.specs.declared.alloc.Global.{Global}
use Rattle.std.specs.declared.boxed.Box.{Box}
use Rattle.model.specs.declared.causes.Cause.{Cause}
use Rattle.model.specs.declared.causes.Cause.TheVariants as cause
use Rattle.model.specs.declared.tokens.Token.{Token}
use Rattle.model.specs.declared.trees.Stmt as trees
use Rattle.model.specs.Deck.Cut.{Cut, least_lexical, toks_of}
use Rattle.model.specs.Deck.Pieces.{pieces}
use Rattle.model.specs.Deck.ParseStatements.{stmt}
use Rattle.model.specs.Deck.Statements.{HasNoTree, Tree}
use Rattle.model.specs.Deck.Tokens.{Tok, toks}
use Rattle.model.specs.Deck.TreeViews.{stmt_of}
use Rattle.model.proofs.Decks.Lexing.{piece_of, toks_are}
use Rattle.model.proofs.Decks.StatementComplete.{stmt_full}
use Rattle.model.proofs.Decks.StatementSound.{stmt_sound}
use Rattle.model.specs.Deck.Faults.{tree_or_none, tree_unless, read}
use Rattle.model.specs.Deck.Trees.{Bytes, Stmt}
use Rattle.parser.specs.Reads.{IsRead}

pub is_cause : (text : Bytes) (c : Cause) → least_lexical (pieces text) ≡ Some c → read text ≡ Err c
unfolding read
is_cause text c e = ap (λ o. tree_unless o (stmt (toks_of (pieces text)))) e

pub is_tree : (text : Bytes) (s : Stmt) (tokens : List Token) → least_lexical (pieces text) ≡ None → Cut text (map piece_of tokens) → Tree s (toks tokens) → read text ≡ Ok s
unfolding read
is_tree text s tokens fair cut t =
    ap (λ o. tree_unless o (stmt (toks_of (pieces text)))) fair
    ∙ ap (λ ts. tree_or_none (stmt ts)) (sym (toks_are tokens text cut)) ∙ ap tree_or_none (stmt_full (toks tokens) s t)

none_of : (found : Option Stmt) → ((s : Stmt) → found ≡ Some s → ⊥) → found ≡ None
none_of None h = refl
none_of (Some s) h = absurd (h s refl)

pub is_none : (text : Bytes) (tokens : List Token) → least_lexical (pieces text) ≡ None → Cut text (map piece_of tokens) → HasNoTree (toks tokens) → read text ≡ Err cause.NoTree
unfolding read
is_none text tokens fair cut none =
    ap (λ o. tree_unless o (stmt (toks_of (pieces text)))) fair
    ∙ ap (λ ts. tree_or_none (stmt ts)) (sym (toks_are tokens text cut)) ∙ ap tree_or_none (none_of (stmt (toks tokens)) (λ s e. none s (stmt_sound (toks tokens) s e)))

other_cause : (found : Result Stmt Cause) (c : Cause) (ts : List Tok) → (c ≡ cause.Memory) ⊎ ((c ≡ cause.NoTree) × HasNoTree ts) → (HasNoTree ts → found ≡ Err cause.NoTree) → c ≢ cause.Memory → found ≡ Err c
other_cause found c ts (inl m) none other = absurd (other m)
other_cause found c ts (inr n) none other = none n.1 ∙ ap Err (sym n.0)

-- what the parser says of all tokens of a text
pub parsed : (text : Bytes) (tokens given : List Token) (r : Result (Box trees.Stmt Global) Cause) → given ≡ tokens → least_lexical (pieces text) ≡ None → Cut text (map piece_of tokens)
    → IfOk r (λ s. Tree (stmt_of s.value) (toks given)) → IfErr r (λ c. (c ≡ cause.Memory) ⊎ ((c ≡ cause.NoTree) × HasNoTree (toks given))) → IsRead (read text) r
parsed text tokens given (Ok s) same fair cut t c = is_tree text (stmt_of s.value) tokens fair cut (subst (λ ts. Tree (stmt_of s.value) (toks ts)) same t)
parsed text tokens given (Err x) same fair cut t c = other_cause (read text) x (toks given) c (λ none. is_none text tokens fair cut (subst (λ ts. HasNoTree (toks ts)) same none))
