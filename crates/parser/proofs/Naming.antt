-- The label of a statement with a tree is the name that its text begins with.
use Rattle.std.proofs.Common.{◌≡◌, ◌∙◌, refl, sym, ap, ◌++◌, Bool, true, false, List, [], ◌∷◌, Option, Some, None}
use Rattle.std.specs.Prelude.{option_to_list, Ok, if◌then◌else◌}
use Rattle.model.specs.declared.causes.Cause.TheVariants as cause
use Rattle.model.specs.declared.tokens.TokenKind.TheVariants as kind
use Rattle.model.specs.Deck.Cut.{Piece, Token, Stray, Unclosed, has, is_stray, least_lexical, toks_of}
use Rattle.model.specs.Deck.Faults.{label_given, labels_of_read, read}
use Rattle.model.specs.Deck.Grammar.{gap}
use Rattle.model.specs.Deck.Pieces.{pieces}
use Rattle.model.specs.Deck.Statements.{IsGoto, next, leaves, IsBody, nothing, evaluate, match, assign, replace, unlabelled, labelled, Tree, plain, end}
use Rattle.model.specs.Deck.Tokens.{Tok, Word}
use Rattle.model.specs.Deck.Trees.{Bytes, Goto, Body, Stmt, Plain, End}
use Rattle.model.specs.Language.Programs.{label_of_stmt}
use Rattle.model.proofs.Decks.StatementSound.{stmt_sound}
use Rattle.model.proofs.Decks.Verdicts.{read_is}
use Rattle.lexer.specs.Lexed.{name_in_front}

-- the word that tokens begin with
abbrev front_word : List Tok → Option Bytes
front_word (Word w ∷ ts) = Some w
front_word ts = None

gap_first : (h : Bool) → front_word (gap h) ≡ None
gap_first true = refl
gap_first false = refl

goto_first : (g : Goto) (vs : List Tok) (h : Bool) → IsGoto g vs → front_word (vs ++ gap h) ≡ None
goto_first _ _ h next = gap_first h
goto_first _ _ h (leaves exits ts g i) = refl

body_first : (b : Body) (us : List Tok) (g : Goto) (vs : List Tok) (h : Bool) → IsBody b us → IsGoto g vs → front_word (us ++ (vs ++ gap h)) ≡ None
body_first _ _ g vs h nothing i = goto_first g vs h i
body_first _ _ g vs h (evaluate x ts s) i = refl
body_first _ _ g vs h (match x p ts us s t) i = refl
body_first _ _ g vs h (assign x o ts us s t) i = refl
body_first _ _ g vs h (replace x p o ts us ws s t u) i = refl

tree_first : (s : Stmt) (ts : List Tok) → Tree s ts → front_word ts ≡ label_of_stmt s
tree_first _ _ (plain _ b g _ us vs h unlabelled i j) = body_first b us g vs h i j
tree_first _ _ (plain _ b g _ us vs h (labelled l other) i j) = refl
tree_first _ _ (end l ts h i) = refl

front_is : (ps : List Piece) → least_lexical ps ≡ None → name_in_front ps ≡ front_word (toks_of ps)
unfolding least_lexical
front_is [] h = refl
front_is (Token kind.Name w ∷ ps) h = refl
front_is (Token kind.Blank w ∷ ps) h = refl
front_is (Token kind.Integer w ∷ ps) h = refl
front_is (Token kind.Literal w ∷ ps) h = refl
front_is (Token (kind.Mark m) w ∷ ps) h = refl
front_is (Stray b ∷ ps) h = absurd (cc)
front_is (Unclosed t ∷ ps) h = absurd (open_fault (has is_stray ps) h)
  where
    open_fault : (b : Bool) → (if b then Some cause.StrayByte else Some cause.UnclosedLiteral) ≡ None → ⊥
    open_fault true h = cc
    open_fault false h = cc

pub name_is_label : (text : Bytes) (s : Stmt) → read text ≡ Ok s → name_in_front (pieces text) ≡ label_of_stmt s
name_is_label text s r =
    let parts = read_is text s r in
    front_is (pieces text) parts.0 ∙ tree_first s (toks_of (pieces text)) (stmt_sound (toks_of (pieces text)) s parts.1)

pub label_is : (s : Stmt) → option_to_list (label_of_stmt s) ≡ label_given s
label_is (Plain None b g) = refl
label_is (Plain (Some l) b g) = refl
label_is (End e) = refl

pub labels_are : (text given : Bytes) (s : Stmt) → given ≡ text → read text ≡ Ok s → option_to_list (name_in_front (pieces given)) ≡ labels_of_read (read text)
labels_are text given s g r = ap (λ t. option_to_list (name_in_front (pieces t))) g ∙ ap option_to_list (name_is_label text s r) ∙ label_is s ∙ ap labels_of_read (sym r)
