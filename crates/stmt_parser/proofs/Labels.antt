-- A name that comes next, or none.
use Rattle.std.proofs.Common.{◌≡◌, refl, subst, true, false, List, [], ◌∷◌, ℕ}
use Rattle.std.specs.Prelude.{Some, None}
use Rattle.model.specs.declared.tokens.TokenKind.{TokenKind}
use Rattle.model.specs.declared.tokens.TokenKind.TheVariants as kind
use Rattle.model.specs.Deck.ParseStatements.{starts_word, label_parser}
use Rattle.model.specs.Deck.Tokens.{Tok, Word, tok_by}

pub no_label : (ts : List Tok) → starts_word ts ≡ false → label_parser ts ≡ Some (None, ts)
unfolding starts_word
no_label [] h = refl
no_label (Word l ∷ ts) h = absurd (cc)
no_label (_ ∷ ts) h = refl

first_word : (k : TokenKind) (text : List ℕ) (rest : List Tok) → starts_word (tok_by k text ∷ rest) ≡ true → label_parser (tok_by k text ∷ rest) ≡ Some (Some text, rest)
unfolding starts_word
first_word kind.Name text rest h = refl
first_word _ text rest h = absurd (cc)

pub a_label : (ts : List Tok) (k : TokenKind) (text : List ℕ) (rest : List Tok) → ts ≡ tok_by k text ∷ rest → starts_word ts ≡ true → label_parser ts ≡ Some (Some text, rest)
a_label ts k text rest e h = rw e (first_word k text rest (subst (λ x. starts_word x ≡ true) e h))
