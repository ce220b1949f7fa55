-- An accepted deck, taken apart: its cards up to END without faults, and a tree for each of its statements.
use Rattle.std.proofs.Common.{◌≡◌, refl, sym, subst, ℕ, ◌≤◌, ◌+◌, inl, inr, List, [], ◌∷◌, ◌++◌, length, arith}
use Rattle.std.specs.Prelude.{⊤, Option, Some, None, Result, Ok, Err, nat_lt}
use Rattle.std.proofs.lemmas.Bool.Decides.{nat_tests}
use Rattle.model.specs.declared.cards.Statement.{Statement}
use Rattle.model.specs.declared.cards.CardFault.{CardFault}
use Rattle.model.specs.declared.cards.CardRule.TheVariants as rule
use Rattle.model.specs.declared.causes.Cause.{Cause}
use Rattle.model.specs.declared.causes.StmtFault.{StmtFault}
use Rattle.model.specs.Deck.Cards.{Card, cards, deck, deck_of, ended, fault, faults_of, least, statements_of}
use Rattle.model.specs.Deck.Cards as c
use Rattle.model.specs.Deck.Cut.{least_lexical, toks_of}
use Rattle.model.specs.Deck.Faults.{read, tree_unless, tree_or_none, cause_of, fault_of, faults, faults_after, deck_trees, tree_of_read, labels_given, labels_of_read, Accepted, verdict, verdict_of_cards, verdict_of_faults}
use Rattle.model.specs.Deck.ParseStatements.{stmt}
use Rattle.model.specs.Deck.Pieces.{pieces}
use Rattle.model.specs.Deck.Trees.{Bytes, Stmt}
use Rattle.model.proofs.Decks.ParseSteps.{if_is}

-- these are the trees of these statements
abbrev pub Have : List Statement → List Stmt → Type 0
Have [] [] = ⊤
Have [] (t ∷ ts) = ⊥
Have (s ∷ ss) [] = ⊥
Have (s ∷ ss) (t ∷ ts) = (read s.text ≡ Ok t) × Have ss ts

pub record Accepts (text : List ℕ) (ss : List Stmt) : Type 0 where
  pub statements : List Statement
  pub given : deck text ≡ Ok statements
  pub have : Have statements ss

pub none_left : {A : Type 0} (xs ys : List A) → xs ++ ys ≡ [] → xs ≡ []
none_left [] ys h = refl
none_left (x ∷ xs) ys h = absurd (cc)

pub none_right : {A : Type 0} (xs ys : List A) → xs ++ ys ≡ [] → ys ≡ []
none_right [] ys h = h
none_right (x ∷ xs) ys h = absurd (cc)

-- ---- texts that have a tree

tree_is : (o : Option Stmt) (s : Stmt) → tree_or_none o ≡ Ok s → o ≡ Some s
tree_is None s h = absurd (cc)
tree_is (Some t) s h = cc

tree_alone : (f : Option Cause) (o : Option Stmt) (s : Stmt) → tree_unless f o ≡ Ok s → (f ≡ None) × (o ≡ Some s)
tree_alone None o s h = (refl, tree_is o s h)
tree_alone (Some f) o s h = absurd (cc)

pub read_is : (text : List ℕ) (s : Stmt) → read text ≡ Ok s → (least_lexical (pieces text) ≡ None) × (stmt (toks_of (pieces text)) ≡ Some s)
unfolding read
read_is text s h = tree_alone (least_lexical (pieces text)) (stmt (toks_of (pieces text))) s h

-- ---- statements without faults have trees

have_one : (earlier all : List Bytes) (s : Statement) (more : List Statement) (r : Result Stmt Cause) → read s.text ≡ r → fault_of s.number (cause_of earlier all r) ≡ []
    → Have more (deck_trees more) → Have (s ∷ more) (tree_of_read r ++ deck_trees more)
have_one earlier all s more (Ok t) e h rest = (e, rest)
have_one earlier all s more (Err f) e h rest = absurd (cc)

have_trees : (earlier all : List Bytes) (statements : List Statement) → faults_after earlier all statements ≡ [] → Have statements (deck_trees statements)
unfolding deck_trees
have_trees earlier all [] h = tt
have_trees earlier all (s ∷ more) h =
    let first = none_left (fault_of s.number (cause_of earlier all (read s.text))) (faults_after (earlier ++ labels_of_read (read s.text)) all more) h in
    let others = none_right (fault_of s.number (cause_of earlier all (read s.text))) (faults_after (earlier ++ labels_of_read (read s.text)) all more) h in
    have_one earlier all s more (read s.text) refl first (have_trees (earlier ++ labels_of_read (read s.text)) all more others)

-- ---- cards without faults

none_least : (fs : List CardFault) → least fs ≡ None → fs ≡ []
none_least [] h = refl
none_least (f ∷ fs) h = absurd (cc)

pub record ByCards (text : List ℕ) (statements : List Statement) : Type 0 where
  pub short : length text ≤ 16777216
  pub used : List Card
  pub to_end : ended (cards text) ≡ Some used
  pub clean : faults_of used ≡ []
  pub are : statements ≡ statements_of used

by_verdict : (used : List Card) (statements : List Statement) (f : Option CardFault) → c.cards_verdict used f ≡ Ok statements → (f ≡ None) × (statements_of used ≡ statements)
by_verdict used statements None h = (refl, cc)
by_verdict used statements (Some f) h = absurd (cc)

some_least : (fs : List CardFault) (f : CardFault) → least (fs ++ f ∷ []) ≡ None → ⊥
some_least fs f h = let none = none_right fs (f ∷ []) (none_least (fs ++ f ∷ []) h) in cc

by_end : (text : List ℕ) (statements : List Statement) → length text ≤ 16777216 → (o : Option (List Card)) → ended (cards text) ≡ o → deck_of (cards text) o ≡ Ok statements → ByCards text statements
by_end text statements short None e h = absurd (some_least (faults_of (cards text)) (fault (length (cards text) + 1) rule.NoEnd) (by_verdict (cards text) statements (least (faults_of (cards text) ++ fault (length (cards text) + 1) rule.NoEnd ∷ [])) h).0)
by_end text statements short (Some used) e h =
    let v = by_verdict used statements (least (faults_of used)) h in
    record { short = short; used = used; to_end = e; clean = none_least (faults_of used) v.0; are = sym v.1 }

pub by_cards : (text : List ℕ) (statements : List Statement) → deck text ≡ Ok statements → ByCards text statements
unfolding deck
by_cards text statements h = elim (if_is (nat_lt 16777216 (length text)) (Err (fault 0 rule.DeckTooLong)) (deck_of (cards text) (ended (cards text))) (Ok statements) h) [
  | inl x ↦ absurd (cc)
  | inr x ↦ (let test = x.0 in by_end text statements (grind (arith, nat_tests)) (ended (cards text)) refl x.1)
]

-- ---- the deck

by_faults : (fs : List StmtFault) (ts ss : List Stmt) → verdict_of_faults fs ts ≡ Accepted ss → (fs ≡ []) × (ts ≡ ss)
by_faults [] ts ss h = (refl, cc)
by_faults (f ∷ fs) ts ss h = absurd (cc)

by_deck : (text : List ℕ) (ss : List Stmt) (r : Result (List Statement) CardFault) → deck text ≡ r → verdict_of_cards r ≡ Accepted ss → Accepts text ss
unfolding faults
by_deck text ss (Err f) e h = absurd (cc)
by_deck text ss (Ok statements) e h =
    let v = by_faults (faults statements) (deck_trees statements) ss h in
    record { statements = statements; given = e; have = subst (λ x. Have statements x) v.1 (have_trees [] (labels_given statements) statements v.0) }

pub accepts : (text : List ℕ) (ss : List Stmt) → verdict text ≡ Accepted ss → Accepts text ss
unfolding verdict
accepts text ss h = by_deck text ss (deck text) refl h
