-- What is so of each accepted deck.
use Rattle.std.specs.Prelude.{◌≡◌, ◌≤◌, ⊤, ℕ, List, [], ◌∷◌, ◌++◌, length, Option, Ok}
use Rattle.std.specs.List.{AllByRecursion}
use Rattle.model.specs.declared.cards.Statement.{Statement}
use Rattle.model.specs.declared.image.Level.TheVariants as levels
use Rattle.model.specs.Deck.Cards.{deck, first_cards}
use Rattle.model.specs.Deck.Faults.{read, verdict, Accepted}
use Rattle.model.specs.Module.Spelling.{CardFits, Follow}
use Rattle.model.specs.Deck.Trees.{Bytes, Stmt, Plain, End}
use Rattle.model.specs.Deck.Weights.{weight, total}

-- ---- END

-- the statement isn't END
abbrev pub IsPlain : Stmt → Type 0
IsPlain (Plain l b g) = ⊤
IsPlain (End entry) = ⊥

-- the last statement is END, and no other is
pub record EndsOnce (ss : List Stmt) : Type 0 where
  pub before : List Stmt
  pub entry : Option Bytes
  pub is : ss ≡ before ++ End entry ∷ []
  pub plain : AllByRecursion IsPlain before

abbrev pub EndIsLast : Type 0
EndIsLast = (text : List ℕ) (ss : List Stmt) → verdict text ≡ Accepted ss → EndsOnce ss

-- ---- sizes

-- a deck's statements are no more than its bytes, and their texts together no longer
pub record CardsFit (text : List ℕ) (statements : List Statement) : Type 0 where
  pub deck : length text ≤ 16777216
  pub count : length statements ≤ length text
  pub together : total (λ s. length s.text) statements ≤ length text
  pub each : AllByRecursion (λ s. length s.text ≤ 4000) statements

abbrev pub DecksFit : Type 0
DecksFit = (text : List ℕ) (statements : List Statement) → deck text ≡ Ok statements → CardsFit text statements

abbrev pub TreesFit : Type 0
TreesFit = (text : List ℕ) (s : Stmt) → read text ≡ Ok s → weight s ≤ length text

-- an accepted deck's trees are no more than its bytes, and together no heavier
pub record TreesOfDeckFit (text : List ℕ) (ss : List Stmt) : Type 0 where
  pub deck : length text ≤ 16777216
  pub count : length ss ≤ length text
  pub together : total weight ss ≤ length text
  pub each : AllByRecursion (λ s. weight s ≤ 4000) ss

abbrev pub AcceptedDecksFit : Type 0
AcceptedDecksFit = (text : List ℕ) (ss : List Stmt) → verdict text ≡ Accepted ss → TreesOfDeckFit text ss

-- ---- cards

-- the cards where an accepted deck's statements begin are those that a module has: one for each, from 1 on, and never
-- falling
abbrev pub FirstCardsFit : Type 0
FirstCardsFit = (text : List ℕ) (ss : List Stmt) → verdict text ≡ Accepted ss → (length (first_cards text) ≡ length ss) × Follow (CardFits levels.Two) [] (first_cards text)
