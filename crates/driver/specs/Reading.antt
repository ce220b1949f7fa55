-- A deck's statements that are read and put one by one.
use Rattle.std.specs.Prelude.{◌≡◌, ◌≤◌, ℕ, List, [], Option, length, take}
use Rattle.model.specs.declared.cards.Statement.{Statement}
use Rattle.model.specs.Deck.Faults.{deck_trees, faults_after}
use Rattle.model.specs.Deck.Trees.{Bytes, Stmt}
use Rattle.model.specs.Deck.Weights.{total, weight}
use Rattle.parser.specs.Reads.{HasRead}
use Rattle.parser.specs.declared.reading.Reader.{Reader}
use Rattle.codegen.specs.Building.{HasPut}
use Rattle.codegen.specs.declared.building.ImageBuilder.{ImageBuilder}

-- how long texts are together
abbrev pub on_texts : List Statement → ℕ
on_texts ss = total (λ (s : Statement). length s.text) ss

-- i statements are read, and the trees of those that aren't faulty are put
pub record Kept (names : List (Option Bytes)) (ss : List Statement) (i : ℕ) (r : Reader) (b : ImageBuilder) : Type 0 where
  pub within : i ≤ length ss
  pub has_read : HasRead (take i ss) r
  pub trees : List Stmt
  pub has_put : HasPut names trees b
  pub all : (labels : List Bytes) → faults_after [] labels (take i ss) ≡ [] → trees ≡ deck_trees (take i ss)
  pub light : total weight trees ≤ on_texts (take i ss)
  pub few : length trees ≤ i
