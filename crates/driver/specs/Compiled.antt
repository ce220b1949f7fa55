-- What compiling a deck gives.
use Rattle.std.specs.Prelude.{◌≡◌, ◌≢◌, ⊤, ℕ, List}
use Rattle.model.specs.declared.cards.CardFault.{CardFault}
use Rattle.model.specs.declared.cards.CardRule.TheVariants as rule
use Rattle.model.specs.declared.causes.DeckFault.{DeckFault}
use Rattle.model.specs.declared.causes.DeckFault.TheVariants as fault
use Rattle.model.specs.declared.image.Image.{Image}
use Rattle.model.specs.Laws.Agreement.{Agrees}
use Rattle.model.specs.Deck.Cards.{first_cards}
use Rattle.model.specs.Deck.Faults.{verdict, CardRefused, Refused, Accepted}
use Rattle.model.specs.Module.Spelling.{IsImage, spelling}
use Rattle.model.specs.Laws.StepBound.{EndsInTime, PrintsInTime}
use Rattle.model.specs.Deck.Trees.{Stmt}
use Rattle.model.specs.Module.WellFormed.{IsWellFormed}
use Rattle.codegen.specs.Building.{IsDraftOf}
use Rattle.codegen.specs.Layout.{generated_image}
use Rattle.codegen.specs.declared.building.Draft.{Draft}
use Rattle.driver.specs.declared.refusal.Refusal.{Refusal}
use Rattle.driver.specs.declared.refusal.Refusal.TheVariants as refusal

-- ---- decks that are accepted

-- what is ready to be written is the image of the deck's statements, with the card where each begins
pub record IsDraftFor (deck : List ℕ) (draft : Draft) : Type 0 where
  pub statements : List Stmt
  pub trees : verdict deck ≡ Accepted statements
  pub generated : IsDraftOf (generated_image (first_cards deck) statements) draft

-- the bytes are the module of the deck: they spell its image, of level 2 and with the card where each statement begins.
-- It is well-formed, and does what the deck's statements mean, and ends and prints in as many steps as the step bound says
pub record IsModuleOf (deck bytes : List ℕ) : Type 0 where
  pub statements : List Stmt
  pub trees : verdict deck ≡ Accepted statements
  pub image : Image
  pub generated : image ≡ generated_image (first_cards deck) statements
  pub has_spelling : IsImage image
  pub spelt : bytes ≡ spelling image
  pub sound : IsWellFormed image
  pub agrees : Agrees statements image
  pub in_time : EndsInTime statements image
  pub prints : PrintsInTime statements image

-- ---- decks that are refused

-- the card fault alone; else all faulty statements in order
abbrev pub IsRefusalOf : List ℕ → Refusal → Type 0
IsRefusalOf deck (refusal.Card f) = verdict deck ≡ CardRefused f
IsRefusalOf deck (refusal.Statements fs) = verdict deck ≡ Refused fs
IsRefusalOf deck refusal.Memory = ⊤

-- ---- how faults of the layers are reported

-- want of memory is reported in one way
abbrev pub OfCards : CardFault → Refusal → Type 0
OfCards f (refusal.Card g) = (g ≡ f) × (f.rule ≢ rule.Memory)
OfCards f (refusal.Statements fs) = ⊥
OfCards f refusal.Memory = f.rule ≡ rule.Memory

abbrev pub OfStatements : DeckFault → Refusal → Type 0
OfStatements (fault.Faulty fs) r = r ≡ refusal.Statements fs
OfStatements fault.Memory r = r ≡ refusal.Memory
