-- From the faults of a deck to its module.
use Rattle.std.proofs.Common.{◌≡◌, ◌≢◌, ◌∙◌, refl, sym, ap, subst, ℕ, List, [], ◌∷◌, map, Ok, Err}
use Rattle.model.specs.declared.cards.CardFault.{CardFault}
use Rattle.model.specs.declared.cards.CardRule.TheVariants as rule
use Rattle.model.specs.declared.cards.Statement.{Statement}
use Rattle.model.specs.declared.causes.DeckFault.{DeckFault}
use Rattle.model.specs.declared.causes.DeckFault.TheVariants as fault
use Rattle.model.specs.declared.causes.StmtFault.{StmtFault}
use Rattle.model.specs.Deck.Cards as cards
use Rattle.model.specs.Deck.Faults.{verdict, verdict_of_cards, verdict_of_faults, CardRefused, Refused, Accepted, faults, deck_trees}
use Rattle.model.specs.Module.Spelling.{spelling}
use Rattle.model.specs.Deck.Trees.{Stmt}
use Rattle.parser.specs.Refusals.{IsRefusal}
use Rattle.codegen.specs.Countable.{Fits}
use Rattle.codegen.specs.Building.{IsDraftOf}
use Rattle.codegen.specs.Layout.{generated_image}
use Rattle.codegen.specs.declared.building.Draft.{Draft}
use Rattle.codegen_laws.proofs.Images.{are_fit, are_countable, spelt as is_spelt, sound as is_sound, agrees as does_as_meant, in_time as ends_in_time, prints as prints_in_time}
use Rattle.driver.specs.declared.refusal.Refusal.{Refusal}
use Rattle.driver.specs.declared.refusal.Refusal.TheVariants as refusal
use Rattle.driver.specs.Compiled.{IsModuleOf, IsRefusalOf, OfCards, OfStatements}

-- ---- verdicts

pub accepted_is : (deck : List ℕ) (statements : List Statement) (ts : List Stmt) → cards.deck deck ≡ Ok statements → faults statements ≡ [] → ts ≡ deck_trees statements → verdict deck ≡ Accepted ts
unfolding verdict
accepted_is deck statements ts e none t = ap verdict_of_cards e ∙ ap (λ fs. verdict_of_faults fs (deck_trees statements)) none ∙ ap Accepted (sym t)

refused_by : (fs : List StmtFault) (ts : List Stmt) → fs ≢ [] → verdict_of_faults fs ts ≡ Refused fs
refused_by [] ts some = absurd (some refl)
refused_by (f ∷ fs) ts some = refl

refused_is : (deck : List ℕ) (statements : List Statement) (fs : List StmtFault) → cards.deck deck ≡ Ok statements → fs ≡ faults statements → faults statements ≢ [] → verdict deck ≡ Refused fs
unfolding verdict
refused_is deck statements fs e f some = ap verdict_of_cards e ∙ refused_by (faults statements) (deck_trees statements) some ∙ ap Refused (sym f)

card_is : (deck : List ℕ) (f : CardFault) → cards.deck deck ≡ Err f → verdict deck ≡ CardRefused f
unfolding verdict
card_is deck f e = ap verdict_of_cards e

pub cards_are : (deck : List ℕ) (statements : List Statement) (cs : List ℕ) → cards.deck deck ≡ Ok statements → cs ≡ map (λ (s : Statement). s.card) statements → cs ≡ cards.first_cards deck
cards_are deck statements cs e c = c ∙ sym (ap cards.cards_of e)

pub draft_is : (deck : List ℕ) (cs : List ℕ) (ss : List Stmt) (draft : Draft) → IsDraftOf (generated_image cs ss) draft → cs ≡ cards.first_cards deck → IsDraftOf (generated_image (cards.first_cards deck) ss) draft
draft_is deck cs ss draft d c = subst (λ (xs : List ℕ). IsDraftOf (generated_image xs ss) draft) c d

-- ---- refusals

pub of_cards : (deck : List ℕ) (f : CardFault) (r : Refusal) → (f.rule ≢ rule.Memory → cards.deck deck ≡ Err f) → OfCards f r → IsRefusalOf deck r
of_cards deck f (refusal.Card g) e o = card_is deck f (e o.1) ∙ ap CardRefused (sym o.0)
of_cards deck f (refusal.Statements fs) e o = absurd o
of_cards deck f refusal.Memory e o = tt

pub of_statements : (deck : List ℕ) (statements : List Statement) (f : DeckFault) (r : Refusal) → cards.deck deck ≡ Ok statements → IsRefusal (faults statements) f → OfStatements f r → IsRefusalOf deck r
of_statements deck statements (fault.Faulty fs) r e i o = subst (IsRefusalOf deck) (sym o) (refused_is deck statements fs e i.0 i.1)
of_statements deck statements fault.Memory r e i o = subst (IsRefusalOf deck) (sym o) tt

-- ---- modules

pub fits : (deck : List ℕ) (ss : List Stmt) → verdict deck ≡ Accepted ss → Fits ss
fits deck ss a = let f = are_fit deck ss a in record { countable = are_countable deck ss a; together = f.together; count = f.count }

pub is_module : (deck bytes : List ℕ) (ss : List Stmt) → verdict deck ≡ Accepted ss → bytes ≡ spelling (generated_image (cards.first_cards deck) ss) → IsModuleOf deck bytes
is_module deck bytes ss a s = record {
  statements = ss;
  trees = a;
  image = generated_image (cards.first_cards deck) ss;
  generated = refl;
  has_spelling = is_spelt deck ss a;
  spelt = s;
  sound = is_sound deck (cards.first_cards deck) ss a;
  agrees = does_as_meant deck (cards.first_cards deck) ss a;
  in_time = ends_in_time deck (cards.first_cards deck) ss a;
  prints = prints_in_time deck (cards.first_cards deck) ss a;
}
