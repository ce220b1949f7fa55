-- What the page is handed of a run.
use Rattle.std.proofs.Common.{◌≡◌, ◌∙◌, ◌++◌, refl, ap, subst, ℕ, List, [], Some}
use Rattle.model.specs.declared.run.Status.{Status}
use Rattle.model.specs.declared.run.Status.TheVariants as status
use Rattle.model.specs.Deck.Faults.{verdict, Verdict, Accepted}
use Rattle.model.specs.Deck.Trees.{Stmt}
use Rattle.model.specs.Language.Units.{bytes_on}
use Rattle.model.specs.Laws.Agreement.{Inputs, Records}
use Rattle.unit_io.specs.Held.{UnitsView, io_of}
use Rattle.statement_machine.specs.Stopped.{ending_of}
use Rattle.driver.specs.Whole.{IsMeant, RefinesMeaning}
use Rattle.page_calls.specs.Shown.{IsShown, inputs_of}

same_trees : (v : Verdict) (ss ts : List Stmt) → v ≡ Accepted ss → v ≡ Accepted ts → ss ≡ ts
same_trees v ss ts a b = cc

-- what was printed on the page's units is what the run is meant to print
pub is_shown : (deck input bytes : List ℕ) (bound : ℕ) (s : Status) (before after : UnitsView) → (io_of before).left ≡ inputs_of input → (io_of before).printed ≡ [] → bytes ≡ bytes_on 6 (io_of after).printed
    → RefinesMeaning deck bound s (Some (io_of before)) (Some (io_of after)) → IsShown deck input s bytes
is_shown deck input bytes bound s before after left none kept refines ss accepted =
    let m = refines.sound in (
      m.0,
      kept ∙ ap (bytes_on 6) (m.1 ∙ ap (λ (rs : Records). rs ++ m.0) none),
      subst (λ (i : Inputs). IsMeant ss i (record { ending = ending_of s; printed = m.0 })) left
          (subst (λ (ts : List Stmt). IsMeant ts (io_of before).left (record { ending = ending_of s; printed = m.0 })) (same_trees (verdict deck) refines.statements ss refines.accepted accepted) m.2),
    )

-- nothing is a prefix of what any run prints
pub nothing_is_shown : (deck input : List ℕ) → IsShown deck input status.Running []
nothing_is_shown deck input ss accepted = ([], refl, (0, (_, refl)))
