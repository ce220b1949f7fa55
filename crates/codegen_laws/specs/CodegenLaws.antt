-- What is so of the image of each accepted deck.
use Rattle.std.specs.Prelude.{◌≡◌, ◌≤◌, ℕ, List, Option}
use Rattle.std.specs.List.{AllByRecursion}
use Rattle.model.specs.Laws.Agreement.{Agrees}
use Rattle.model.specs.Deck.Cards.{first_cards}
use Rattle.model.specs.Deck.Faults.{Accepted, verdict}
use Rattle.model.specs.Module.Images.{module_of, code_size}
use Rattle.model.specs.Module.Placed.{Placed}
use Rattle.model.specs.Language.Programs.{program}
use Rattle.model.specs.Module.Spelling.{IsImage}
use Rattle.model.specs.Laws.StepBound.{EndsInTime, PrintsInTime}
use Rattle.model.specs.Deck.Trees.{Expr, Stmt}
use Rattle.model.specs.Module.WellFormed.{IsWellFormed}
use Rattle.codegen.specs.Countable.{CountableStmt}
use Rattle.codegen.specs.Layout.{generated_image}
use Rattle.codegen_laws.specs.Fit.{IsFit}

-- its trees keep what their code relies on
abbrev pub AreFit : Type 0
AreFit = (text : List ℕ) (ss : List Stmt) → verdict text ≡ Accepted ss → IsFit ss

-- its calls and references have as few arguments as instructions can count
abbrev pub AreCountable : Type 0
AreCountable = (text : List ℕ) (ss : List Stmt) → verdict text ≡ Accepted ss → AllByRecursion CountableStmt ss

-- the code of each statement and expression stands in its image
abbrev pub IsPlaced : Type 0
IsPlaced = (text cards : List ℕ) (ss : List Stmt) → verdict text ≡ Accepted ss → (trees_at : ℕ → Option Expr) × Placed (program ss) (module_of (generated_image cards ss)) trees_at

-- it has a spelling, with the cards where its statements begin
abbrev pub IsSpelt : Type 0
IsSpelt = (text : List ℕ) (ss : List Stmt) → verdict text ≡ Accepted ss → IsImage (generated_image (first_cards text) ss)

-- it is well-formed
abbrev pub IsSound : Type 0
IsSound = (text cards : List ℕ) (ss : List Stmt) → verdict text ≡ Accepted ss → IsWellFormed (generated_image cards ss)

-- it does what the deck means
abbrev pub DoesAsMeant : Type 0
DoesAsMeant = (text cards : List ℕ) (ss : List Stmt) → verdict text ≡ Accepted ss → Agrees ss (generated_image cards ss)

-- it ends in time
abbrev pub IsInTime : Type 0
IsInTime = (text cards : List ℕ) (ss : List Stmt) → verdict text ≡ Accepted ss → EndsInTime ss (generated_image cards ss)

-- what the deck's meaning prints, it prints in time, also where neither ends
abbrev pub IsPrintedInTime : Type 0
IsPrintedInTime = (text cards : List ℕ) (ss : List Stmt) → verdict text ≡ Accepted ss → PrintsInTime ss (generated_image cards ss)

-- its code has at most 15 bytes for each byte that a deck may have
abbrev pub IsSmall : Type 0
IsSmall = (text cards : List ℕ) (ss : List Stmt) → verdict text ≡ Accepted ss → code_size (generated_image cards ss).code ≤ 251658240
