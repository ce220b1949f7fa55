-- What a run of a deck, and of a module, shows.
use Rattle.std.specs.Prelude.{◌≡◌, ℕ, ◌+◌, ◌*◌, ◌≤◌, List, ◌++◌, Bool, Option, Some, None, Ok}
use Rattle.model.specs.declared.run.Ending.{Ending}
use Rattle.model.specs.declared.image.Image.{Image}
use Rattle.model.specs.declared.run.Status.{Status}
use Rattle.model.specs.Deck.Cards.{first_cards}
use Rattle.model.specs.Laws.Agreement.{Agrees, Inputs, IsPrefix, Records, Behaviour, machine_at, meaning_at}
use Rattle.model.specs.Deck.Faults.{verdict, Accepted}
use Rattle.model.specs.Language.Io.{Io}
use Rattle.model.specs.Language.RulesUsed.{rules_used}
use Rattle.model.specs.Laws.StepBound.{EndsInTime, PrintsInTime}
use Rattle.model.specs.Language.Told.{IfTold}
use Rattle.model.specs.Deck.Trees.{Stmt}
use Rattle.model.specs.Module.Reading.{read_image}
use Rattle.loader.specs.Loaded.{IsLoaded}
use Rattle.codegen.specs.Layout.{generated_image}
use Rattle.unit_io.specs.Ways.{Way}
use Rattle.statement_machine.specs.declared.TheConstants.{STEPS_PER_RULE}
use Rattle.statement_machine.specs.Asking.{StopsWhereAsked}
use Rattle.statement_machine.specs.Runs.{IsRun, IsStoppedRun}
use Rattle.statement_machine.specs.Stopped.{IfRan, IfStop, ending_of, stop_of_run}

-- ---- in the deck's own words, without machine or image

-- P holds of what the units held at first, of how the run ended, if it has, and of what it printed, on units that expose what they hold:
-- what was printed after is what was printed before, and then this
abbrev pub OfRun : Status → Option Io → Option Io → (Inputs → Behaviour → Type 0) → Type 0
OfRun status before after P = IfTold before after (λ io io'. (new : Records) × (io'.printed ≡ io.printed ++ new) × P io.left (record { ending = ending_of status; printed = new }))

-- what was seen of a run is what the meaning has at its end; or, where it runs on or was stopped, what it printed so far is
-- a prefix of what the meaning prints
abbrev pub IsSeenOf : (ending : Option Ending) → Records → Behaviour → Type 0
IsSeenOf None printed meant = IsPrefix printed meant.printed
IsSeenOf (Some e) printed meant = meant ≡ record { ending = Some e; printed = printed }

-- with some fuel these statements mean what was seen
abbrev pub IsMeant : List Stmt → Inputs → Behaviour → Type 0
IsMeant ss inputs seen = (n : ℕ) × IsSeenOf seen.ending seen.printed (meaning_at n ss inputs)

-- where the meaning ends with fuel n, and the bound has STEPS_PER_RULE steps for each rule that it used and for one more,
-- the run has ended so, with that printed
abbrev pub HasReached : (bound : ℕ) → List Stmt → Inputs → Behaviour → Type 0
HasReached bound ss inputs seen = (n : ℕ) (e : Ending) → (meaning_at n ss inputs).ending ≡ Some e → STEPS_PER_RULE * (rules_used n ss inputs + 1) ≤ bound → seen ≡ meaning_at n ss inputs

-- with each fuel n for which the bound has so many steps, what the meaning prints is a prefix of what the run printed, also
-- where neither ends
abbrev pub HasPrinted : (bound : ℕ) → List Stmt → Inputs → Behaviour → Type 0
HasPrinted bound ss inputs seen = (n : ℕ) → STEPS_PER_RULE * (rules_used n ss inputs + 1) ≤ bound → IsPrefix (meaning_at n ss inputs).printed seen.printed

-- the theorem: a run of a deck, of at most so many steps, does what the deck means. The deck has no fault, and these are its
-- statements; the run does nothing that they don't mean; and unless a failed unit or want of memory stopped it, it has come
-- as far as the bound allows, to the end and in what it prints
pub record RefinesMeaning (deck : List ℕ) (bound : ℕ) (status : Status) (before after : Option Io) : Type 0 where
  pub statements : List Stmt
  pub accepted : verdict deck ≡ Accepted statements
  pub sound : OfRun status before after (IsMeant statements)
  pub reaches : IfRan status (OfRun status before after (HasReached bound statements))
  pub prints : IfRan status (OfRun status before after (HasPrinted bound statements))

-- ---- as the machine

-- a run that stopped stands somewhere within the bound: it has printed all that the machine prints in so many steps, and
-- beyond that at most a part of what the next step prints
pub record StandsWithin (im : Image) (bound : ℕ) (io io' : Io) : Type 0 where
  pub new : Records
  pub follows : io'.printed ≡ io.printed ++ new
  pub made : ℕ
  pub within : made ≤ bound
  pub least : IsPrefix (machine_at im io.left made).printed new
  pub most : IsPrefix new (machine_at im io.left (made + 1)).printed

-- a run of a module, of at most so many steps: the bytes spell this image, and it is one that the loader accepts. Unless the
-- run stopped, its status, what it printed, after what was printed before, and what is left to be read are those of the
-- machine on that image at most so many steps later; if it stopped, what it printed is a prefix of what the machine prints,
-- it stands within the bound, what is left to be read is what the machine leaves where it stands, and a unit that stopped it
-- is the one that the machine asks next there, in a way in which it may fail
pub record IsModuleRun (bytes : List ℕ) (bound : ℕ) (may_fail : Way → ℕ → Bool) (status : Status) (before after : Option Io) : Type 0 where
  pub image : Image
  pub read : read_image bytes ≡ Ok image
  pub loaded : IsLoaded image
  pub run : IfRan status (IfTold before after (IsRun image bound (ending_of status)))
  pub stopped : IfStop status (IfTold before after (IsStoppedRun image bound))
  pub stands : IfStop status (IfTold before after (StandsWithin image bound))
  pub asked : StopsWhereAsked image bound may_fail (stop_of_run status) before after

-- the same of the image of a deck without fault, which does what the deck's statements mean
pub record IsRunOf (deck : List ℕ) (bound : ℕ) (may_fail : Way → ℕ → Bool) (status : Status) (before after : Option Io) : Type 0 where
  pub statements : List Stmt
  pub trees : verdict deck ≡ Accepted statements
  pub image : Image
  pub generated : image ≡ generated_image (first_cards deck) statements
  pub agrees : Agrees statements image
  pub in_time : EndsInTime statements image
  pub prints : PrintsInTime statements image
  pub run : IfRan status (IfTold before after (IsRun image bound (ending_of status)))
  pub stopped : IfStop status (IfTold before after (IsStoppedRun image bound))
  pub stands : IfStop status (IfTold before after (StandsWithin image bound))
  pub asked : StopsWhereAsked image bound may_fail (stop_of_run status) before after
