-- A module does what its program does.
use Rattle.std.specs.Prelude.{◌≡◌, ℕ, ◌+◌, List, ◌++◌, Option, Some, None}
use Rattle.model.specs.declared.run.Ending.{Ending}
use Rattle.model.specs.declared.image.Image.{Image}
use Rattle.model.specs.declared.image.Level.{Level}
use Rattle.model.specs.declared.image.Level.TheVariants as levels
use Rattle.model.specs.Deck.Trees.{Bytes, Expr, Stmt}
use Rattle.model.specs.Language.Programs.{program}
use Rattle.model.specs.Language.Values.{pattern_trees, first_world, printed_of}
use Rattle.model.specs.Language.Meaning.{W, Res, Done, Fails, Ends, Open, run}
use Rattle.model.specs.Machine.Steps.{MW, codes_of, State, Run, InMatch, Over, Stuck, begun, steps}
use Rattle.model.specs.Module.Images.{module_of}
use Rattle.model.specs.Module.Placed.{Placed}

abbrev pub Records : Type 0
Records = List (record { unit : ℕ; bytes : Bytes })

abbrev pub IsPrefix : Records → Records → Type 0
IsPrefix part whole = (more : Records) × (whole ≡ part ++ more)

-- what can be seen of a run: how it ended, if it has, and what it has printed
pub record Behaviour : Type 0 where
  pub ending : Option Ending
  pub printed : Records

abbrev pub seen_of : Res (record {}) → Behaviour
seen_of (Done a w) = record { ending = None; printed = printed_of w }
seen_of (Fails w) = record { ending = None; printed = printed_of w }
seen_of (Ends e w) = record { ending = Some e; printed = printed_of w }
seen_of (Open w) = record { ending = None; printed = printed_of w }

abbrev pub seen_at : State → Behaviour
seen_at (Run pc ops hs fs w) = record { ending = None; printed = printed_of w }
seen_at (InMatch g st fs w) = record { ending = None; printed = printed_of w }
seen_at (Over e w) = record { ending = Some e; printed = printed_of w }
seen_at (Stuck w) = record { ending = None; printed = printed_of w }

-- ---- from the first world, with these records on each unit: the meaning's is of level 2

abbrev pub Inputs : Type 0
Inputs = ℕ → List Bytes

abbrev pub first_w : Inputs → W
first_w inputs = first_world levels.Two pattern_trees inputs

-- and at the level of the module
abbrev pub first_m : Level → Inputs → MW
first_m level inputs = first_world level codes_of inputs

-- the meaning of a deck's statements, to the depth n
abbrev pub meaning_at : ℕ → List Stmt → Inputs → Behaviour
meaning_at n deck inputs = seen_of (run (program deck) n (first_w inputs))

-- what a module does in m steps
abbrev pub machine_at : Image → Inputs → ℕ → Behaviour
machine_at image inputs m = seen_at (steps (module_of image) m (begun (module_of image) (first_m image.level inputs)))

-- the run of a module reaches an ending exactly when its program does, that ending and those records; and whatever either has printed the other prints too
pub record Agrees (deck : List Stmt) (image : Image) : Type 0 where
  pub ends : (inputs : Inputs) (n : ℕ) (e : Ending) → (meaning_at n deck inputs).ending ≡ Some e → (m : ℕ) × (machine_at image inputs m ≡ meaning_at n deck inputs)
  pub ends_only : (inputs : Inputs) (m : ℕ) (e : Ending) → (machine_at image inputs m).ending ≡ Some e → (n : ℕ) × (meaning_at n deck inputs ≡ machine_at image inputs m)
  pub prints : (inputs : Inputs) (n : ℕ) → (m : ℕ) × IsPrefix (meaning_at n deck inputs).printed (machine_at image inputs m).printed
  pub prints_only : (inputs : Inputs) (m : ℕ) → (n : ℕ) × IsPrefix (machine_at image inputs m).printed (meaning_at n deck inputs).printed

-- the law: for a module of level 2, wherever the code of each statement stands
abbrev pub AgreesWherePlaced : Type 0
AgreesWherePlaced = (deck : List Stmt) (image : Image) (trees_at : ℕ → Option Expr) → image.level ≡ levels.Two → Placed (program deck) (module_of image) trees_at → Agrees deck image

-- ---- more fuel only adds

abbrev pub EndingStays : Type 0
EndingStays = (deck : List Stmt) (inputs : Inputs) (n : ℕ) (e : Ending) → (meaning_at n deck inputs).ending ≡ Some e → (d : ℕ) → meaning_at (d + n) deck inputs ≡ meaning_at n deck inputs

abbrev pub PrintedGrows : Type 0
PrintedGrows = (deck : List Stmt) (inputs : Inputs) (n d : ℕ) → IsPrefix (meaning_at n deck inputs).printed (meaning_at (d + n) deck inputs).printed
