-- What each step of the machine keeps of the numbers of unevaluated expressions, and of where its states stand.
use Rattle.std.specs.Prelude.{◌≡◌, ◌≢◌, ◌<◌, ℕ, List, [], ◌∷◌, length, Some}
use Rattle.model.specs.declared.image.Image.{Image}
use Rattle.model.specs.declared.image.Level.{Level}
use Rattle.model.specs.declared.instr.Instr.{Instr}
use Rattle.model.specs.declared.instr.Instr.TheVariants as op
use Rattle.model.specs.Deck.Trees.{Bytes}
use Rattle.model.specs.Pattern.Patterns.{Answer, Want, Asks, AskFor}
use Rattle.model.specs.Language.Values.{first_world}
use Rattle.model.specs.Pattern.Steps as s
use Rattle.model.specs.Module.Flow.{Mode, Asks as Needs, shape}
use Rattle.model.specs.Module.Images.{fetch_from, module_of}
use Rattle.model.specs.Module.WellFormed.{IsWellFormed}
use Rattle.model.specs.Laws.Agreement.{Inputs, first_m}
use Rattle.model.specs.Machine.Steps.{At, PCode, MW, codes_of, Module, Operand, Handler, Matching, Frame, State, Run, InMatch, Stuck, act, begun, step, steps}
use Rattle.model.specs.Machine.InRange.{CodeIn, AnswerIn, SearchIn, WorldIn, StateIn, ModuleIn}
use Rattle.model.specs.Machine.Standing.{kinds, IsComplete, RunsUpon, RunStands, Stands}

-- ---- the search of a match

-- so many steps
abbrev pub SearchesStayIn : Type 0
SearchesStayIn = (n : ℕ) (subject : List ℕ) (code : PCode) (m : ℕ) (st : s.MatchState) → CodeIn n code → SearchIn n st → SearchIn n (s.pattern_steps subject code m st)

-- a further answer
abbrev pub SuppliedStayIn : Type 0
SuppliedStayIn = (n : ℕ) (y : Answer PCode) (st : s.MatchState) → AnswerIn n y → SearchIn n st → SearchIn n (s.with_more (y ∷ []) st)

-- the expression whose value is asked for
abbrev pub AskedAreIn : Type 0
AskedAreIn = (n : ℕ) (st : s.MatchState) → SearchIn n st → (k : ℕ) (want : Want) → s.event_of st ≡ Asks (AskFor k want) → k < n

-- ---- the machine

-- the world as a run begins
abbrev pub FirstWorldsAreIn : Type 0
FirstWorldsAreIn = (n : ℕ) (l : Level) (records : ℕ → List Bytes) → WorldIn n (first_world l codes_of records)

-- the machine at the entry statement
abbrev pub BegunAreIn : Type 0
BegunAreIn = (n : ℕ) (im : Module) (w : MW) → WorldIn n w → StateIn n (begun im w)

-- so many steps
abbrev pub StepsStayIn : Type 0
StepsStayIn = (n : ℕ) (im : Module) → ModuleIn n im → (m : ℕ) (st : State) → StateIn n st → StateIn n (steps im m st)

-- the expression whose value the match asks for in its next step
abbrev pub NextAskedAreIn : Type 0
NextAskedAreIn = (n : ℕ) (g : Matching) (st : s.MatchState) (fs : List Frame) (w : MW) → StateIn n (InMatch g st fs w) → (k : ℕ) (want : Want) → s.event_of (s.pattern_step g.subject g.code st) ≡ Asks (AskFor k want) → k < n

-- where no expression has a number, a match asks for none
abbrev pub NoneAsked : Type 0
NoneAsked = (g : Matching) (st : s.MatchState) (fs : List Frame) (w : MW) → StateIn 0 (InMatch g st fs w) → (k : ℕ) (want : Want) → s.event_of (s.pattern_step g.subject g.code st) ≢ Asks (AskFor k want)

-- ---- images

-- an image whose EXPR instructions have numbers below n; its patterns ask for nothing
abbrev pub ImagesAreIn : Type 0
ImagesAreIn = (n : ℕ) (im : Image) → ((at next k : ℕ) → fetch_from 0 im.code at ≡ At (op.Expr k) next → k < n) → ModuleIn n (module_of im)

-- a well-formed image, with as many as it has expressions
abbrev pub WellFormedAreIn : Type 0
WellFormedAreIn = (im : Image) → IsWellFormed im → ModuleIn (length im.expressions) (module_of im)

-- what a match asks for is there
abbrev pub AskedAreThere : Type 0
AskedAreThere =
    (im : Image) (g : Matching) (st : s.MatchState) (fs : List Frame) (w : MW) → StateIn (length im.expressions) (InMatch g st fs w) → (k : ℕ) (want : Want)
    → s.event_of (s.pattern_step g.subject g.code st) ≡ Asks (AskFor k want) → (at : ℕ) × ((module_of im).expr k ≡ Some at)

-- and so it is in each state of a run that is in a match
abbrev pub RunsAskForWhatIsThere : Type 0
RunsAskForWhatIsThere =
    (im : Image) → IsWellFormed im → (records : ℕ → List Bytes) (m : ℕ) (g : Matching) (st : s.MatchState) (fs : List Frame) (w : MW)
    → steps (module_of im) m (begun (module_of im) (first_world im.level codes_of records)) ≡ InMatch g st fs w → (k : ℕ) (want : Want)
    → s.event_of (s.pattern_step g.subject g.code st) ≡ Asks (AskFor k want) → (at : ℕ) × ((module_of im).expr k ≡ Some at)

-- ---- no run lacks what it needs

-- a well-formed image gives all that a run asks for
abbrev pub WellFormedAreComplete : Type 0
WellFormedAreComplete = (im : Image) → IsWellFormed im → IsComplete im

-- the machine at the entry statement stands where the flow leads
abbrev pub BegunStand : Type 0
BegunStand = (im : Image) → IsComplete im → (w : MW) → WorldIn (length im.expressions) w → Stands im (begun (module_of im) w)

-- and so it does after each step
abbrev pub StepsStand : Type 0
StepsStand = (im : Image) → IsComplete im → (st : State) → Stands im st → Stands im (step (module_of im) st)

-- and after the instruction that is there
abbrev pub ActsStand : Type 0
ActsStand =
    (im : Image) → IsComplete im → (at q : ℕ) (i : Instr) (ops : List Operand) (hs : List Handler) (fs : List Frame) (w : MW) → fetch_from 0 im.code at ≡ At i q
    → Stands im (Run at ops hs fs w) → Stands im (act (module_of im) i q at ops hs fs w)

-- where code stands an instruction begins
abbrev pub InstructionsAreThere : Type 0
InstructionsAreThere = (im : Image) → IsComplete im → (at : ℕ) (ops : List Operand) (hs : List Handler) (fs : List Frame) → RunStands im at ops hs fs → (i : Instr) × (q : ℕ) × (fetch_from 0 im.code at ≡ At i q)

-- with the operands and handlers that it asks for, upon frames that it may run upon
abbrev pub NeedsAreThere : Type 0
NeedsAreThere =
    (im : Image) → IsComplete im → (at q : ℕ) (i : Instr) (ops : List Operand) (hs : List Handler) (fs : List Frame) → fetch_from 0 im.code at ≡ At i q
    → RunStands im at ops hs fs → (mode : Mode) × RunsUpon mode fs × Needs i (shape mode (kinds ops) hs)

-- a state that stands isn't stuck
abbrev pub StandingAreNotStuck : Type 0
StandingAreNotStuck = (im : Image) (w : MW) → Stands im (Stuck w) → ⊥

-- so no run of a well-formed image gets stuck, whatever stands on its units
abbrev pub NeverStuck : Type 0
NeverStuck = (im : Image) → IsWellFormed im → (inputs : Inputs) (m : ℕ) (w : MW) → steps (module_of im) m (begun (module_of im) (first_m im.level inputs)) ≢ Stuck w
