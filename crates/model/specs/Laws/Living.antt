-- What no step of the machine can tell: which objects stand where nothing reaches. So a run may give them back.
use Rattle.std.specs.Prelude.{◌≡◌, ℕ, ◌+◌, ◌≤◌, Bool, true, List, [], ◌∷◌, length, slice_get, Some}
use Rattle.model.specs.Language.Values.{Object}
use Rattle.model.specs.declared.image.Image.{Image}
use Rattle.model.specs.Pattern.Patterns.{Answer}
use Rattle.model.specs.Pattern.Steps as s
use Rattle.model.specs.Module.Images.{module_of}
use Rattle.model.specs.Laws.Agreement.{Inputs, first_m, seen_at, machine_at}
use Rattle.model.specs.Deck.Trees.{Bytes}
use Rattle.model.specs.Machine.Steps.{PCode, MVal, MW, Operand, Frame, Module, State, begun, step, steps}
use Rattle.model.specs.Machine.Living.{CodeLives, ValueLives, ObjectLives, OperandsLive, FramesLive, AnswerLives, SearchLives, WorldLives, HeapLives, ModuleLives, AlikeBy, cleared, Collected, Grows}

-- ---- the search of a match

-- a step keeps what it holds marked
abbrev pub SearchesLive : Type 0
SearchesLive = (marked : ℕ → Bool) (subject : List ℕ) (code : PCode) (st : s.MatchState) → CodeLives marked code → SearchLives marked st → SearchLives marked (s.pattern_step subject code st)

-- and so does an answer
abbrev pub SuppliedLive : Type 0
SuppliedLive = (marked : ℕ → Bool) (y : Answer PCode) (st : s.MatchState) → AnswerLives marked y → SearchLives marked st → SearchLives marked (s.with_more (y ∷ []) st)

-- ---- the machine

-- a step keeps states alike, and so do so many
abbrev pub StepKeepsAlike : Type 0
StepKeepsAlike = (marked : ℕ → Bool) (im : Module) → ModuleLives marked im → (st st' : State) → AlikeBy marked st st' → AlikeBy marked (step im st) (step im st')

abbrev pub StepsKeepAlike : Type 0
StepsKeepAlike = (marked : ℕ → Bool) (im : Module) → ModuleLives marked im → (m : ℕ) (st st' : State) → AlikeBy marked st st' → AlikeBy marked (steps im m st) (steps im m st')

-- alike states show the same
abbrev pub AlikeShowTheSame : Type 0
AlikeShowTheSame = (marked : ℕ → Bool) (st st' : State) → AlikeBy marked st st' → seen_at st' ≡ seen_at st

-- the patterns of an image name nothing
abbrev pub ImagesLive : Type 0
ImagesLive = (marked : ℕ → Bool) (im : Image) → ModuleLives marked (module_of im)

-- ---- a collection

-- giving back is unseen where the marks fit
abbrev pub ClearedAreAlike : Type 0
ClearedAreAlike = (marked : ℕ → Bool) (w : MW) → ((x : Bytes) → ValueLives marked (w.vars x)) → HeapLives marked marked w.objects → WorldLives marked w (cleared marked w.objects)

-- the marks fit where each marked object lives and each number past the end is marked
abbrev pub FitByNumber : Type 0
FitByNumber =
    (marked : ℕ → Bool) (os : List (Object MVal)) → ((k : ℕ) (o : Object MVal) → slice_get os k ≡ Some o → marked k ≡ true → ObjectLives marked o) → ((k : ℕ) → length os ≤ k → marked k ≡ true)
    → HeapLives marked marked os

-- what is held marked stays so under more marks
abbrev pub ValuesLiveOn : Type 0
ValuesLiveOn = (a b : ℕ → Bool) → Grows a b → (v : MVal) → ValueLives a v → ValueLives b v

abbrev pub OperandsLiveOn : Type 0
OperandsLiveOn = (a b : ℕ → Bool) → Grows a b → (ops : List Operand) → OperandsLive a ops → OperandsLive b ops

abbrev pub SearchesLiveOn : Type 0
SearchesLiveOn = (a b : ℕ → Bool) → Grows a b → (st : s.MatchState) → SearchLives a st → SearchLives b st

abbrev pub FramesLiveOn : Type 0
FramesLiveOn = (a b : ℕ → Bool) → Grows a b → (fs : List Frame) → FramesLive a fs → FramesLive b fs

-- ---- runs with collections, each between two steps

-- a run goes on as it would without them
abbrev pub StepsKeepCollected : Type 0
StepsKeepCollected = (im : Image) (m : ℕ) (st st' : State) → Collected st st' → Collected (steps (module_of im) m st) (steps (module_of im) m st')

-- and so does one that goes on from where objects were given back
abbrev pub GoOnCollected : Type 0
GoOnCollected = (im : Image) (n m : ℕ) (st st1 : State) → Collected (steps (module_of im) n st) st1 → Collected (steps (module_of im) (n + m) st) (steps (module_of im) m st1)

-- one more
abbrev pub CollectedAgain : Type 0
CollectedAgain = (marked : ℕ → Bool) (st st1 st2 : State) → Collected st st1 → AlikeBy marked st1 st2 → Collected st st2

-- so no run shows what was given back: it has ended as the defined one has, if it has, and printed the same
abbrev pub CollectionsAreUnseen : Type 0
CollectionsAreUnseen = (im : Image) (inputs : Inputs) (m : ℕ) (st : State) → Collected (steps (module_of im) m (begun (module_of im) (first_m im.level inputs))) st → seen_at st ≡ machine_at im inputs m
