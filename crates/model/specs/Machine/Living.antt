-- States that are the same but for objects that nothing reaches. Some numbers of objects are marked: every number that a state's
-- parts hold, every number that a marked object holds, and every number that no object has yet. Two states with the same
-- parts are alike by the marks if their objects are as many, and the same at each marked number. What stands at a number
-- without a mark can't be reached, and never will be: numbers aren't used anew.
use Rattle.std.specs.Prelude.{◌≡◌, ℕ, suc, Bool, true, if◌then◌else◌, List, [], ◌∷◌, Some}
use Rattle.std.specs.List.{AllByRecursion}
use Rattle.model.specs.declared.run.Ending.{Ending}
use Rattle.model.specs.Deck.Trees.{Bytes}
use Rattle.model.specs.Deck.Target.{Name, Variable, Element, IntegerKey, StringKey}
use Rattle.model.specs.Pattern.Patterns as p
use Rattle.model.specs.Pattern.Patterns.{Close, Say, AtCursor, Pending, Answer, IsPattern}
use Rattle.model.specs.Language.Values.{Pat, Nam, Obj, Entry, Object, ArrayOf, TableOf, RecordOf, set_objects}
use Rattle.model.specs.Language.Calls.{AValue, AName, Saved, Kept}
use Rattle.model.specs.Language.Primitives.{Outcome, Returns, Calls}
use Rattle.model.specs.Pattern.Steps as s
use Rattle.model.specs.Pattern.Steps.{Won, Note, Opened, Fenced, Left, Thread, Choice, Retry, Again, Quit, Waiting, ForPattern, ForArgument, ForSaid, Starting, Going, Returning, Waits}
use Rattle.model.specs.Machine.Steps.{PCode, MVal, MW, MBack, Module, Operand, OV, ON, OR, Handler, Matching, Frame, InCall, InEval, State, Run, InMatch, Over, Stuck}

module _ (marked : ℕ → Bool) where
  -- ---- names, patterns and values: each number of an object that they hold is marked

  abbrev pub NameLives : Name → Type 0
  NameLives (Variable x) = Unit {0}
  NameLives (Element k i) = marked k ≡ true
  NameLives (IntegerKey k z) = marked k ≡ true
  NameLives (StringKey k t) = marked k ≡ true

  -- a pattern assigns to names
  abbrev pub InstrLives : p.Instr → Type 0
  InstrLives (Close x) = NameLives x
  InstrLives (Say x) = NameLives x
  InstrLives (AtCursor x) = NameLives x
  InstrLives _ = Unit {0}

  abbrev pub CodeLives : PCode → Type 0
  CodeLives c = AllByRecursion InstrLives c

  abbrev pub ValueLives : MVal → Type 0
  ValueLives (Pat c) = CodeLives c
  ValueLives (Nam x) = NameLives x
  ValueLives (Obj k) = marked k ≡ true
  ValueLives _ = Unit {0}

  abbrev pub ValuesLive : List MVal → Type 0
  ValuesLive vs = AllByRecursion ValueLives vs

  -- ---- objects

  -- keys of tables are integers and strings
  abbrev pub EntryLives : Entry MVal → Type 0
  EntryLives e = ValueLives e.value

  abbrev pub EntriesLive : List (Entry MVal) → Type 0
  EntriesLive es = AllByRecursion EntryLives es

  abbrev pub ObjectLives : Object MVal → Type 0
  ObjectLives (ArrayOf bounds vs) = ValuesLive vs
  ObjectLives (TableOf es) = EntriesLive es
  ObjectLives (RecordOf t fields vs) = ValuesLive vs

  -- two lists of objects are as long. Where a number is marked, the same object stands in both, and it lives. Numbers past their
  -- end are marked. Marks are read from the list's first number on
  abbrev pub HeapsAlike : (ℕ → Bool) → List (Object MVal) → List (Object MVal) → Type 0
  HeapsAlike marks [] [] = (k : ℕ) → marks k ≡ true
  HeapsAlike marks (o ∷ os) (x ∷ xs) = (marks 0 ≡ true → (x ≡ o) × ObjectLives o) × HeapsAlike (λ k. marks (suc k)) os xs
  HeapsAlike marks _ _ = ⊥

  -- a world whose variables live, and other objects that may stand in the place of its own
  abbrev pub WorldLives : MW → List (Object MVal) → Type 0
  WorldLives w os = record { vars : (x : Bytes) → ValueLives (w.vars x); objects : HeapsAlike marked w.objects os }

  -- ---- what calls and primitives give, and what a call keeps

  abbrev pub ReturnedLives : MBack → Type 0
  ReturnedLives (AValue v) = ValueLives v
  ReturnedLives (AName x) = NameLives x

  abbrev pub OutcomeLives : Outcome PCode ℕ → Type 0
  OutcomeLives (Returns g) = ReturnedLives g
  OutcomeLives (Calls f vs) = ValuesLive vs

  abbrev pub SavedLives : Saved PCode ℕ → Type 0
  SavedLives v = ValueLives v.value

  abbrev pub KeptLives : Kept PCode ℕ → Type 0
  KeptLives k = AllByRecursion SavedLives k.saved

  -- ---- the search of a match

  abbrev pub AnswerLives : Answer PCode → Type 0
  AnswerLives (IsPattern c) = CodeLives c
  AnswerLives _ = Unit {0}

  abbrev pub AnswersLive : s.Answers → Type 0
  AnswersLive u = AllByRecursion AnswerLives u

  abbrev pub PendingLives : Pending → Type 0
  PendingLives a = AllByRecursion (λ y. NameLives y.0) a

  abbrev pub NoteLives : Note → Type 0
  NoteLives (Opened c) = Unit {0}
  NoteLives (Fenced k) = Unit {0}
  NoteLives (Left code place) = CodeLives code

  abbrev pub NotesLive : List Note → Type 0
  NotesLive notes = AllByRecursion NoteLives notes

  abbrev pub ThreadLives : Thread → Type 0
  ThreadLives t = CodeLives t.code × NotesLive t.notes × PendingLives t.pending

  abbrev pub ChoiceLives : Choice → Type 0
  ChoiceLives (Retry place end more t) = ThreadLives t
  ChoiceLives (Again t) = ThreadLives t
  ChoiceLives Quit = Unit {0}

  abbrev pub ChoicesLive : List Choice → Type 0
  ChoicesLive cs = AllByRecursion ChoiceLives cs

  abbrev pub WaitingLives : Waiting → Type 0
  WaitingLives (ForPattern k) = Unit {0}
  WaitingLives (ForArgument kind k) = Unit {0}
  WaitingLives (ForSaid x v) = NameLives x

  abbrev pub SearchLives : s.MatchState → Type 0
  SearchLives (Starting start left u) = AnswersLive u
  SearchLives (Going t cs start left u) = ThreadLives t × ChoicesLive cs × AnswersLive u
  SearchLives (Returning ch cs start left u) = ChoiceLives ch × ChoicesLive cs × AnswersLive u
  SearchLives (Waits w t cs start left u) = WaitingLives w × ThreadLives t × ChoicesLive cs × AnswersLive u
  SearchLives (s.Over (Won start end a)) = PendingLives a
  SearchLives (s.Over s.Lost) = Unit {0}

  -- ---- states of the machine; handlers hold no number of an object

  abbrev pub OperandLives : Operand → Type 0
  OperandLives (OV v) = ValueLives v
  OperandLives (ON x) = NameLives x
  OperandLives (OR subject start end) = Unit {0}

  abbrev pub OperandsLive : List Operand → Type 0
  OperandsLive ops = AllByRecursion OperandLives ops

  abbrev pub MatchingLives : Matching → Type 0
  MatchingLives g = CodeLives g.code × OperandsLive g.ops

  abbrev pub FrameLives : Frame → Type 0
  FrameLives (InCall k c) = KeptLives k × OperandsLive c.ops
  FrameLives (InEval g want st) = MatchingLives g × SearchLives st

  abbrev pub FramesLive : List Frame → Type 0
  FramesLive fs = AllByRecursion FrameLives fs

  -- two states are the same but for objects without marks
  pub data AlikeBy : State → State → Type 0 where
    runs : {pc : ℕ} {ops : List Operand} {hs : List Handler} {fs : List Frame} {w : MW} {os : List (Object MVal)} → OperandsLive ops → FramesLive fs → WorldLives w os
        → AlikeBy (Run pc ops hs fs w) (Run pc ops hs fs (set_objects os w))
    matches : {g : Matching} {st : s.MatchState} {fs : List Frame} {w : MW} {os : List (Object MVal)} → MatchingLives g → SearchLives st → FramesLive fs → WorldLives w os
        → AlikeBy (InMatch g st fs w) (InMatch g st fs (set_objects os w))
    ended : {e : Ending} {w : MW} {os : List (Object MVal)} → WorldLives w os → AlikeBy (Over e w) (Over e (set_objects os w))
    stuck : {w : MW} {os : List (Object MVal)} → WorldLives w os → AlikeBy (Stuck w) (Stuck (set_objects os w))

  -- the patterns of a module name nothing but variables
  abbrev pub ModuleLives : Module → Type 0
  ModuleLives im = (k : ℕ) (c : PCode) → im.pattern k ≡ Some c → CodeLives c

-- what stands where nothing is any more
abbrev pub no_object : {V : Type 0} → Object V
no_object = TableOf []

-- objects are given back: nothing stands at a number without a mark. Marks are read from the list's first number on
abbrev pub cleared : {V : Type 0} → (ℕ → Bool) → List (Object V) → List (Object V)
cleared marks [] = []
cleared marks (o ∷ os) = (if marks 0 then o else no_object) ∷ cleared (λ k. marks (suc k)) os

-- a list of objects to which the marks fit: marked objects live, and numbers past the end are marked
abbrev pub HeapLives : (ℕ → Bool) → (ℕ → Bool) → List (Object MVal) → Type 0
HeapLives marked marks [] = (k : ℕ) → marks k ≡ true
HeapLives marked marks (o ∷ os) = (marks 0 ≡ true → ObjectLives marked o) × HeapLives marked (λ k. marks (suc k)) os

-- objects were given back once or more, each time by other marks
pub data Collected : State → State → Type 0 where
  never : {st : State} → Collected st st
  once_more : {st st1 st2 : State} (marked : ℕ → Bool) → AlikeBy marked st st1 → Collected st1 st2 → Collected st st2

-- one set of marks has all of the other's
abbrev pub Grows : (ℕ → Bool) → (ℕ → Bool) → Type 0
Grows marks more = (k : ℕ) → marks k ≡ true → more k ≡ true
