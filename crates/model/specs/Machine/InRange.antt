-- Unevaluated expressions whose numbers are all below n: in pattern code, values, worlds, matches and states of the machine.
use Rattle.std.specs.Prelude.{◌≡◌, ◌<◌, ℕ, List, Some}
use Rattle.std.specs.List.{AllByRecursion}
use Rattle.model.specs.declared.instr.Instr.TheVariants as op
use Rattle.model.specs.Deck.Trees.{Bytes}
use Rattle.model.specs.Pattern.Patterns as p
use Rattle.model.specs.Pattern.Patterns.{Eval, EvalBasic, Answer, IsPattern, Event, Asks, AskFor}
use Rattle.model.specs.Language.Values.{Pat, Exp, Entry, Object, ArrayOf, TableOf, RecordOf}
use Rattle.model.specs.Language.Calls.{AValue, AName, Saved, Kept}
use Rattle.model.specs.Language.Primitives.{Outcome, Returns, Calls}
use Rattle.model.specs.Pattern.Steps as s
use Rattle.model.specs.Pattern.Steps.{Note, Opened, Fenced, Left, Thread, Choice, Retry, Again, Quit, Waiting, ForPattern, ForArgument, ForSaid, Starting, Going, Returning, Waits}
use Rattle.model.specs.Machine.Steps.{PCode, MVal, MW, MBack, At, Module, Operand, OV, ON, OR, Matching, Frame, InCall, InEval, State, Run, InMatch, Over, Stuck}

module _ (n : ℕ) where
  -- ---- patterns and values

  -- an instruction that asks for an expression's value has its number
  abbrev pub InstrIn : p.Instr → Type 0
  InstrIn (Eval k) = k < n
  InstrIn (EvalBasic kind k) = k < n
  InstrIn _ = Unit {0}

  abbrev pub CodeIn : PCode → Type 0
  CodeIn c = AllByRecursion InstrIn c

  abbrev pub ValueIn : MVal → Type 0
  ValueIn (Pat c) = CodeIn c
  ValueIn (Exp k) = k < n
  ValueIn _ = Unit {0}

  abbrev pub ValuesIn : List MVal → Type 0
  ValuesIn vs = AllByRecursion ValueIn vs

  -- ---- the world

  abbrev pub EntryIn : Entry MVal → Type 0
  EntryIn e = ValueIn e.value

  abbrev pub EntriesIn : List (Entry MVal) → Type 0
  EntriesIn es = AllByRecursion EntryIn es

  abbrev pub ObjectIn : Object MVal → Type 0
  ObjectIn (ArrayOf bounds vs) = ValuesIn vs
  ObjectIn (TableOf es) = EntriesIn es
  ObjectIn (RecordOf t fields vs) = ValuesIn vs

  abbrev pub ObjectsIn : List (Object MVal) → Type 0
  ObjectsIn os = AllByRecursion ObjectIn os

  abbrev pub WorldIn : MW → Type 0
  WorldIn w = record { vars : (x : Bytes) → ValueIn (w.vars x); objects : ObjectsIn w.objects }

  -- ---- what calls and primitives give, and what a call keeps

  abbrev pub ReturnedIn : MBack → Type 0
  ReturnedIn (AValue v) = ValueIn v
  ReturnedIn (AName x) = Unit {0}

  abbrev pub OutcomeIn : Outcome PCode ℕ → Type 0
  OutcomeIn (Returns g) = ReturnedIn g
  OutcomeIn (Calls f vs) = ValuesIn vs

  abbrev pub SavedIn : Saved PCode ℕ → Type 0
  SavedIn s = ValueIn s.value

  abbrev pub KeptIn : Kept PCode ℕ → Type 0
  KeptIn k = AllByRecursion SavedIn k.saved

  -- ---- the search of a match

  abbrev pub AnswerIn : Answer PCode → Type 0
  AnswerIn (IsPattern c) = CodeIn c
  AnswerIn _ = Unit {0}

  abbrev pub AnswersIn : s.Answers → Type 0
  AnswersIn u = AllByRecursion AnswerIn u

  abbrev pub NoteIn : Note → Type 0
  NoteIn (Opened c) = Unit {0}
  NoteIn (Fenced k) = Unit {0}
  NoteIn (Left code place) = CodeIn code

  abbrev pub NotesIn : List Note → Type 0
  NotesIn notes = AllByRecursion NoteIn notes

  abbrev pub ThreadIn : Thread → Type 0
  ThreadIn t = CodeIn t.code × NotesIn t.notes

  abbrev pub ChoiceIn : Choice → Type 0
  ChoiceIn (Retry place end more t) = ThreadIn t
  ChoiceIn (Again t) = ThreadIn t
  ChoiceIn Quit = Unit {0}

  abbrev pub ChoicesIn : List Choice → Type 0
  ChoicesIn cs = AllByRecursion ChoiceIn cs

  abbrev pub WaitingIn : Waiting → Type 0
  WaitingIn (ForPattern k) = k < n
  WaitingIn (ForArgument kind k) = k < n
  WaitingIn (ForSaid x v) = Unit {0}

  abbrev pub SearchIn : s.MatchState → Type 0
  SearchIn (Starting start left u) = AnswersIn u
  SearchIn (Going t cs start left u) = ThreadIn t × ChoicesIn cs × AnswersIn u
  SearchIn (Returning ch cs start left u) = ChoiceIn ch × ChoicesIn cs × AnswersIn u
  SearchIn (Waits w t cs start left u) = WaitingIn w × ThreadIn t × ChoicesIn cs × AnswersIn u
  SearchIn (s.Over e) = Unit {0}

  -- a match that asks for an expression's value asks with its number
  abbrev pub EventIn : Event ℕ → Type 0
  EventIn (Asks (AskFor k want)) = k < n
  EventIn _ = Unit {0}

  -- ---- states of the machine

  abbrev pub OperandIn : Operand → Type 0
  OperandIn (OV v) = ValueIn v
  OperandIn (ON x) = Unit {0}
  OperandIn (OR subject start end) = Unit {0}

  abbrev pub OperandsIn : List Operand → Type 0
  OperandsIn ops = AllByRecursion OperandIn ops

  abbrev pub MatchingIn : Matching → Type 0
  MatchingIn g = CodeIn g.code × OperandsIn g.ops

  abbrev pub FrameIn : Frame → Type 0
  FrameIn (InCall k c) = KeptIn k × OperandsIn c.ops
  FrameIn (InEval g want st) = MatchingIn g × SearchIn st

  abbrev pub FramesIn : List Frame → Type 0
  FramesIn fs = AllByRecursion FrameIn fs

  abbrev pub StateIn : State → Type 0
  StateIn (Run pc ops hs fs w) = OperandsIn ops × FramesIn fs × WorldIn w
  StateIn (InMatch g st fs w) = MatchingIn g × SearchIn st × FramesIn fs × WorldIn w
  StateIn (Over e w) = WorldIn w
  StateIn (Stuck w) = WorldIn w

  -- ---- what a module gives

  pub record ModuleIn (im : Module) : Type 0 where
    -- its patterns
    pub patterns : (k : ℕ) (c : PCode) → im.pattern k ≡ Some c → CodeIn c
    -- the numbers that its EXPR instructions have
    pub expressions : (at next k : ℕ) → im.fetch at ≡ At (op.Expr k) next → k < n
