-- Pattern trees, pattern instructions, and what a match is asked and answers.
use Rattle.std.specs.Prelude.{ℕ, ℤ, List}
use Rattle.model.specs.Deck.Trees as trees
use Rattle.model.specs.Deck.Target as target
use Rattle.model.specs.Deck.Target.{Name}
use Rattle.model.specs.Deck.Trees.{Expr}

-- what has no pattern in it, no effect, and a list of ends that its subject and place determine
pub data Basic : Type 0 where
  Lit : List ℕ → Basic
  Len Pos RPos Tab RTab : ℕ → Basic
  AnyOf NotAnyOf Span Break : List ℕ → Basic
  Rem Arb Bal Fail : Basic

-- the kinds whose argument may be deferred: first those of a count, then those of a set
pub data Kind : Type 0 where
  KLen KPos KRPos KTab KRTab KAny KNotAny KSpan KBreak : Kind

pub data Pat : Type 0 where
  Plain : Basic → Pat
  Succeed Abort Fence : Pat
  Cat Alt : Pat → Pat → Pat
  Arbno FenceOf : Pat → Pat
  Cond Imm : Pat → Name → Pat
  At : Name → Pat
  Defer : Expr → Pat
  DeferBasic : Kind → Expr → Pat

-- an instruction of pattern code; an expression is its number
pub data Instr : Type 0 where
  Do : Basic → Instr
  Split Jmp : ℤ → Instr
  DoSucceed DoAbort DoFence Open OpenFence CloseFence : Instr
  Close Say AtCursor : Name → Instr
  Eval : ℕ → Instr
  EvalBasic : Kind → ℕ → Instr

pub data Want : Type 0 where
  WantPattern WantCount WantBytes : Want

pub data Told : Type 0 where
  Text : List ℕ → Told
  Number : ℕ → Told

-- what a pending assignment assigns, in order
abbrev pub Pending : Type 0
Pending = List (Name × List ℕ)

-- the answer to an event, with P for a pattern
pub data Answer (P : Type 0) : Type 0 where
  IsPattern : P → Answer P
  IsCount : ℕ → Answer P
  IsBytes : List ℕ → Answer P
  IsFailed IsSaid : Answer P

-- what a match asks for, with E for an expression
pub data Ask (E : Type 0) : Type 0 where
  AskFor : E → Want → Ask E
  SayThat : Name → Told → Ask E

-- what a match gives: nothing yet, a question, or its end
pub data Event (E : Type 0) : Type 0 where
  Running Failed : Event E
  Asks : Ask E → Event E
  Matched : (start end : ℕ) → Pending → Event E

-- the pattern of a kind with a given argument, or none where the answer isn't of its kind
abbrev pub want_of_kind : Kind → Want
want_of_kind KLen = WantCount
want_of_kind KPos = WantCount
want_of_kind KRPos = WantCount
want_of_kind KTab = WantCount
want_of_kind KRTab = WantCount
want_of_kind _ = WantBytes

-- a kind with a count, and with a set (a kind of the other sort fails)
abbrev pub with_count : Kind → ℕ → Basic
with_count KLen n = Len n
with_count KPos n = Pos n
with_count KRPos n = RPos n
with_count KTab n = Tab n
with_count KRTab n = RTab n
with_count _ n = Fail

abbrev pub with_bytes : Kind → List ℕ → Basic
with_bytes KAny w = AnyOf w
with_bytes KNotAny w = NotAnyOf w
with_bytes KSpan w = Span w
with_bytes KBreak w = Break w
with_bytes _ w = Fail

abbrev pub with_answer : {P : Type 0} → Kind → Answer P → Basic
with_answer k (IsCount n) = with_count k n
with_answer k (IsBytes w) = with_bytes k w
with_answer k _ = Fail
