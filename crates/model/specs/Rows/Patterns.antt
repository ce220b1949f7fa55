-- Worked cases of matches: what the scan of a pattern and the steps of its code return.
use Rattle.std.specs.Prelude.{◌≡◌, ℕ, List, [], ◌∷◌, map, length, codes}
use Rattle.model.specs.Deck.Target.{Name, Variable}
use Rattle.model.specs.Pattern.Patterns.{KLen, Lit, Len, Pos, RPos, Tab, RTab, AnyOf, NotAnyOf, Span, Break, Rem, Arb, Bal, Fail, Pat, Plain, Succeed, Abort, Fence, Cat, Alt, Arbno, FenceOf, Cond, Imm, At, Defer, DeferBasic, DoSucceed, DoAbort, DoFence, Pending, IsPattern, IsCount, IsFailed, IsSaid, Event, Running, Failed, Asks, Matched, AskFor, SayThat, Text, Number, WantPattern, WantCount}
use Rattle.model.specs.Deck.Trees as trees
use Rattle.model.specs.Pattern.Search.{Script, scan}
use Rattle.model.specs.Pattern.Steps.{Code, Answers, match_steps, event_of}
use Rattle.model.specs.Pattern.Code.{basic_code, cat_code, alt_code, arbno_code, fence_code, cond_code, imm_code, cursor_code, defer_code, defer_basic_code}
use Rattle.model.specs.Deck.Trees.{Expr}

-- the code of a pattern, with every expression as number 0
abbrev pub code_of : Pat → Code
code_of (Plain k) = basic_code k
code_of Succeed = DoSucceed ∷ []
code_of Abort = DoAbort ∷ []
code_of Fence = DoFence ∷ []
code_of (Cat p q) = cat_code (code_of p) (code_of q)
code_of (Alt p q) = alt_code (code_of p) (code_of q)
code_of (Arbno p) = arbno_code (code_of p)
code_of (FenceOf p) = fence_code (code_of p)
code_of (Cond p x) = cond_code (code_of p) x
code_of (Imm p x) = imm_code (code_of p) x
code_of (At x) = cursor_code x
code_of (Defer e) = defer_code 0
code_of (DeferBasic k e) = defer_basic_code k 0

abbrev pub x : Name
x = Variable (codes "X")

abbrev pub y : Name
y = Variable (codes "Y")

abbrev pub text : List ℕ → Pat
text w = Plain (Lit w)

-- ---- without answers
pub data Outcome : Type 0 where
  Match : (start end : ℕ) → Pending → Outcome
  NoMatch NotYet : Outcome

abbrev pub outcome : {E : Type 0} → Event E → Outcome
outcome Running = NotYet
outcome Failed = NoMatch
outcome (Asks v) = NotYet
outcome (Matched b e a) = Match b e a

pub record Case : Type 0 where
  pub subject : List ℕ
  pub pattern : Pat
  pub answer : Outcome

-- unanchored, by a search to this bound, and by as many steps
abbrev pub by_scan : ℕ → Case → Outcome
by_scan n k = outcome (scan k.subject n k.pattern (length k.subject) 0 [])

abbrev pub by_steps : ℕ → Case → Outcome
by_steps m k = outcome (event_of (match_steps k.subject (code_of k.pattern) (length k.subject) 0 [] m))

abbrev pub case : List ℕ → Pat → Outcome → Case
case s p r = record { subject = s; pattern = p; answer = r }

-- from the first byte alone
abbrev pub at_first : Pat → Pat
at_first p = Cat (Plain (Pos 0)) p

abbrev pub cases : List Case
cases =
    -- `('BE' | 'BEA') . X`: the first end
    case (codes "BEADS") (Cond (Alt (text (codes "BE")) (text (codes "BEA"))) x) (Match 0 2 ((x, codes "BE") ∷ []))
    -- `POS(0) BAL . X 'C'`
    ∷ case (codes "A(B)C") (Cat (Cat (Plain (Pos 0)) (Cond (Plain Bal) x)) (text (codes "C"))) (Match 0 5 ((x, codes "A(B)") ∷ []))
    -- `POS(0) ARBNO('A') . X 'B'`
    ∷ case (codes "AAB") (Cat (Cat (Plain (Pos 0)) (Cond (Arbno (text (codes "A"))) x)) (text (codes "B"))) (Match 0 3 ((x, codes "AA") ∷ []))
    -- `'A' . X 'X' | 'A' . Y 'B'`: nothing stays of the branch given up
    ∷ case (codes "AB") (Alt (Cat (Cond (text (codes "A")) x) (text (codes "X"))) (Cat (Cond (text (codes "A")) y) (text (codes "B")))) (Match 0 2 ((y, codes "A") ∷ []))
    -- `FENCE 'B'`: no further start
    ∷ case (codes "ABC") (Cat Fence (text (codes "B"))) NoMatch
    ∷ case (codes "ABC") (text (codes "B")) (Match 1 2 [])
    -- `ARB . X RPOS(0)` on null
    ∷ case [] (Cat (Cond (Plain Arb) x) (Plain (RPos 0))) (Match 0 0 ((x, []) ∷ []))
    -- `ARBNO('A') . X`: nothing first
    ∷ case (codes "AA") (Cond (Arbno (text (codes "A"))) x) (Match 0 0 ((x, []) ∷ []))
    -- LEN past the end
    ∷ case (codes "AB") (Plain (Len 3)) NoMatch
    ∷ case (codes "AB") (Plain (Len 2)) (Match 0 2 [])
    -- TAB to the left, and RTAB
    ∷ case (codes "AB") (Cat (Plain (Len 2)) (Plain (Tab 1))) NoMatch
    ∷ case (codes "AB") (Cat (Plain (Len 1)) (Plain (Tab 1))) (Match 0 1 [])
    ∷ case (codes "AB") (Cat (Plain (Len 2)) (Plain (RTab 1))) NoMatch
    ∷ case (codes "AB") (Plain (RTab 0)) (Match 0 2 [])
    ∷ case (codes "AB") (Plain (RPos 0)) (Match 2 2 [])
    ∷ case (codes "AB") (Plain (Pos 3)) NoMatch
    -- SPAN of nothing, BREAK without its byte
    ∷ case (codes "AB") (at_first (Plain (Span (codes "B")))) NoMatch
    ∷ case (codes "ABBC") (Plain (Span (codes "B"))) (Match 1 3 [])
    ∷ case (codes "AB") (Plain (Break (codes "C"))) NoMatch
    ∷ case (codes "AB") (Plain (Break (codes "A"))) (Match 0 0 [])
    -- BAL: what closes more than it opened, and all its ends
    ∷ case (codes ")A") (at_first (Plain Bal)) NoMatch
    ∷ case (codes "A)") (at_first (Cat (Plain Bal) (Plain (RPos 0)))) NoMatch
    ∷ case (codes "(A") (at_first (Plain Bal)) NoMatch
    ∷ case (codes "(A)B") (at_first (Cat (Plain Bal) (Plain (RPos 0)))) (Match 0 4 [])
    -- ANY and NOTANY at the end
    ∷ case (codes "A") (Cat (Plain (Len 1)) (Plain (AnyOf (codes "A")))) NoMatch
    ∷ case (codes "A") (Cat (Plain (Len 1)) (Plain (NotAnyOf (codes "A")))) NoMatch
    ∷ case (codes "AB") (Plain (NotAnyOf (codes "A"))) (Match 1 2 [])
    ∷ case (codes "AB") (Cat (Plain (Len 1)) (Plain Rem)) (Match 0 2 [])
    ∷ case (codes "AB") (Alt (Plain Fail) Abort) NoMatch
    ∷ case (codes "AB") (Cat Succeed (text (codes "A"))) (Match 0 1 [])
    -- `FENCE('A' | 'AB') 'C'`: the first end only
    ∷ case (codes "ABC") (Cat (FenceOf (Alt (text (codes "A")) (text (codes "AB")))) (text (codes "C"))) NoMatch
    -- `FENCE('A') 'C'`: on at the next start
    ∷ case (codes "ABAC") (Cat (FenceOf (text (codes "A"))) (text (codes "C"))) (Match 2 4 [])
    -- `FENCE('A') 'X' | 'AB'`: on with what was before it
    ∷ case (codes "AB") (Alt (Cat (FenceOf (text (codes "A"))) (text (codes "X"))) (text (codes "AB"))) (Match 0 2 [])
    -- `POS(0) ARBNO(FENCE('A' | 'AB')) 'C'`, and with the longer one first: the choice of another turn stays
    ∷ case (codes "ABAC") (at_first (Cat (Arbno (FenceOf (Alt (text (codes "A")) (text (codes "AB"))))) (text (codes "C")))) NoMatch
    ∷ case (codes "ABAC") (at_first (Cat (Arbno (FenceOf (Alt (text (codes "AB")) (text (codes "A"))))) (text (codes "C")))) (Match 0 4 [])
    -- `FENCE('A' ABORT) | 'A'`, `FENCE(FAIL) | 'A'` and `FENCE('') 'B'`: a stop ends the match, a failure does not
    ∷ case (codes "AB") (Alt (FenceOf (Cat (text (codes "A")) Abort)) (text (codes "A"))) NoMatch
    ∷ case (codes "AB") (Alt (FenceOf (Plain Fail)) (text (codes "A"))) (Match 0 1 [])
    ∷ case (codes "AB") (Cat (FenceOf (text [])) (text (codes "B"))) (Match 1 2 [])
    -- `FENCE('A' FENCE 'B' | 'AC')` and `FENCE('A' FENCE) 'X' | 'AB'`: backing into FENCE inside ends the match, and behind
    -- it nothing is left of it
    ∷ case (codes "AC") (FenceOf (Alt (Cat (text (codes "A")) (Cat Fence (text (codes "B")))) (text (codes "AC")))) NoMatch
    ∷ case (codes "AB") (Alt (Cat (FenceOf (Cat (text (codes "A")) Fence)) (text (codes "X"))) (text (codes "AB"))) (Match 0 2 [])
    -- `FENCE(FENCE(ARB . X) 'B') RPOS(0)`: one in another
    ∷ case (codes "ABB") (Cat (FenceOf (Cat (FenceOf (Cond (Plain Arb) x)) (text (codes "B")))) (Plain (RPos 0))) (Match 2 3 ((x, []) ∷ []))
    ∷ case (codes "AB") (Cat Succeed (Plain Fail)) NotYet
    ∷ []

-- ---- with answers

-- `*E`
abbrev pub e : Expr
e = trees.Name (codes "E")

-- `'A' *E | 'B'`
abbrev pub nested : Pat
nested = Alt (Cat (text (codes "A")) (Defer e)) (text (codes "B"))

-- `FENCE('A' | 'AA')`
abbrev pub one_or_two : Pat
one_or_two = FenceOf (Alt (text (codes "A")) (text (codes "AA")))

-- a subject, a pattern, the answers for the scan and those for the code, and what is asked or assigned then
pub record Asked : Type 0 where
  pub subject : List ℕ
  pub pattern : Pat
  pub script : Script
  pub answers : Answers
  pub scanned : Event Expr
  pub run : Event ℕ

abbrev pub asked : List ℕ → Pat → Script → Answers → Event Expr → Event ℕ → Asked
asked s p t u v w = record { subject = s; pattern = p; script = t; answers = u; scanned = v; run = w }

abbrev pub asked_scan : ℕ → Asked → Event Expr
asked_scan n k = scan k.subject n k.pattern (length k.subject) 0 k.script

abbrev pub asked_run : ℕ → Asked → Event ℕ
asked_run m k = event_of (match_steps k.subject (code_of k.pattern) (length k.subject) 0 k.answers m)

abbrev pub questions : List Asked
questions =
    -- `LEN(1) $ X 'Z'`: assigned at each start, and never taken back
    asked (codes "AB") (Cat (Imm (Plain (Len 1)) x) (text (codes "Z"))) [] [] (Asks (SayThat x (Text (codes "A")))) (Asks (SayThat x (Text (codes "A"))))
    ∷ asked (codes "AB") (Cat (Imm (Plain (Len 1)) x) (text (codes "Z"))) (IsSaid ∷ []) (IsSaid ∷ []) (Asks (SayThat x (Text (codes "B")))) (Asks (SayThat x (Text (codes "B"))))
    ∷ asked (codes "AB") (Cat (Imm (Plain (Len 1)) x) (text (codes "Z"))) (IsSaid ∷ IsSaid ∷ []) (IsSaid ∷ IsSaid ∷ []) Failed Failed
    -- `LEN(1) @X`
    ∷ asked (codes "AB") (Cat (Plain (Len 1)) (At x)) [] [] (Asks (SayThat x (Number 1))) (Asks (SayThat x (Number 1)))
    ∷ asked (codes "AB") (Cat (Plain (Len 1)) (At x)) (IsSaid ∷ []) (IsSaid ∷ []) (Matched 0 1 []) (Matched 0 1 [])
    -- `LEN(*E)`, asked anew at each visit
    ∷ asked (codes "AB") (DeferBasic KLen e) [] [] (Asks (AskFor e WantCount)) (Asks (AskFor 0 WantCount))
    ∷ asked (codes "AB") (DeferBasic KLen e) (IsCount 3 ∷ []) (IsCount 3 ∷ []) (Asks (AskFor e WantCount)) (Asks (AskFor 0 WantCount))
    ∷ asked (codes "AB") (DeferBasic KLen e) (IsCount 3 ∷ IsCount 1 ∷ []) (IsCount 3 ∷ IsCount 1 ∷ []) (Matched 1 2 []) (Matched 1 2 [])
    ∷ asked (codes "AB") (DeferBasic KLen e) (IsFailed ∷ IsFailed ∷ IsFailed ∷ []) (IsFailed ∷ IsFailed ∷ IsFailed ∷ []) Failed Failed
    -- `FENCE(*E | 'AA') 'B'`: what is asked inside a fence, and the answers that are left behind it
    ∷ asked (codes "AAB") (Cat (FenceOf (Alt (Defer e) (text (codes "AA")))) (text (codes "B"))) (IsPattern (text (codes "A")) ∷ []) (IsPattern (basic_code (Lit (codes "A"))) ∷ []) (Asks (AskFor e WantPattern)) (Asks (AskFor 0 WantPattern))
    ∷ asked (codes "AAB") (Cat (FenceOf (Alt (Defer e) (text (codes "AA")))) (text (codes "B"))) (IsPattern (text (codes "A")) ∷ IsPattern (text (codes "A")) ∷ []) (IsPattern (basic_code (Lit (codes "A"))) ∷ IsPattern (basic_code (Lit (codes "A"))) ∷ []) (Matched 1 3 []) (Matched 1 3 [])
    -- `*E 'B'` with `FENCE('A' | 'AA')` for E: a fence in a pattern that is entered
    ∷ asked (codes "AAB") (Cat (Defer e) (text (codes "B"))) (IsPattern one_or_two ∷ IsPattern one_or_two ∷ []) (IsPattern (code_of one_or_two) ∷ IsPattern (code_of one_or_two) ∷ []) (Matched 1 3 []) (Matched 1 3 [])
    -- `FENCE(LEN(1) $ X) 'A'`: assigned inside a fence, once at each start
    ∷ asked (codes "XA") (Cat (FenceOf (Imm (Plain (Len 1)) x)) (text (codes "A"))) [] [] (Asks (SayThat x (Text (codes "X")))) (Asks (SayThat x (Text (codes "X"))))
    ∷ asked (codes "XA") (Cat (FenceOf (Imm (Plain (Len 1)) x)) (text (codes "A"))) (IsSaid ∷ []) (IsSaid ∷ []) (Matched 0 2 []) (Matched 0 2 [])
    -- `FENCE('A' $ X | 'AA' $ Y) 'B'`: the second part is not gone back to
    ∷ asked (codes "AAB") (Cat (FenceOf (Alt (Imm (text (codes "A")) x) (Imm (text (codes "AA")) y))) (text (codes "B"))) (IsSaid ∷ []) (IsSaid ∷ []) (Asks (SayThat x (Text (codes "A")))) (Asks (SayThat x (Text (codes "A"))))
    ∷ asked (codes "AAB") (Cat (FenceOf (Alt (Imm (text (codes "A")) x) (Imm (text (codes "AA")) y))) (text (codes "B"))) (IsSaid ∷ IsSaid ∷ []) (IsSaid ∷ IsSaid ∷ []) (Matched 1 3 []) (Matched 1 3 [])
    -- `FENCE(LEN(1) @X | 'AA') 'B'`: a cursor that is assigned inside a fence
    ∷ asked (codes "AAB") (Cat (FenceOf (Alt (Cat (Plain (Len 1)) (At x)) (text (codes "AA")))) (text (codes "B"))) (IsSaid ∷ []) (IsSaid ∷ []) (Asks (SayThat x (Number 2))) (Asks (SayThat x (Number 2)))
    ∷ asked (codes "AAB") (Cat (FenceOf (Alt (Cat (Plain (Len 1)) (At x)) (text (codes "AA")))) (text (codes "B"))) (IsSaid ∷ IsSaid ∷ []) (IsSaid ∷ IsSaid ∷ []) (Matched 1 3 []) (Matched 1 3 [])
    -- a pattern that enters itself
    ∷ asked (codes "AAB") nested (IsPattern nested ∷ []) (IsPattern (code_of nested) ∷ []) (Asks (AskFor e WantPattern)) (Asks (AskFor 0 WantPattern))
    ∷ asked (codes "AAB") nested (IsPattern nested ∷ IsPattern nested ∷ []) (IsPattern (code_of nested) ∷ IsPattern (code_of nested) ∷ []) (Matched 0 3 []) (Matched 0 3 [])
    ∷ []

-- the ends of entered patterns, and the JMPs behind their EVALs, take no step: with both answers the last case
-- is over in the 13th step
abbrev pub nested_run : ℕ → Outcome
nested_run m =
    outcome (event_of (match_steps (codes "AAB") (code_of nested) 3 0 (IsPattern (code_of nested) ∷ IsPattern (code_of nested) ∷ []) m))

-- ---- what is computed
abbrev pub ScansMeetCases : Type 0
ScansMeetCases = map (by_scan 30) cases ≡ map (λ k. k.answer) cases

abbrev pub StepsMeetCases : Type 0
StepsMeetCases = map (by_steps 60) cases ≡ map (λ k. k.answer) cases

abbrev pub ScansMeetQuestions : Type 0
ScansMeetQuestions = map (asked_scan 30) questions ≡ map (λ k. k.scanned) questions

abbrev pub StepsMeetQuestions : Type 0
StepsMeetQuestions = map (asked_run 60) questions ≡ map (λ k. k.run) questions

abbrev pub NestedEnds : Type 0
NestedEnds = (nested_run 12 ≡ NotYet) × (nested_run 13 ≡ Match 0 3 [])
