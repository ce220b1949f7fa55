-- What an instruction asks, takes and leaves, by its rule.
use Rattle.std.specs.Prelude.{◌≡◌, ℕ, suc, List, [], ◌∷◌, ◌++◌, length, drop, replicate, Option, Some, None}
use Rattle.model.specs.declared.instr.Instr.{Instr}
use Rattle.model.specs.declared.instr.Instr.TheVariants as op
use Rattle.model.specs.declared.image.Image.{Image}
use Rattle.model.specs.Machine.Steps.{OnBegin, OnTry}
use Rattle.model.specs.Module.Flow as flow
use Rattle.model.specs.Module.Flow.{Shape, shape, bare, V, N, R, InBody, InGoto, InEvaluation, Above, IsInTry, to_target}
use Rattle.flow_check.specs.declared.pool.Kind.{Kind}
use Rattle.flow_check.specs.declared.pool.Kind.TheVariants.{Value, Name, Span}
use Rattle.flow_check.specs.declared.rules.Run.{Run}
use Rattle.flow_check.specs.declared.rules.Takes.{Takes}
use Rattle.flow_check.specs.declared.rules.Takes.TheVariants as takes
use Rattle.flow_check.specs.declared.rules.Leaves.{Leaves}
use Rattle.flow_check.specs.declared.rules.Leaves.TheVariants as leaves
use Rattle.flow_check.specs.declared.rules.Rule.{Rule}
use Rattle.flow_check.specs.declared.rules.Rule.TheVariants.{Leave, Begin, Body, Jump, Answer, Try, Untry, Fail, Operate}

abbrev pub kind_of : Kind → flow.OperandKind
kind_of Value = flow.V
kind_of Name = flow.N
kind_of Span = flow.R

abbrev pub run_kinds : Run → List flow.OperandKind
run_kinds r = replicate r.count (kind_of r.kind)

abbrev pub taken : Takes → List flow.OperandKind
taken (takes.Values n) = replicate n V
taken takes.Name = N ∷ []
taken takes.ValueName = V ∷ N ∷ []
taken takes.NameValue = N ∷ V ∷ []
taken takes.ValuesName = V ∷ V ∷ N ∷ []
taken takes.ValueSpanName = V ∷ R ∷ N ∷ []

abbrev pub left : Leaves → List flow.OperandKind
left leaves.Nothing = []
left leaves.Value = V ∷ []
left leaves.Name = N ∷ []
left leaves.ValueName = V ∷ N ∷ []
left leaves.SpanName = R ∷ N ∷ []

abbrev pub rule_of : Instr → Rule
rule_of op.End = Leave
rule_of (op.Begin f) = Begin f
rule_of op.Body = Body
rule_of (op.Goto k) = Leave
rule_of (op.Return r) = Leave
rule_of op.GotoV = Jump
rule_of op.NoLabel = Leave
rule_of (op.Str s) = Operate (takes.Values 0) leaves.Value
rule_of (op.Int z) = Operate (takes.Values 0) leaves.Value
rule_of op.Null = Operate (takes.Values 0) leaves.Value
rule_of (op.Var s) = Operate (takes.Values 0) leaves.Name
rule_of op.Fetch = Operate takes.Name leaves.Value
rule_of (op.KeyGet k) = Operate (takes.Values 0) leaves.Value
rule_of (op.KeySet k) = Operate (takes.Values 1) leaves.Nothing
rule_of op.Indir = Operate (takes.Values 1) leaves.Name
rule_of (op.Elem n) = Operate (takes.Values (suc n)) leaves.Name
rule_of op.Assign = Operate takes.ValueName leaves.Nothing
rule_of op.NameV = Operate takes.Name leaves.Value
rule_of (op.Expr e) = Operate (takes.Values 0) leaves.Value
rule_of (op.CallV s n) = Operate (takes.Values n) leaves.Value
rule_of (op.CallN s n) = Operate (takes.Values n) leaves.Name
rule_of (op.PrimV p n) = Operate (takes.Values n) leaves.Value
rule_of (op.PrimN p n) = Operate (takes.Values n) leaves.Name
rule_of op.Drop = Operate (takes.Values 1) leaves.Nothing
rule_of (op.Try t) = Try t
rule_of op.Untry = Untry
rule_of op.Fail = Fail
rule_of (op.Sign o) = Operate (takes.Values 1) leaves.Value
rule_of (op.Arith o) = Operate (takes.Values 2) leaves.Value
rule_of op.Cat = Operate (takes.Values 2) leaves.Value
rule_of op.Alt = Operate (takes.Values 2) leaves.Value
rule_of op.Cond = Operate takes.NameValue leaves.Value
rule_of op.Imm = Operate takes.NameValue leaves.Value
rule_of op.Cursor = Operate takes.Name leaves.Value
rule_of (op.Pat p) = Operate (takes.Values 0) leaves.Value
rule_of op.FetchK = Operate takes.Name leaves.ValueName
rule_of op.Match = Operate (takes.Values 2) leaves.Nothing
rule_of op.MatchR = Operate takes.ValuesName leaves.SpanName
rule_of op.Splice = Operate takes.ValueSpanName leaves.Nothing
rule_of op.Ret = Answer

-- what it asks
abbrev pub Asked : Rule → Shape → Type 0
Asked Leave s = s ≡ bare
Asked (Begin f) s = s ≡ bare
Asked Body s = (t : ℕ) × (s ≡ shape InBody [] (OnBegin t ∷ []))
Asked Jump s = s ≡ shape InGoto (V ∷ []) []
Asked Answer s = s ≡ shape InEvaluation (V ∷ []) []
Asked (Try t) s = Above [] s
Asked Untry s = IsInTry s.handlers
Asked Fail s = Above [] s
Asked (Operate ts ls) s = Above (taken ts) s

-- what it leaves at the next instruction, and at a target
abbrev pub next_of : Rule → Shape → Option Shape
next_of Leave s = None
next_of (Begin f) s = Some (shape InBody [] (OnBegin f ∷ []))
next_of Body s = Some bare
next_of Jump s = None
next_of Answer s = None
next_of (Try t) s = Some (shape s.mode s.kinds (OnTry t (length s.kinds) ∷ s.handlers))
next_of Untry s = Some (shape s.mode s.kinds (drop 1 s.handlers))
next_of Fail s = None
next_of (Operate ts ls) s = Some (shape s.mode (left ls ++ drop (length (taken ts)) s.kinds) s.handlers)

abbrev pub target_of : Rule → Shape → Option (ℕ × Shape)
target_of (Begin f) s = Some (f, bare)
target_of (Try t) s = Some (t, s)
target_of _ s = None

abbrev pub go_on : ℕ → Option Shape → List (ℕ × Shape)
go_on next None = []
go_on next (Some s) = (next, s) ∷ []

abbrev pub go_to : Image → ℕ → Option (ℕ × Shape) → List (ℕ × Shape)
go_to im at None = []
go_to im at (Some p) = to_target im at p.0 p.1
