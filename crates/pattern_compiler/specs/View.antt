-- What code at run time is in the definitions.
use Rattle.std.specs.Prelude.{◌≡◌, List, [], ◌∷◌, map, Option, Some, None}
use Rattle.std.specs.declared.rc.Rc.{Rc}
use Rattle.std.specs.declared.vec.Vec.{Vec}
use Rattle.std.specs.declared.alloc.Global.{Global}
use Rattle.model.specs.Deck.Target as target
use Rattle.model.specs.Pattern.Patterns as p
use Rattle.model.specs.Pattern.Steps.{Code}
use Rattle.pattern_compiler.specs.declared.instr.Name.{Name}
use Rattle.pattern_compiler.specs.declared.instr.Name.TheVariants as name
use Rattle.pattern_compiler.specs.declared.instr.Basic.{Basic}
use Rattle.pattern_compiler.specs.declared.instr.Basic.TheVariants as basic
use Rattle.pattern_compiler.specs.declared.instr.Kind.{Kind}
use Rattle.pattern_compiler.specs.declared.instr.Kind.TheVariants as kind
use Rattle.pattern_compiler.specs.declared.instr.Instr.{Instr}
use Rattle.pattern_compiler.specs.declared.instr.Instr.TheVariants as instr

abbrev pub name_of : Name → target.Name
name_of (name.Variable x) = target.Variable x
name_of (name.Element o i) = target.Element o i
name_of (name.IntegerKey o k) = target.IntegerKey o k
name_of (name.StringKey o k) = target.StringKey o k

abbrev pub basic_of : Basic → p.Basic
basic_of (basic.Lit w) = p.Lit w
basic_of (basic.Len n) = p.Len n
basic_of (basic.Pos n) = p.Pos n
basic_of (basic.RPos n) = p.RPos n
basic_of (basic.Tab n) = p.Tab n
basic_of (basic.RTab n) = p.RTab n
basic_of (basic.Any w) = p.AnyOf w
basic_of (basic.NotAny w) = p.NotAnyOf w
basic_of (basic.Span w) = p.Span w
basic_of (basic.Break w) = p.Break w
basic_of basic.Rem = p.Rem
basic_of basic.Arb = p.Arb
basic_of basic.Bal = p.Bal
basic_of basic.Fail = p.Fail

abbrev pub kind_of : Kind → p.Kind
kind_of kind.Len = p.KLen
kind_of kind.Pos = p.KPos
kind_of kind.RPos = p.KRPos
kind_of kind.Tab = p.KTab
kind_of kind.RTab = p.KRTab
kind_of kind.Any = p.KAny
kind_of kind.NotAny = p.KNotAny
kind_of kind.Span = p.KSpan
kind_of kind.Break = p.KBreak

abbrev pub instr_of : Instr → p.Instr
instr_of (instr.Do k) = p.Do (basic_of k)
instr_of (instr.Split d) = p.Split d
instr_of (instr.Jmp d) = p.Jmp d
instr_of instr.Succeed = p.DoSucceed
instr_of instr.Abort = p.DoAbort
instr_of instr.Fence = p.DoFence
instr_of instr.Open = p.Open
instr_of instr.OpenFence = p.OpenFence
instr_of instr.CloseFence = p.CloseFence
instr_of (instr.Close x) = p.Close (name_of x)
instr_of (instr.Say x) = p.Say (name_of x)
instr_of (instr.At x) = p.AtCursor (name_of x)
instr_of (instr.Eval e) = p.Eval e
instr_of (instr.EvalBasic k e) = p.EvalBasic (kind_of k) e

abbrev pub code_of : List Instr → Code
code_of xs = map instr_of xs

abbrev pub shared_code : Option (Rc (Vec Instr Global) Global) → Code
shared_code None = []
shared_code (Some it) = code_of it.value.items

-- an instruction, and then this code
abbrev pub IsLed : Code → List Instr → Type 0
IsLed rest xs = (i : p.Instr) × (code_of xs ≡ i ∷ rest)
