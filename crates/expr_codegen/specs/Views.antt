-- What the state of a generator stands for, and the instructions of operators and calls.
use Rattle.std.specs.Prelude.{ℕ, Bool, true, false, map}
use Rattle.model.specs.declared.instr.Instr.{Instr}
use Rattle.model.specs.declared.instr.Instr.TheVariants as op
use Rattle.model.specs.declared.instr.ArithOp.TheVariants as arith
use Rattle.model.specs.declared.trees.Binary.{Binary}
use Rattle.model.specs.declared.trees.Binary.TheVariants as b
use Rattle.model.specs.Language.Names.{prim_named}
use Rattle.model.specs.Deck.Trees.{Bytes, Expr, Args}
use Rattle.model.specs.Deck.TreeViews.{expr_of}
use Rattle.expr_codegen.specs.Code.{Part, one, with_string, ◌>>◌, call, value, name, arguments}
use Rattle.expr_codegen.specs.Emitting.{Gen}
use Rattle.expr_codegen.specs.declared.generator.Generator.{Generator}

abbrev pub gen_of : Generator → Gen
gen_of g = record { code = g.code.items; texts = g.strings; waiting = map (λ e. expr_of e.value.expr) g.waiting.items; taken = g.taken }

-- whether the right operand is a target
abbrev pub takes_target : Binary → Bool
takes_target b.Conditional = true
takes_target b.Immediate = true
takes_target _ = false

abbrev pub instr_of : Binary → Instr
instr_of b.Conditional = op.Cond
instr_of b.Immediate = op.Imm
instr_of b.Power = op.Arith arith.Power
instr_of b.Multiply = op.Arith arith.Multiply
instr_of b.Divide = op.Arith arith.Divide
instr_of b.Add = op.Arith arith.Add
instr_of b.Subtract = op.Arith arith.Subtract
instr_of b.Concatenate = op.Cat
instr_of b.Alternate = op.Alt

-- for a name or for a value
abbrev pub wanted : Bool → Expr → Part
wanted true = name
wanted false = value

abbrev pub call_of : Bool → Bytes → ℕ → Part
call_of true f n = call op.PrimN op.CallN (prim_named f) f n
call_of false f n = call op.PrimV op.CallV (prim_named f) f n

-- the element of a reference with n subscripts
abbrev pub element : Bytes → Args → ℕ → Part
element x args n = with_string op.Var x >> one op.Fetch >> arguments args >> one (op.Elem n)

-- a call with n arguments
abbrev pub called : Bool → Bytes → Args → ℕ → Part
called wants f args n = arguments args >> call_of wants f n

-- the values of a variable and of an element
abbrev pub fetched : Bytes → Part
fetched x = with_string op.Var x >> one op.Fetch

abbrev pub fetched_element : Bytes → Args → ℕ → Part
fetched_element x args n = element x args n >> one op.Fetch
