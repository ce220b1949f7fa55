-- The code of expressions, put together from parts.
use Rattle.std.specs.Prelude.{ℕ, ◌+◌, List, [], ◌∷◌, ◌++◌, length, Option, Some, None}
use Rattle.model.specs.declared.instr.Instr.{Instr}
use Rattle.model.specs.declared.instr.Instr.TheVariants as op
use Rattle.model.specs.declared.instr.ArithOp.TheVariants as arith
use Rattle.model.specs.declared.instr.SignOp.TheVariants as sign
use Rattle.model.specs.declared.keys.KeyId.{KeyId}
use Rattle.model.specs.declared.primitives.PrimId.{PrimId}
use Rattle.model.specs.declared.trees.Unary.TheVariants as u
use Rattle.model.specs.declared.trees.Binary.TheVariants as b
use Rattle.model.specs.Deck.Trees.{Bytes, Expr, Name, Integer, Literal, Keyword, Call, Reference, Apply, Combine, Args, Nil, More, Absent, Given}
use Rattle.model.specs.Language.Names.{key_named, prim_named}
use Rattle.model.specs.Deck.Faults.{count}
use Rattle.model.specs.Module.Images.{code_size}
use Rattle.expr_codegen.specs.Texts.{number_of_text}

-- a part of the code
pub record Part : Type 0 where
  -- its instructions, where these are all strings of the module, the next unevaluated expression gets number k, and the
  -- first instruction stands at this offset
  pub code : (texts : List Bytes) → (k at : ℕ) → List Instr
  -- the strings that it uses, in order
  pub texts : List Bytes
  -- the unevaluated expressions that it names, in order
  pub later : List Expr

-- ---- parts

unfoldable pub nothing : Part
nothing = record { code = λ texts k at. []; texts = []; later = [] }

-- an instruction
unfoldable pub one : Instr → Part
one i = record { code = λ texts k at. i ∷ []; texts = []; later = [] }

-- an instruction with the number of a string
unfoldable pub with_string : (ℕ → Instr) → Bytes → Part
with_string i s = record { code = λ texts k at. i (number_of_text s texts) ∷ []; texts = s ∷ []; later = [] }

-- an expression stays unevaluated; its number
unfoldable pub unevaluated : Expr → Part
unevaluated e = record { code = λ texts k at. op.Expr k ∷ []; texts = []; later = e ∷ [] }

-- one part behind the other
infixr 10 ◌>>◌
unfoldable pub ◌>>◌ : Part → Part → Part
a >> b = record {
  code = λ texts k at. a.code texts k at ++ b.code texts (k + length a.later) (at + code_size (a.code texts k at));
  texts = a.texts ++ b.texts;
  later = a.later ++ b.later;
}

-- an instruction of 5 bytes with the offset of the second part, and both parts
unfoldable pub handled : (ℕ → Instr) → Part → Part → Part
handled i a b = record {
  code = λ texts k at. i (at + 5 + code_size (a.code texts k (at + 5))) ∷ (a >> b).code texts k (at + 5);
  texts = (a >> b).texts;
  later = (a >> b).later;
}

-- ---- keywords and calls

-- a keyword that no deck names has no code
abbrev pub with_key : (KeyId → Instr) → Option KeyId → Part
with_key i None = nothing
with_key i (Some k) = one (i k)

-- the call of a primitive or of a function of the program's own, behind its n arguments
abbrev pub call : (PrimId → ℕ → Instr) → (ℕ → ℕ → Instr) → Option PrimId → Bytes → ℕ → Part
call prim own None f n = with_string (λ k. own k n) f
call prim own (Some p) f n = one (prim p n)

-- ---- expressions

abbrev mutual
  -- gives a value
  pub value : Expr → Part
  value (Name x) = with_string op.Var x >> one op.Fetch
  value (Integer z) = one (op.Int z)
  value (Literal s) = with_string op.Str s
  value (Keyword s) = with_key op.KeyGet (key_named s)
  value (Call f args) = arguments args >> call op.PrimV op.CallV (prim_named f) f (count args)
  value (Reference x args) = with_string op.Var x >> one op.Fetch >> arguments args >> one (op.Elem (count args)) >> one op.Fetch
  value (Apply u.NameOf e) = name e >> one op.NameV
  value (Apply u.Indirect e) = value e >> one op.Indir >> one op.Fetch
  value (Apply u.Unevaluated e) = unevaluated e
  value (Apply u.Cursor e) = name e >> one op.Cursor
  value (Apply u.Plus e) = value e >> one (op.Sign sign.Plus)
  value (Apply u.Minus e) = value e >> one (op.Sign sign.Minus)
  value (Apply u.Interrogate e) = value e >> one op.Drop >> one op.Null
  value (Apply u.Negate e) = handled op.Try (value e >> one op.Drop >> one op.Untry >> one op.Fail) (one op.Null)
  value (Combine b.Conditional x y) = value x >> name y >> one op.Cond
  value (Combine b.Immediate x y) = value x >> name y >> one op.Imm
  value (Combine b.Power x y) = value x >> value y >> one (op.Arith arith.Power)
  value (Combine b.Multiply x y) = value x >> value y >> one (op.Arith arith.Multiply)
  value (Combine b.Divide x y) = value x >> value y >> one (op.Arith arith.Divide)
  value (Combine b.Add x y) = value x >> value y >> one (op.Arith arith.Add)
  value (Combine b.Subtract x y) = value x >> value y >> one (op.Arith arith.Subtract)
  value (Combine b.Concatenate x y) = value x >> value y >> one op.Cat
  value (Combine b.Alternate x y) = value x >> value y >> one op.Alt

  -- gives a name; what is no target has no code
  pub name : Expr → Part
  name (Name x) = with_string op.Var x
  name (Apply u.Indirect e) = value e >> one op.Indir
  name (Reference x args) = with_string op.Var x >> one op.Fetch >> arguments args >> one (op.Elem (count args))
  name (Call f args) = arguments args >> call op.PrimN op.CallN (prim_named f) f (count args)
  name _ = nothing

  -- a value for each argument, null for an absent one
  pub arguments : Args → Part
  arguments Nil = nothing
  arguments (More Absent args) = one op.Null >> arguments args
  arguments (More (Given e) args) = value e >> arguments args
