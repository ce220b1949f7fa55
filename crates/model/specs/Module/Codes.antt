-- The codes of keywords, primitives and operand bytes: each is a place in a list, that of keywords and primitives in Names.
use Rattle.std.specs.Prelude.{ℕ, List, [], ◌∷◌}
use Rattle.model.specs.declared.keys.KeyId.{KeyId}
use Rattle.model.specs.declared.keys.KeyId.TheVariants as keyIds
use Rattle.model.specs.declared.primitives.PrimId.{PrimId}
use Rattle.model.specs.declared.primitives.PrimId.TheVariants as primIds
use Rattle.model.specs.declared.instr.ReturnKind.{ReturnKind}
use Rattle.model.specs.declared.instr.ReturnKind.TheVariants as returnKinds
use Rattle.model.specs.declared.instr.SignOp.{SignOp}
use Rattle.model.specs.declared.instr.SignOp.TheVariants as signOps
use Rattle.model.specs.declared.instr.ArithOp.{ArithOp}
use Rattle.model.specs.declared.instr.ArithOp.TheVariants as arithOps

abbrev pub return_kinds : List ReturnKind
return_kinds = returnKinds.Return ∷ returnKinds.FReturn ∷ returnKinds.NReturn ∷ []

abbrev pub sign_ops : List SignOp
sign_ops = signOps.Plus ∷ signOps.Minus ∷ []

abbrev pub arith_ops : List ArithOp
arith_ops = arithOps.Add ∷ arithOps.Subtract ∷ arithOps.Multiply ∷ arithOps.Divide ∷ arithOps.Power ∷ []

abbrev pub key_code : KeyId → ℕ
key_code keyIds.Anchor = 0
key_code keyIds.FullScan = 1
key_code keyIds.Trim = 2
key_code keyIds.Input = 3
key_code keyIds.Output = 4
key_code keyIds.StLimit = 5
key_code keyIds.MaxLngth = 6
key_code keyIds.Alphabet = 7
key_code keyIds.StCount = 8
key_code keyIds.StNo = 9
key_code keyIds.LastNo = 10
key_code keyIds.StFCount = 11
key_code keyIds.FncLevel = 12
key_code keyIds.RtnType = 13

abbrev pub prim_code : PrimId → ℕ
prim_code primIds.Len = 0
prim_code primIds.Pos = 1
prim_code primIds.RPos = 2
prim_code primIds.Tab = 3
prim_code primIds.RTab = 4
prim_code primIds.Any = 5
prim_code primIds.NotAny = 6
prim_code primIds.Span = 7
prim_code primIds.Break = 8
prim_code primIds.Arbno = 9
prim_code primIds.Eq = 10
prim_code primIds.Ne = 11
prim_code primIds.Lt = 12
prim_code primIds.Le = 13
prim_code primIds.Gt = 14
prim_code primIds.Ge = 15
prim_code primIds.Lgt = 16
prim_code primIds.Ident = 17
prim_code primIds.Differ = 18
prim_code primIds.Integer = 19
prim_code primIds.Size = 20
prim_code primIds.Trim = 21
prim_code primIds.Dupl = 22
prim_code primIds.Replace = 23
prim_code primIds.Remdr = 24
prim_code primIds.DataType = 25
prim_code primIds.Array = 26
prim_code primIds.Table = 27
prim_code primIds.Item = 28
prim_code primIds.Copy = 29
prim_code primIds.Convert = 30
prim_code primIds.Data = 31
prim_code primIds.Define = 32
prim_code primIds.Apply = 33
prim_code primIds.Input = 34
prim_code primIds.Output = 35
prim_code primIds.Detach = 36
prim_code primIds.Fence = 37

abbrev pub return_code : ReturnKind → ℕ
return_code returnKinds.Return = 0
return_code returnKinds.FReturn = 1
return_code returnKinds.NReturn = 2

abbrev pub sign_code : SignOp → ℕ
sign_code signOps.Plus = 0
sign_code signOps.Minus = 1

abbrev pub arith_code : ArithOp → ℕ
arith_code arithOps.Add = 0
arith_code arithOps.Subtract = 1
arith_code arithOps.Multiply = 2
arith_code arithOps.Divide = 3
arith_code arithOps.Power = 4
