-- Which token lists spell an expression.
use Rattle.std.specs.Prelude.{◌≡◌, ℕ, suc, pos, Bool, true, false, List, [], ◌∷◌, ◌++◌}
use Rattle.model.specs.declared.tokens.Mark.{Mark}
use Rattle.model.specs.declared.tokens.Mark.TheVariants as mark
use Rattle.model.specs.declared.trees.Unary.{Unary}
use Rattle.model.specs.declared.trees.Unary.TheVariants as unary
use Rattle.model.specs.declared.trees.Binary.{Binary}
use Rattle.model.specs.declared.trees.Binary.TheVariants as binary
use Rattle.model.specs.Deck.Tokens.{Tok, Blank, Word, Digits, Quoted, Sign}
use Rattle.model.specs.Deck.Trees.{Bytes, Expr, Name, Integer, Literal, Keyword, Call, Reference, Apply, Combine, Arg, Absent, Given, Args, Nil, More}

-- the mark of a unary operator
abbrev pub sign_of : Unary → Mark
sign_of unary.NameOf = mark.Dot
sign_of unary.Indirect = mark.Dollar
sign_of unary.Unevaluated = mark.Star
sign_of unary.Cursor = mark.At
sign_of unary.Plus = mark.Plus
sign_of unary.Minus = mark.Minus
sign_of unary.Interrogate = mark.Question
sign_of unary.Negate = mark.Tilde

-- how loosely a binary operator binds; grade 0 is an element, grade 7 a whole expression
abbrev pub grade : Binary → ℕ
grade binary.Conditional = 1
grade binary.Immediate = 1
grade binary.Power = 2
grade binary.Multiply = 3
grade binary.Divide = 4
grade binary.Add = 5
grade binary.Subtract = 5
grade binary.Concatenate = 6
grade binary.Alternate = 7

-- the loosest left operand: `**` groups to the right, all others to the left
abbrev pub left : Binary → ℕ
left binary.Conditional = 1
left binary.Immediate = 1
left binary.Power = 1
left binary.Multiply = 3
left binary.Divide = 4
left binary.Add = 5
left binary.Subtract = 5
left binary.Concatenate = 6
left binary.Alternate = 7

-- the loosest right operand
abbrev pub right : Binary → ℕ
right binary.Conditional = 0
right binary.Immediate = 0
right binary.Power = 2
right binary.Multiply = 2
right binary.Divide = 3
right binary.Add = 4
right binary.Subtract = 4
right binary.Concatenate = 5
right binary.Alternate = 6

-- a mark with blanks on both sides
abbrev pub spaced : Mark → List Tok
spaced m = Blank ∷ Sign m ∷ Blank ∷ []

-- what stands between the operands
abbrev pub link : Binary → List Tok
link binary.Conditional = spaced mark.Dot
link binary.Immediate = spaced mark.Dollar
link binary.Power = spaced mark.Power
link binary.Multiply = spaced mark.Star
link binary.Divide = spaced mark.Slash
link binary.Add = spaced mark.Plus
link binary.Subtract = spaced mark.Minus
link binary.Concatenate = Blank ∷ []
link binary.Alternate = spaced mark.Bar

-- blanks that may be there or not
abbrev pub gap : Bool → List Tok
gap true = Blank ∷ []
gap false = []

-- one absent argument is none: `F()` and `F( )` have no argument, `F(,)` has two
abbrev pub shown : Args → Args
shown (More Absent Nil) = Nil
shown args = args

-- no argument is absent
abbrev pub given : Args → Bool
given Nil = true
given (More Absent args) = false
given (More (Given e) args) = given args

-- what is spelled: an element, an expression of a grade, one argument, arguments with commas
pub data Phrase : Type 0 where
  Element : Expr → Phrase
  Grade : ℕ → Expr → Phrase
  One : Arg → Phrase
  Several : Args → Phrase

pub data Spells : Phrase → List Tok → Type 0 where
  -- elements
  name : (s : Bytes) → Spells (Element (Name s)) (Word s ∷ [])
  integer : (n : ℕ) → Spells (Element (Integer (pos n))) (Digits n ∷ [])
  literal : (s : Bytes) → Spells (Element (Literal s)) (Quoted s ∷ [])
  keyword : (s : Bytes) → Spells (Element (Keyword s)) (Sign mark.Ampersand ∷ Word s ∷ [])
  applied : (u : Unary) (e : Expr) (ts : List Tok) → Spells (Element e) ts → Spells (Element (Apply u e)) (Sign (sign_of u) ∷ ts)
  -- round brackets leave no trace
  brackets : (e : Expr) (ts : List Tok) (g h : Bool) → Spells (Grade 7 e) ts
      → Spells (Element e) (Sign mark.Open ∷ (gap g ++ (ts ++ (gap h ++ Sign mark.Close ∷ []))))
  call : (f : Bytes) (args : Args) (ts : List Tok) → Spells (Several args) ts
      → Spells (Element (Call f (shown args))) (Word f ∷ Sign mark.Open ∷ (ts ++ Sign mark.Close ∷ []))
  reference : (a : Bytes) (args : Args) (ts : List Tok) → Spells (Several args) ts → given args ≡ true
      → Spells (Element (Reference a args)) (Word a ∷ Sign mark.Less ∷ (ts ++ Sign mark.Greater ∷ []))
  -- grades
  plain : (e : Expr) (ts : List Tok) → Spells (Element e) ts → Spells (Grade 0 e) ts
  looser : (k : ℕ) (e : Expr) (ts : List Tok) → Spells (Grade k e) ts → Spells (Grade (suc k) e) ts
  combined : (op : Binary) (a b : Expr) (ts us : List Tok) → Spells (Grade (left op) a) ts → Spells (Grade (right op) b) us
      → Spells (Grade (grade op) (Combine op a b)) (ts ++ (link op ++ us))
  -- arguments
  absent : (g : Bool) → Spells (One Absent) (gap g)
  present : (e : Expr) (ts : List Tok) (g h : Bool) → Spells (Grade 7 e) ts → Spells (One (Given e)) (gap g ++ (ts ++ gap h))
  single : (arg : Arg) (ts : List Tok) → Spells (One arg) ts → Spells (Several (More arg Nil)) ts
  comma : (arg : Arg) (args : Args) (ts us : List Tok) → Spells (One arg) ts → Spells (Several args) us
      → Spells (Several (More arg args)) (ts ++ (Sign mark.Comma ∷ us))

abbrev pub IsElement : Expr → List Tok → Type 0
IsElement e ts = Spells (Element e) ts

abbrev pub IsExpr : Expr → List Tok → Type 0
IsExpr e ts = Spells (Grade 7 e) ts
