-- The tree of a token list, as a function of it: the expressions.
use Rattle.std.specs.Prelude.{ℕ, zero, suc, pos, ◌==◌, Bool, true, false, List, [], ◌∷◌, length, Option, Some, None, if◌then◌else◌}
use denote.Enum.Bare.{sameb}
use Rattle.model.specs.contracts.tokens.Mark.{the_type}
use Rattle.model.specs.declared.tokens.Mark.{Mark}
use Rattle.model.specs.declared.tokens.Mark.TheVariants as mark
use Rattle.model.specs.declared.trees.Unary.{Unary}
use Rattle.model.specs.declared.trees.Unary.TheVariants as unary
use Rattle.model.specs.declared.trees.Binary.{Binary}
use Rattle.model.specs.declared.trees.Binary.TheVariants as binary
use Rattle.model.specs.Deck.Tokens.{Tok, Blank, Word, Digits, Quoted, Sign}
use Rattle.model.specs.Deck.Trees.{Bytes, Expr, Name, Integer, Literal, Keyword, Call, Reference, Apply, Combine, Arg, Absent, Given, Args, Nil, More}
use Rattle.model.specs.Deck.Grammar.{grade, shown, given}

-- a value read from the front of the tokens, and the tokens after it
abbrev pub Parser : Type 0 → Type 0
Parser A = List Tok → Option (A × List Tok)

unfoldable pub bind : {A B : Type 0} → Option (A × List Tok) → (A → Parser B) → Option (B × List Tok)
bind None f = None
bind (Some p) f = f p.0 p.1

-- what a mark may be: a bracket that opens, `&`, an operator of either kind or of both, or none of these
pub data Role : Type 0 where
  Opens Refers : Role
  Prefix : Unary → Role
  Either : Unary → Binary → Role
  Infix : Binary → Role
  Neither : Role

abbrev pub role : Mark → Role
role mark.Power = Infix binary.Power
role mark.Open = Opens
role mark.Star = Either unary.Unevaluated binary.Multiply
role mark.Slash = Infix binary.Divide
role mark.Plus = Either unary.Plus binary.Add
role mark.Minus = Either unary.Minus binary.Subtract
role mark.Dot = Either unary.NameOf binary.Conditional
role mark.Dollar = Either unary.Indirect binary.Immediate
role mark.At = Prefix unary.Cursor
role mark.Question = Prefix unary.Interrogate
role mark.Ampersand = Refers
role mark.Bar = Infix binary.Alternate
role mark.Tilde = Prefix unary.Negate
role _ = Neither

-- how an expression goes on: not at all, or by an operator and the tokens after it
pub data Onward : Type 0 where
  Ends : Onward
  Sees : Binary → List Tok → Onward

abbrev pub binary_or_unary : Binary → Mark → List Tok → Onward
binary_or_unary op m (Blank ∷ ts) = Sees op ts
binary_or_unary op m ts = Sees binary.Concatenate (Sign m ∷ ts)

abbrev pub infix_by : Binary → List Tok → Onward
infix_by op (Blank ∷ ts) = Sees op ts
infix_by op ts = Ends

abbrev pub by_role : Role → Mark → List Tok → Onward
by_role (Either u op) m ts = binary_or_unary op m ts
by_role (Infix op) m ts = infix_by op ts
by_role Neither m ts = Ends
by_role _ m ts = Sees binary.Concatenate (Sign m ∷ ts)

abbrev pub after_blank : List Tok → Onward
after_blank [] = Ends
after_blank (Blank ∷ ts) = Ends
after_blank (Sign m ∷ ts) = by_role (role m) m ts
after_blank ts = Sees binary.Concatenate ts

unfoldable pub next : List Tok → Onward
next (Blank ∷ ts) = after_blank ts
next ts = Ends

-- the tokens after blanks that may be there
unfoldable pub skip : List Tok → List Tok
skip (Blank ∷ ts) = ts
skip ts = ts

-- whether a token begins an element
abbrev pub role_starts : Role → Bool
role_starts (Infix op) = false
role_starts Neither = false
role_starts _ = true

abbrev pub tok_starts : Tok → Bool
tok_starts Blank = false
tok_starts (Sign m) = role_starts (role m)
tok_starts _ = true

unfoldable pub starts : List Tok → Bool
starts [] = false
starts (t ∷ ts) = tok_starts t

abbrev pub same : Mark → Mark → Bool
same = sameb the_type

-- whether this mark comes next
abbrev pub sees_tok : Mark → Tok → Bool
sees_tok m (Sign n) = same m n
sees_tok m _ = false

unfoldable pub sees : Mark → List Tok → Bool
sees m [] = false
sees m (t ∷ ts) = sees_tok m t

abbrev pub tail : List Tok → List Tok
tail [] = []
tail (t ∷ ts) = ts

-- the value, where this mark comes next, with the tokens after the mark
unfoldable pub expect : {A : Type 0} → Mark → A → List Tok → Option (A × List Tok)
expect m a ts = if sees m ts then Some (a, tail ts) else None

-- ---- elements, over the parser of a whole expression
module _ (inner : Parser Expr) where
  unfoldable pub one_argument : Parser Arg
  one_argument ts = if starts (skip ts) then bind (inner (skip ts)) (λ e rest. Some (Given e, skip rest)) else Some (Absent, skip ts)

  -- at most this many
  unfoldable pub several : ℕ → Parser Args
  several zero ts = None
  several (suc n) ts = bind (one_argument ts) (λ arg rest. if sees mark.Comma rest then bind (several n (tail rest)) (λ args end. Some (More arg args, end)) else Some (More arg Nil, rest))

  abbrev pub subscripts : Bytes → Args → Parser Expr
  subscripts a args rest = if given args then expect mark.Greater (Reference a args) rest else None

  -- after a name
  unfoldable pub after_name : Bytes → Parser Expr
  after_name f ts = if sees mark.Open ts then bind (several (length ts) (tail ts)) (λ args rest. expect mark.Close (Call f (shown args)) rest)
      else (if sees mark.Less ts then bind (several (length ts) (tail ts)) (subscripts f) else Some (Name f, ts))

  unfoldable pub bracketed : Parser Expr
  bracketed ts = bind (inner (skip ts)) (λ e rest. expect mark.Close e (skip rest))

  abbrev pub keyword_of : Parser Expr
  keyword_of (Word s ∷ ts) = Some (Keyword s, ts)
  keyword_of ts = None

  abbrev pub prefixed : Unary → Option (Expr × List Tok) → Option (Expr × List Tok)
  prefixed u found = bind found (λ e rest. Some (Apply u e, rest))

  -- the last argument is the element after the mark
  abbrev pub by_mark : Role → List Tok → Option (Expr × List Tok) → Option (Expr × List Tok)
  by_mark Opens ts found = bracketed ts
  by_mark Refers ts found = keyword_of ts
  by_mark (Prefix u) ts found = prefixed u found
  by_mark (Either u op) ts found = prefixed u found
  by_mark _ ts found = None

  -- again is the parser of the element after a unary operator
  unfoldable pub element_step : Parser Expr → Parser Expr
  element_step again [] = None
  element_step again (Blank ∷ ts) = None
  element_step again (Word s ∷ ts) = after_name s ts
  element_step again (Digits n ∷ ts) = Some (Integer (pos n), ts)
  element_step again (Quoted s ∷ ts) = Some (Literal s, ts)
  element_step again (Sign m ∷ ts) = by_mark (role m) ts (again ts)

-- ---- grades

-- goes on where an operator of the grade comes next, and else stops
unfoldable pub on : {A : Type 0} → Onward → ℕ → A → (Binary → List Tok → A) → A
on Ends k stop go = stop
on (Sees op after) k stop go = if grade op == k then go op after else stop

-- operators of one grade with their operands, to the left and to the right
module _ (operand : Parser Expr) (k : ℕ) where
  unfoldable pub lefts : ℕ → Expr → Parser Expr
  lefts zero e ts = Some (e, ts)
  lefts (suc n) e ts = on (next ts) k (Some (e, ts)) (λ op after. bind (operand after) (λ f rest. lefts n (Combine op e f) rest))

  unfoldable pub rights : ℕ → Parser Expr
  rights zero ts = None
  rights (suc n) ts = bind (operand ts) (λ e rest. on (next rest) k (Some (e, rest)) (λ op after. bind (rights n after) (λ f end. Some (Combine op e f, end))))

-- an expression of a grade, over its elements
unfoldable pub graded : Parser Expr → ℕ → Parser Expr
graded atom zero ts = atom ts
graded atom (suc k) ts = if k == 1 then rights (graded atom k) (suc k) (length ts) ts
    else bind (graded atom k ts) (λ e rest. lefts (graded atom k) (suc k) (length rest) e rest)

-- with brackets and unary operators nested less deep than the number
unfoldable pub element : ℕ → Parser Expr
element zero ts = None
element (suc d) ts = element_step (graded (element d) 7) (element d) ts

abbrev pub whole : ℕ → Parser Expr
whole d = graded (element d) 7

-- what is read, where no token is left
abbrev pub at_end : {A : Type 0} → Option (A × List Tok) → Option A
at_end None = None
at_end (Some p) = elim p.1 [ [] ↦ Some p.0 | t ∷ rest ↦ None ]

-- the one tree of all the tokens
unfoldable pub expr : List Tok → Option Expr
expr ts = at_end (whole (length ts) ts)
