-- Which token lists spell a statement: `[label] [B subject [B pattern] [B = [B object]]] [B goto] [B]`, where B stands for
-- blanks, or the form of END, `END [B name] [B]`.
use Rattle.std.specs.Prelude.{◌≢◌, Bool, List, [], ◌∷◌, ◌++◌, Option, Some, None, codes}
use Rattle.model.specs.declared.tokens.Mark.TheVariants as mark
use Rattle.model.specs.Deck.Tokens.{Tok, Blank, Word, Sign}
use Rattle.model.specs.Deck.Trees.{Bytes, Expr, Place, Label, Computed, Goto, Next, Always, OnSuccess, OnFailure, Both, Body, Nothing, Evaluate, Match, Assign, Replace, Stmt, Plain, End}
use Rattle.model.specs.Deck.Grammar.{gap, IsElement, IsExpr}

-- ---- gotos

-- a label, or `$` directly before an element
pub data IsPlace : Place → List Tok → Type 0 where
  label : (l : Bytes) → IsPlace (Label l) (Word l ∷ [])
  computed : (e : Expr) (ts : List Tok) → IsElement e ts → IsPlace (Computed e) (Sign mark.Dollar ∷ ts)

-- a place in round brackets
pub data InBrackets : Place → List Tok → Type 0 where
  brackets : (p : Place) (ts : List Tok) (g h : Bool) → IsPlace p ts
      → InBrackets p (Sign mark.Open ∷ (gap g ++ (ts ++ (gap h ++ Sign mark.Close ∷ []))))

-- the words before the brackets
abbrev pub on_success : Bytes
on_success = codes "S"

abbrev pub on_failure : Bytes
on_failure = codes "F"

-- what stands after `:` and blanks
pub data IsExits : Goto → List Tok → Type 0 where
  always : (p : Place) (ts : List Tok) → InBrackets p ts → IsExits (Always p) ts
  success : (p : Place) (ts : List Tok) → InBrackets p ts → IsExits (OnSuccess p) (Word on_success ∷ ts)
  failure : (p : Place) (ts : List Tok) → InBrackets p ts → IsExits (OnFailure p) (Word on_failure ∷ ts)
  success_first : (p q : Place) (ts us : List Tok) (g : Bool) → InBrackets p ts → InBrackets q us
      → IsExits (Both p q) (Word on_success ∷ (ts ++ (gap g ++ Word on_failure ∷ us)))
  failure_first : (p q : Place) (ts us : List Tok) (g : Bool) → InBrackets p ts → InBrackets q us
      → IsExits (Both p q) (Word on_failure ∷ (us ++ (gap g ++ Word on_success ∷ ts)))

-- `[B goto]`
pub data IsGoto : Goto → List Tok → Type 0 where
  next : IsGoto Next []
  leaves : (exits : Goto) (ts : List Tok) (g : Bool) → IsExits exits ts → IsGoto exits (Blank ∷ Sign mark.Colon ∷ (gap g ++ ts))

-- ---- bodies

-- `[B object]`
pub data IsObject : Option Expr → List Tok → Type 0 where
  absent : IsObject None []
  present : (e : Expr) (ts : List Tok) → IsExpr e ts → IsObject (Some e) (Blank ∷ ts)

-- `[B subject [B pattern] [B = [B object]]]`
pub data IsBody : Body → List Tok → Type 0 where
  nothing : IsBody Nothing []
  evaluate : (x : Expr) (ts : List Tok) → IsElement x ts → IsBody (Evaluate x) (Blank ∷ ts)
  match : (x p : Expr) (ts us : List Tok) → IsElement x ts → IsExpr p us → IsBody (Match x p) (Blank ∷ (ts ++ (Blank ∷ us)))
  assign : (x : Expr) (o : Option Expr) (ts us : List Tok) → IsElement x ts → IsObject o us
      → IsBody (Assign x o) (Blank ∷ (ts ++ (Blank ∷ Sign mark.Equal ∷ us)))
  replace : (x p : Expr) (o : Option Expr) (ts us vs : List Tok) → IsElement x ts → IsExpr p us → IsObject o vs
      → IsBody (Replace x p o) (Blank ∷ (ts ++ (Blank ∷ (us ++ (Blank ∷ Sign mark.Equal ∷ vs)))))

-- ---- statements

abbrev pub end_word : Bytes
end_word = codes "END"

-- `[label]`; END is the label of the END statement alone
pub data IsLabel : Option Bytes → List Tok → Type 0 where
  unlabelled : IsLabel None []
  labelled : (l : Bytes) → l ≢ end_word → IsLabel (Some l) (Word l ∷ [])

-- `[B name]`
pub data IsEntry : Option Bytes → List Tok → Type 0 where
  first : IsEntry None []
  entry : (l : Bytes) → IsEntry (Some l) (Blank ∷ Word l ∷ [])

-- this statement has this token list
pub data Tree : Stmt → List Tok → Type 0 where
  plain : (l : Option Bytes) (b : Body) (g : Goto) (ts us vs : List Tok) (h : Bool) → IsLabel l ts → IsBody b us → IsGoto g vs
      → Tree (Plain l b g) (ts ++ (us ++ (vs ++ gap h)))
  end : (l : Option Bytes) (ts : List Tok) (h : Bool) → IsEntry l ts → Tree (End l) (Word end_word ∷ (ts ++ gap h))

abbrev pub HasNoTree : List Tok → Type 0
HasNoTree ts = (s : Stmt) → Tree s ts → ⊥
