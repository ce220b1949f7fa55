-- What the code reads, beside what the definitions read.
use Rattle.std.specs.Prelude.{◌≡◌, ◌≤◌, ℕ, ⊤, List, [], ◌∷◌, length, drop, Option, Some, None, Result, Ok, Err}
use Rattle.model.specs.declared.tokens.Token.{Token}
use Rattle.model.specs.declared.trees.Binary.{Binary}
use Rattle.model.specs.declared.trees.Unary.{Unary}
use Rattle.model.specs.Deck.Grammar.{grade}
use Rattle.model.specs.Deck.Parse as spec
use Rattle.model.specs.Deck.Parse.{Onward, Ends, Sees, bind, graded, lefts, next, on, rights}
use Rattle.model.specs.Deck.Tokens.{Tok, Blank, Sign, tok}
use Rattle.model.specs.Deck.Trees as tree
use Rattle.model.specs.Deck.Trees.{Args, Combine}
use Rattle.model.specs.declared.trees.Expr.{Expr}
use Rattle.model.specs.declared.trees.Place.{Place}
use Rattle.model.specs.declared.trees.Stmt.{Stmt}
use Rattle.model.specs.Deck.TreeViews.{args_of, expr_of, place_of, stmt_of}
use Rattle.model.specs.declared.trees.Argument.{Argument}
use Rattle.std.specs.declared.alloc.Global.{Global}
use Rattle.std.specs.declared.boxed.Box.{Box}
use Rattle.std.specs.declared.vec.Vec.{Vec}
use Rattle.stmt_parser.specs.declared.marks.Role.{Role}
use Rattle.stmt_parser.specs.declared.marks.Role.TheVariants as r
use Rattle.stmt_parser.specs.declared.stop.Stop.{Stop}
use Rattle.stmt_parser.specs.declared.stop.Stop.TheVariants as stop

abbrev pub role_of : Role → spec.Role
role_of r.Opens = spec.Opens
role_of r.Refers = spec.Refers
role_of (r.Prefix u) = spec.Prefix u
role_of (r.Either u op) = spec.Either u op
role_of (r.Infix op) = spec.Infix op
role_of r.Neither = spec.Neither

-- the first token, which stays
abbrev pub Front : List Tok → Option Token → Type 0
Front ts None = ts ≡ []
Front ts (Some t) = (rest : List Tok) × (ts ≡ tok t ∷ rest)

-- the first token, and the tokens after it
abbrev pub Taken : List Tok → Option Token → List Tok → Type 0
Taken ts None rest = (ts ≡ []) × (rest ≡ [])
Taken ts (Some t) rest = ts ≡ tok t ∷ rest

-- the grade of the operator that comes next, or 0 where none does
abbrev pub grade_ahead : Onward → ℕ
grade_ahead Ends = 0
grade_ahead (Sees op ts) = grade op

-- an operator that comes next, and how many tokens it takes
abbrev pub Seen : List Tok → Option Binary → ℕ → Type 0
Seen ts None n = next ts ≡ Ends
Seen ts (Some op) n = (next ts ≡ Sees op (drop n ts)) × (n ≤ length ts)

abbrev pub SeenAfter : Tok → List Tok → Option Binary → ℕ → Type 0
SeenAfter t ts o n = Seen (Blank ∷ t ∷ ts) o n

-- the unary operator that a mark or a token may be
abbrev pub prefix_of_role : spec.Role → Option Unary
prefix_of_role (spec.Prefix u) = Some u
prefix_of_role (spec.Either u op) = Some u
prefix_of_role _ = None

abbrev pub prefix_of : Tok → Option Unary
prefix_of (Sign m) = prefix_of_role (spec.role m)
prefix_of _ = None

-- no mark of a unary operator comes next
abbrev pub Unprefixed : List Tok → Type 0
Unprefixed [] = ⊤
Unprefixed (t ∷ ts) = prefix_of t ≡ None

-- a unary operator, where its mark comes next, and the tokens after it
abbrev pub Prefixed : List Tok → Option Unary → List Tok → Type 0
Prefixed ts None rest = Unprefixed ts × (rest ≡ ts)
Prefixed ts (Some u) rest = (t : Tok) × (ts ≡ t ∷ rest) × (prefix_of t ≡ Some u)

-- no operator of this grade comes next
abbrev pub Misses : ℕ → Onward → Type 0
Misses k Ends = ⊤
Misses k (Sees op ts) = grade op ≡ k → ⊥

-- an operator of this grade, where one comes next, and the tokens after it
abbrev pub Operated : ℕ → List Tok → Option Binary → List Tok → Type 0
Operated k ts None rest = Misses k (next ts) × (rest ≡ ts)
Operated k ts (Some op) rest = (next ts ≡ Sees op rest) × (grade op ≡ k)

abbrev pub Fails : {A : Type 0} → Stop → Option A → Type 0
Fails stop.NoTree found = found ≡ None
Fails stop.Memory found = ⊤

-- how an operand goes on by `**`, with at most so many operands after it
abbrev pub powered : spec.Parser tree.Expr → ℕ → tree.Expr → spec.Parser tree.Expr
powered operand n e ts = on (next ts) 2 (Some (e, ts)) (λ op after. bind (rights operand 2 n after) (λ f end. Some (Combine op e f, end)))

-- how an element goes on by operators of grades 1 and 2
abbrev pub tight : spec.Parser tree.Expr → ℕ → tree.Expr → spec.Parser tree.Expr
tight atom n e ts = bind (lefts (graded atom 0) 1 (length ts) e ts) (λ x rest. powered (graded atom 1) n x rest)

-- what is read is what the definitions read, unless memory runs out
abbrev pub Reads : {A B : Type 0} → (B → A) → Option (A × List Tok) → Result B Stop → List Tok → Type 0
Reads view found (Ok x) rest = found ≡ Some (view x, rest)
Reads view found (Err s) rest = Fails s found

-- the tree behind a pointer
abbrev pub boxed_of : Box Expr Global → tree.Expr
boxed_of b = expr_of b.value

abbrev pub boxed_stmt_of : Box Stmt Global → tree.Stmt
boxed_stmt_of b = stmt_of b.value

abbrev pub arguments_of : Vec Argument Global → Args
arguments_of v = args_of v.items

abbrev pub other_place_of : Option Place → Option tree.Place
other_place_of None = None
other_place_of (Some p) = Some (place_of p)

-- what all tokens come to
abbrev pub Parses : Option tree.Stmt → Result (Box Stmt Global) Stop → Type 0
Parses found (Ok s) = found ≡ Some (stmt_of s.value)
Parses found (Err s) = Fails s found
