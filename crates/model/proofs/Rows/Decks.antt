-- How worked cases are written: decks of statements, and what is seen of their runs.
use Rattle.std.specs.Prelude.{ℕ, List, [], ◌∷◌, ◌++◌, pos, None, Some, codes}
use Rattle.model.specs.declared.run.Ending.TheVariants as ending
use Rattle.model.specs.declared.run.ErrorCode.{ErrorCode}
use Rattle.model.specs.Deck.Trees.{Bytes, Expr, Name, Integer, Given, Args, Nil, More, Place, Label, Goto, Next, Body, Assign, Stmt, Plain, End}
use Rattle.model.specs.Laws.Agreement.{Behaviour, Records, Inputs}

-- a deck whose END has no entry
abbrev pub deck : List Stmt → List Stmt
deck ss = ss ++ End None ∷ []

abbrev pub num : ℕ → Expr
num n = Integer (pos n)

abbrev pub args : List Expr → Args
args [] = Nil
args (e ∷ es) = More (Given e) (args es)

abbrev pub OUTPUT : Expr
OUTPUT = Name (codes "OUTPUT")

-- a statement without a label, and one with it
abbrev pub does : Body → Goto → Stmt
does body goto = Plain None body goto

abbrev pub at : Bytes → Body → Goto → Stmt
at l body goto = Plain (Some l) body goto

abbrev pub sets : Expr → Expr → Body
sets x e = Assign x (Some e)

-- an assignment alone, and of OUTPUT
abbrev pub set : Expr → Expr → Stmt
set x e = does (sets x e) Next

abbrev pub out : Expr → Stmt
out e = set OUTPUT e

-- to a label
abbrev pub to : Bytes → Place
to l = Label l

abbrev pub no_inputs : Inputs
no_inputs u = []

-- records on unit 6
abbrev pub lines : List Bytes → Records
lines [] = []
lines (s ∷ ss) = record { unit = 6; bytes = s } ∷ lines ss

abbrev pub runs : List Bytes → Behaviour
runs ss = record { ending = None; printed = lines ss }

abbrev pub ends_normally : List Bytes → Behaviour
ends_normally ss = record { ending = Some ending.Normal; printed = lines ss }

abbrev pub ends_with : ErrorCode → ℕ → List Bytes → Behaviour
ends_with e k ss = record { ending = Some (ending.Error e (pos k)); printed = lines ss }

abbrev pub ends_at_limit : ℕ → List Bytes → Behaviour
ends_at_limit k ss = record { ending = Some (ending.StLimit k); printed = lines ss }
