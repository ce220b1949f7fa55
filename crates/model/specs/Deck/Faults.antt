-- The faults of a deck: each faulty statement with its one cause.
use Rattle.std.specs.Prelude.{ℕ, suc, ◌&&◌, ◌||◌, nat_le, Bool, true, false, not, is_some, List, [], ◌∷◌, ◌++◌, Option, Some, None, Result, Ok, Err, if◌then◌else◌, codes}
use Rattle.std.specs.Str.{bytes_eq}
use Rattle.model.specs.declared.cards.CardFault.{CardFault}
use Rattle.model.specs.declared.cards.Statement.{Statement}
use Rattle.model.specs.declared.causes.Cause.{Cause}
use Rattle.model.specs.declared.causes.Cause.TheVariants as cause
use Rattle.model.specs.declared.causes.StmtFault.{StmtFault}
use Rattle.model.specs.declared.keys.KeyId.{KeyId}
use Rattle.model.specs.declared.primitives.PrimId.{PrimId}
use Rattle.model.specs.declared.trees.Unary.TheVariants as unary
use Rattle.model.specs.declared.trees.Binary.TheVariants as binary
use Rattle.model.specs.Deck.Cards.{deck}
use Rattle.model.specs.Deck.Cut.{least_lexical, toks_of}
use Rattle.model.specs.Language.Names.{key_named, is_protected, prim_named, most_args}
use Rattle.model.specs.Deck.Pieces.{pieces}
use Rattle.model.specs.Deck.ParseStatements.{stmt}
use Rattle.model.specs.Deck.Statements.{end_word}
use Rattle.model.specs.Deck.Trees.{Bytes, Expr, Name, Keyword, Call, Reference, Apply, Combine, Arg, Absent, Given, Args, Nil, More, Place, Label, Computed, Goto, Next, Always, OnSuccess, OnFailure, Both, Body, Nothing, Evaluate, Match, Assign, Replace, Stmt, Plain, End}

-- ---- the expressions of a statement

module _ (test : Expr → Bool) where
  -- the expression and each expression inside it passes
  abbrev mutual
    pub everywhere : Expr → Bool
    everywhere (Call f args) = test (Call f args) && in_args args
    everywhere (Reference a args) = test (Reference a args) && in_args args
    everywhere (Apply u x) = test (Apply u x) && everywhere x
    everywhere (Combine op x y) = test (Combine op x y) && (everywhere x && everywhere y)
    everywhere x = test x

    pub in_arg : Arg → Bool
    in_arg Absent = true
    in_arg (Given x) = everywhere x

    pub in_args : Args → Bool
    in_args Nil = true
    in_args (More arg args) = in_arg arg && in_args args

  abbrev pub in_place : Place → Bool
  in_place (Label l) = true
  in_place (Computed x) = everywhere x

  abbrev pub in_goto : Goto → Bool
  in_goto Next = true
  in_goto (Always p) = in_place p
  in_goto (OnSuccess p) = in_place p
  in_goto (OnFailure p) = in_place p
  in_goto (Both p q) = in_place p && in_place q

  abbrev pub in_object : Option Expr → Bool
  in_object None = true
  in_object (Some x) = everywhere x

  abbrev pub in_body : Body → Bool
  in_body Nothing = true
  in_body (Evaluate x) = everywhere x
  in_body (Match x p) = everywhere x && everywhere p
  in_body (Assign x o) = everywhere x && in_object o
  in_body (Replace x p o) = everywhere x && (everywhere p && in_object o)

  -- each expression of the statement passes
  abbrev pub throughout : Stmt → Bool
  throughout (Plain l b g) = in_body b && in_goto g
  throughout (End entry) = true

-- ---- the rules that an expression may break

abbrev pub count : Args → ℕ
count Nil = 0
count (More arg args) = suc (count args)

abbrev pub at_most : Option PrimId → ℕ → Bool
at_most None n = true
at_most (Some p) n = nat_le n (most_args p)

-- a primitive is called with no more arguments than it takes
abbrev pub call_fits : Expr → Bool
call_fits (Call f args) = at_most (prim_named f) (count args)
call_fits _ = true

-- a keyword is known
abbrev pub keyword_known : Expr → Bool
keyword_known (Keyword k) = is_some (key_named k)
keyword_known _ = true

-- a target: a name, `$` with an element, a reference or a call
abbrev pub is_target : Expr → Bool
is_target (Name s) = true
is_target (Apply unary.Indirect x) = true
is_target (Reference a args) = true
is_target (Call f args) = true
is_target _ = false

-- the operand of unary `.` and `@`, and the right one of binary `.` and `$`, is a target
abbrev pub operand_fits : Expr → Bool
operand_fits (Apply unary.NameOf x) = is_target x
operand_fits (Apply unary.Cursor x) = is_target x
operand_fits (Combine binary.Conditional x y) = is_target y
operand_fits (Combine binary.Immediate x y) = is_target y
operand_fits _ = true

-- ---- the rules that a statement may break

abbrev pub may_be_assigned : Option KeyId → Bool
may_be_assigned None = false
may_be_assigned (Some k) = not (is_protected k)

-- the subject of `=` is a target; without a pattern it may be a keyword that isn't protected
abbrev pub subject_fits : Body → Bool
subject_fits (Assign (Keyword k) o) = may_be_assigned (key_named k)
subject_fits (Assign x o) = is_target x
subject_fits (Replace x p o) = is_target x
subject_fits _ = true

abbrev pub targets_fit : Stmt → Bool
targets_fit (Plain l b g) = subject_fits b && throughout operand_fits (Plain l b g)
targets_fit (End entry) = true

-- the label that a statement gives
abbrev pub label_given : Stmt → List Bytes
label_given (Plain None b g) = []
label_given (Plain (Some l) b g) = l ∷ []
label_given (End entry) = end_word ∷ []

abbrev pub is_one_of : Bytes → List Bytes → Bool
is_one_of l [] = false
is_one_of l (m ∷ ms) = bytes_eq l m || is_one_of l ms

abbrev pub returns : List Bytes
returns = codes "RETURN" ∷ codes "FRETURN" ∷ codes "NRETURN" ∷ []

-- the label is one that returns have, or is given by an earlier statement
abbrev pub is_taken : (earlier labels : List Bytes) → Bool
is_taken earlier [] = false
is_taken earlier (l ∷ _) = is_one_of l returns || is_one_of l earlier

-- the label where execution begins is given by a statement
abbrev pub entry_given : List Bytes → Stmt → Bool
entry_given all (End (Some l)) = is_one_of l all
entry_given all _ = true

-- the least rule that a tree breaks, where the earlier statements and all statements give these labels
abbrev pub rule_broken : (earlier all : List Bytes) → Stmt → Option Cause
rule_broken earlier all s =
    if is_taken earlier (label_given s) then Some cause.LabelTaken
    else (if not (throughout call_fits s) then Some cause.TooManyArguments
    else (if not (throughout keyword_known s) then Some cause.UnknownKeyword
    else (if not (targets_fit s) then Some cause.NotATarget
    else (if not (entry_given all s) then Some cause.EntryMissing else None))))

-- ---- the statements of a deck

abbrev pub tree_or_none : Option Stmt → Result Stmt Cause
tree_or_none None = Err cause.NoTree
tree_or_none (Some s) = Ok s

abbrev pub tree_unless : Option Cause → Option Stmt → Result Stmt Cause
tree_unless (Some c) found = Err c
tree_unless None found = tree_or_none found

-- the tree of a text; the least lexical fault comes before that no tree has its tokens
unfoldable pub read : Bytes → Result Stmt Cause
read text = tree_unless (least_lexical (pieces text)) (stmt (toks_of (pieces text)))

abbrev pub labels_of_read : Result Stmt Cause → List Bytes
labels_of_read (Ok s) = label_given s
labels_of_read (Err c) = []

-- the labels that are given by statements with a tree
abbrev pub labels_given : List Statement → List Bytes
labels_given [] = []
labels_given (s ∷ more) = labels_of_read (read s.text) ++ labels_given more

-- a statement's one cause
abbrev pub cause_of : (earlier all : List Bytes) → Result Stmt Cause → Option Cause
cause_of earlier all (Ok s) = rule_broken earlier all s
cause_of earlier all (Err c) = Some c

abbrev pub fault_of : ℕ → Option Cause → List StmtFault
fault_of n None = []
fault_of n (Some c) = record { number = n; cause = c } ∷ []

-- the faulty ones of these statements in order, where earlier ones and all statements of the deck give these labels
abbrev pub faults_after : (earlier all : List Bytes) → List Statement → List StmtFault
faults_after earlier all [] = []
faults_after earlier all (s ∷ more) =
    fault_of s.number (cause_of earlier all (read s.text)) ++ faults_after (earlier ++ labels_of_read (read s.text)) all more

unfoldable pub faults : List Statement → List StmtFault
faults statements = faults_after [] (labels_given statements) statements

abbrev pub tree_of_read : Result Stmt Cause → List Stmt
tree_of_read (Ok s) = s ∷ []
tree_of_read (Err c) = []

-- the trees of those that have one
unfoldable pub deck_trees : List Statement → List Stmt
deck_trees [] = []
deck_trees (s ∷ more) = tree_of_read (read s.text) ++ deck_trees more

-- ---- decks

-- what a deck comes to: its card fault alone; else all its faulty statements in order; else the trees of its statements
pub data Verdict : Type 0 where
  CardRefused : CardFault → Verdict
  Refused : List StmtFault → Verdict
  Accepted : List Stmt → Verdict

abbrev pub verdict_of_faults : List StmtFault → List Stmt → Verdict
verdict_of_faults [] ts = Accepted ts
verdict_of_faults (f ∷ fs) ts = Refused (f ∷ fs)

abbrev pub verdict_of_cards : Result (List Statement) CardFault → Verdict
verdict_of_cards (Ok statements) = verdict_of_faults (faults statements) (deck_trees statements)
verdict_of_cards (Err f) = CardRefused f

unfoldable pub verdict : List ℕ → Verdict
verdict text = verdict_of_cards (deck text)
