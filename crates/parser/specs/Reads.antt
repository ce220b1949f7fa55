-- Statements as they are read, one after the other.
use Rattle.std.specs.Prelude.{◌≡◌, ◌≢◌, ◌++◌, Bool, not, true, List, [], ◌∷◌, Option, Some, None, Result, Ok, Err, if◌then◌else◌}
use Rattle.model.specs.declared.cards.Statement.{Statement}
use Rattle.model.specs.declared.causes.Cause.{Cause}
use Rattle.model.specs.declared.causes.Cause.TheVariants as cause
use Rattle.model.specs.declared.causes.StmtFault.{StmtFault}
use Rattle.model.specs.declared.trees.Stmt as declared
use Rattle.model.specs.Deck.Faults.{call_fits, cause_of, entry_given, fault_of, faults_after, is_one_of, is_taken, keyword_known, label_given, labels_given, read, targets_fit, throughout}
use Rattle.model.specs.Deck.Trees.{Bytes, Stmt, Plain, End}
use Rattle.model.specs.Deck.TreeViews.{stmt_of}
use Rattle.std.specs.declared.alloc.Global.{Global}
use Rattle.std.specs.declared.boxed.Box.{Box}
use Rattle.tree_drops.specs.declared.StmtTree.{StmtTree}
use Rattle.parser.specs.Labels.{AreSame}
use Rattle.parser.specs.declared.reading.Noted.{Noted}
use Rattle.parser.specs.declared.reading.Noted.TheVariants as noted
use Rattle.parser.specs.declared.reading.Reader.{Reader}

abbrev pub result_of : Result (Box declared.Stmt Global) Cause → Result Stmt Cause
result_of (Ok s) = Ok (stmt_of s.value)
result_of (Err c) = Err c

-- the tree or the cause that is found, unless memory runs out
abbrev pub IsRead : Result Stmt Cause → Result (Box declared.Stmt Global) Cause → Type 0
IsRead found (Ok s) = found ≡ Ok (stmt_of s.value)
IsRead found (Err c) = c ≢ cause.Memory → found ≡ Err c

-- ---- the rules that a statement may break, by whether they ask for the labels of later statements

-- the least of those that don't, of a statement whose label is taken or isn't
abbrev pub rule_if : (is_taken : Bool) → Stmt → Option Cause
rule_if is_taken s =
    if is_taken then Some cause.LabelTaken
    else (if not (throughout call_fits s) then Some cause.TooManyArguments
    else (if not (throughout keyword_known s) then Some cause.UnknownKeyword
    else (if not (targets_fit s) then Some cause.NotATarget else None)))

-- the same where the earlier statements give these labels
abbrev pub early_rule : (earlier : List Bytes) → Stmt → Option Cause
early_rule earlier s = rule_if (is_taken earlier (label_given s)) s

-- the one that does
abbrev pub entry_rule : (all : List Bytes) → Stmt → Option Cause
entry_rule all s = if not (entry_given all s) then Some cause.EntryMissing else None

-- where a statement asks for this label
abbrev pub missing : (all : List Bytes) → Bytes → Option Cause
missing all l = if not (is_one_of l all) then Some cause.EntryMissing else None

-- the label that a statement asks for
abbrev pub entry_asked : Stmt → Option Bytes
entry_asked (Plain l b g) = None
entry_asked (End e) = e

-- ---- what is noted

abbrev pub noted_fault : (all : List Bytes) → Noted → List StmtFault
noted_fault all (noted.Faulty f) = f ∷ []
noted_fault all (noted.Entry n l) = fault_of n (missing all l.items)

-- the faults of all that is noted, where all statements give these labels
abbrev pub noted_faults : (all : List Bytes) → List Noted → List StmtFault
noted_faults all [] = []
noted_faults all (n ∷ ns) = noted_fault all n ++ noted_faults all ns

-- these statements are read
pub record HasRead (ss : List Statement) (r : Reader) : Type 0 where
  pub labels : AreSame r.labels (labels_given ss)
  -- whatever labels all statements give
  pub noted : (all : List Bytes) → noted_faults all r.noted.items ≡ faults_after [] all ss

-- what is given of a statement: its tree, if it calls no primitive with too many arguments; or nothing, and then it is faulty
-- behind the others, whatever labels all statements give
abbrev pub IsGiven : Statement → Reader → Option StmtTree → Type 0
IsGiven s r (Some t) = (read s.text ≡ Ok (stmt_of t.statement.value)) × (throughout call_fits (stmt_of t.statement.value) ≡ true)
IsGiven s r None = (ss : List Statement) → HasRead ss r → (all : List Bytes) → fault_of s.number (cause_of (labels_given ss) all (read s.text)) ≢ []
