-- A program, as its meaning and its code refer to it.
use Rattle.std.specs.Prelude.{ℕ, zero, suc, List, [], ◌∷◌, Option, None, Some, Bool, false, bytes_eq, slice_get, if◌then◌else◌, codes}
use Rattle.model.specs.Deck.Trees.{Bytes, Stmt, Plain, End}

-- the statements by number, from 1; labels to numbers; the number of the first statement to execute
pub record Program : Type 0 where
  pub at : ℕ → Option Stmt
  pub label : Bytes → Option ℕ
  pub entry : ℕ

abbrev pub statement_in : List Stmt → ℕ → Option Stmt
statement_in ss zero = None
statement_in ss (suc k) = slice_get ss k

abbrev pub end_label : Bytes
end_label = codes "END"

-- END labels itself
abbrev pub label_of_stmt : Stmt → Option Bytes
label_of_stmt (Plain l b g) = l
label_of_stmt (End e) = Some end_label

abbrev pub is_text : Bytes → Option Bytes → Bool
is_text l None = false
is_text l (Some s) = bytes_eq s l

-- the number of the first statement with this label, where the first of the list has number k
abbrev pub labelled_from : ℕ → List Stmt → Bytes → Option ℕ
labelled_from k [] l = None
labelled_from k (s ∷ ss) l = if is_text l (label_of_stmt s) then Some k else labelled_from (suc k) ss l

abbrev pub entry_label : List Stmt → Option Bytes
entry_label [] = None
entry_label (Plain l b g ∷ ss) = entry_label ss
entry_label (End e ∷ ss) = e

abbrev pub number_or : ℕ → Option ℕ → ℕ
number_or n None = n
number_or n (Some k) = k

abbrev pub entry_in : List Stmt → Option Bytes → ℕ
entry_in ss None = 1
entry_in ss (Some l) = number_or 1 (labelled_from 1 ss l)

-- the program of a deck's trees
abbrev pub program : List Stmt → Program
program ss = record { at = statement_in ss; label = labelled_from 1 ss; entry = entry_in ss (entry_label ss) }
