-- The table of labels.
use Rattle.std.specs.Prelude.{◌≡◌, ℕ, suc, List, [], ◌∷◌, ◌++◌, Option, None, Some, map, option_map, bytes_eq, is_some, if◌then◌else◌}
use Rattle.std.specs.Borrow.{Bor}
use Rattle.model.specs.Deck.Trees.{Bytes, Stmt, Plain, End}
use Rattle.model.specs.Language.Programs.{end_label, is_text, label_of_stmt, number_or}

abbrev pub entry_of : (Bor (List ℕ) × ℕ) → (List ℕ × ℕ)
entry_of e = (e.0.now, e.1)

-- the number that the first of these gives a label
abbrev pub number_in : List (List ℕ × ℕ) → Bytes → Option ℕ
number_in [] l = None
number_in (e ∷ es) l = if bytes_eq l e.0 then Some e.1 else number_in es l

-- with one more, unless it has a number
abbrev pub with_label : Bytes → ℕ → List (List ℕ × ℕ) → List (List ℕ × ℕ)
with_label l n es = if is_some (number_in es l) then es else es ++ (l, n) ∷ []

-- with one that may be given
abbrev pub with_name : Option Bytes → ℕ → List (List ℕ × ℕ) → List (List ℕ × ℕ)
with_name None n es = es
with_name (Some l) n es = with_label l n es

-- ---- the labels that statements give, one for each statement

-- as a slice of a text
abbrev pub name_of : Option (Bor (List ℕ)) → Option Bytes
name_of o = option_map (λ l. l.now) o

-- the number of the first that gives a label, where the first of all has number k
abbrev pub number_among : ℕ → List (Option Bytes) → Bytes → Option ℕ
number_among k [] l = None
number_among k (n ∷ ns) l = if is_text l n then Some k else number_among (suc k) ns l

-- unless it is END
abbrev pub but_end : Option Bytes → Option Bytes
but_end None = None
but_end (Some l) = if bytes_eq l end_label then None else Some l

-- the label that a statement gives, but for END
abbrev pub own_label : Stmt → Option Bytes
own_label (Plain l b g) = l
own_label (End entry) = None

-- statements give these labels, and none but END gives END
pub record AreNames (names : List (Option Bytes)) (ss : List Stmt) : Type 0 where
  pub all : names ≡ map label_of_stmt ss
  pub own : map but_end names ≡ map own_label ss

-- ---- the first statement to run

-- where the label of END is this
abbrev pub entry_by : (Bytes → Option ℕ) → Option Bytes → ℕ
entry_by number_of None = 1
entry_by number_of (Some l) = number_or 1 (number_of l)

-- as far as it is known, with one statement more
abbrev pub entry_with : (Bytes → Option ℕ) → Option ℕ → Stmt → Option ℕ
entry_with number_of (Some n) s = Some n
entry_with number_of None (Plain l b g) = None
entry_with number_of None (End e) = Some (entry_by number_of e)

-- of these statements
abbrev pub entry_noted : (Bytes → Option ℕ) → List Stmt → Option ℕ
entry_noted number_of [] = None
entry_noted number_of (Plain l b g ∷ ss) = entry_noted number_of ss
entry_noted number_of (End e ∷ ss) = Some (entry_by number_of e)
