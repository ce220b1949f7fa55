-- Marks of objects, those of the marked that wait to be looked into, and what is cleared by marks.
use Rattle.std.specs.Prelude.{◌≡◌, ℕ, zero, suc, Bool, true, false, List, [], ◌∷◌, length, nat_eq, replicate, slice_index_or, if◌then◌else◌}
use Rattle.model.specs.Machine.Living.{Grows, cleared}
use Rattle.model.specs.Language.Values.{Object}

-- numbers past the marks have one
abbrev pub marked_by : List Bool → ℕ → Bool
marked_by marks k = slice_index_or marks k true

pub record MarksView : Type 0 where
  pub marked : List Bool
  pub waiting : List ℕ

abbrev pub marks_in : MarksView → ℕ → Bool
marks_in m = marked_by m.marked

-- no mark on any of so many
abbrev pub unmarked : ℕ → MarksView
unmarked count = record { marked = replicate count false; waiting = [] }

-- a number is among these
abbrev pub waits : List ℕ → ℕ → Bool
waits [] k = false
waits (x ∷ xs) k = if nat_eq x k then true else waits xs k

-- there are more marks: what has a new one waits, and what waited does
pub record HasMarked (old new : MarksView) : Type 0 where
  pub long : length new.marked ≡ length old.marked
  pub grows : Grows (marked_by old.marked) (marked_by new.marked)
  pub listed : (k : ℕ) → marked_by old.marked k ≡ false → marked_by new.marked k ≡ true → waits new.waiting k ≡ true
  pub kept : (k : ℕ) → waits old.waiting k ≡ true → waits new.waiting k ≡ true

-- the marks of the numbers below this one; the others have one
abbrev pub marked_below : ℕ → (ℕ → Bool) → ℕ → Bool
marked_below zero marks k = true
marked_below (suc n) marks zero = marks zero
marked_below (suc n) marks (suc k) = marked_below n (λ j. marks (suc j)) k

-- what was cleared below a place is cleared below another one
abbrev pub IsClearedOn : {V : Type 0} → (ℕ → Bool) → (from to : ℕ) → (old new : List (Object V)) → Type 0
IsClearedOn {V} marks from to old new = (all : List (Object V)) → old ≡ cleared (marked_below from marks) all → new ≡ cleared (marked_below to marks) all
