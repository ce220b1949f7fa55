-- Where an attempt stands, and what is gone back to.
use Rattle.std.specs.Prelude.{◌≡◌, ℕ, ◌-◌, List, [], ◌∷◌, ◌++◌, length, drop, Option, Some, None, Bool, true, false}
use Rattle.model.specs.Deck.Target as target
use Rattle.model.specs.Pattern.Patterns.{Pending}
use Rattle.model.specs.Pattern.Steps as s
use Rattle.backtrack.specs.declared.way_back.WayBack.{WayBack}
use Rattle.backtrack.specs.declared.way_back.WayBack.TheVariants as kept

-- what is gone back to, with its copy of the attempt
pub record Back : Type 0 where
  pub kept : WayBack
  pub thread : s.Thread

-- the newest first
pub record Standing : Type 0 where
  pub code : s.Code
  pub notes : List s.Note
  pub pending : Pending
  pub backs : List Back

-- the code alone
abbrev pub bare : s.Code → Standing
bare code = record { code = code; notes = []; pending = []; backs = [] }

-- with a note more
abbrev pub noted : s.Note → Standing → Standing
noted n x = record x { notes = n ∷ x.notes }

-- in other code, behind which its own goes on at the place q
abbrev pub entered : s.Code → ℕ → Standing → Standing
entered code q x = record x { code = code; notes = s.Left x.code q ∷ x.notes }

-- with a pending assignment more
abbrev pub assigning : target.Name × List ℕ → Standing → Standing
assigning a x = record x { pending = x.pending ++ a ∷ [] }

-- with a choice more, of an attempt at the place q and the cursor c
abbrev pub with_choice : Standing → WayBack → (q c : ℕ) → Standing
with_choice x k q c =
    record x { backs = record { kept = k; thread = record { code = x.code; place = q; cursor = c; notes = x.notes; pending = x.pending } } ∷ x.backs }

abbrev pub no_backs : List Back → Bool
no_backs [] = true
no_backs (b ∷ bs) = false

-- the k oldest
abbrev pub oldest : ℕ → List Back → List Back
oldest k bs = drop (length bs - k) bs

-- the newest choice goes back to ARB, at the place p of the code under way, from the end e on
abbrev pub IsAtArb : Standing → ℕ → ℕ → Type 0
IsAtArb st p e =
    (t : s.Thread) × (bs : List Back) × (st.backs ≡ record { kept = kept.Arb e; thread = t } ∷ bs) × (t.place ≡ p) × (t.code ≡ st.code)

-- the newest choice is of the code, if there is one
abbrev pub IsOfCode : s.Code → List Back → Type 0
IsOfCode code [] = Unit {0}
IsOfCode code (x ∷ xs) = x.thread.code ≡ code

abbrev pub IsHere : Standing → Type 0
IsHere st = IsOfCode st.code st.backs

-- the newest choice goes back to something else, or is taken off
abbrev pub from_kept : Option WayBack → List Back → List Back
from_kept k [] = []
from_kept None (x ∷ xs) = xs
from_kept (Some k) (x ∷ xs) = record { kept = k; thread = x.thread } ∷ xs

-- the newest note is that of OPEN
abbrev pub IsOpen : Standing → Type 0
IsOpen st = (b : ℕ) × (ns : List s.Note) × (st.notes ≡ s.Opened b ∷ ns)

-- the newest is that of an entered pattern
abbrev pub inside : List s.Note → Bool
inside (s.Left code q ∷ ns) = true
inside _ = false

-- the newest is that of OPEN
abbrev pub opened : List s.Note → Option ℕ
opened (s.Opened b ∷ ns) = Some b
opened _ = None

-- without it
abbrev pub unopened : List s.Note → List s.Note
unopened (s.Opened b ∷ ns) = ns
unopened ns = ns

-- the newest is that of FOPEN
abbrev pub fenced : List s.Note → Option ℕ
fenced (s.Fenced k ∷ ns) = Some k
fenced _ = None

-- without it
abbrev pub unfenced : List s.Note → List s.Note
unfenced (s.Fenced k ∷ ns) = ns
unfenced ns = ns

-- the newest note is that of FOPEN, and it and the choices since are taken off
abbrev pub IsUnfenced : Standing → Standing → Type 0
IsUnfenced old new =
    (k : ℕ) × (fenced old.notes ≡ Some k) × (new ≡ record old { notes = unfenced old.notes; backs = oldest k old.backs })

-- the attempt at a place and a cursor
abbrev pub standing_at : Standing → ℕ → ℕ → s.Thread
standing_at x q c = record { code = x.code; place = q; cursor = c; notes = x.notes; pending = x.pending }

-- it stands where the newest choice was kept, at a place of the code under way with a cursor
abbrev pub IsKeptAt : Standing → (q c : ℕ) → WayBack → Type 0
IsKeptAt x q c k = (bs : List Back) × (x.backs ≡ record { kept = k; thread = standing_at x q c } ∷ bs)

-- the newest choice goes on at a place of the code under way, from a cursor
abbrev pub IsRetried : Standing → Standing → ℕ → ℕ → Type 0
IsRetried old new p c =
    (q : ℕ) × (old.backs ≡ record { kept = kept.To p; thread = standing_at new q c } ∷ new.backs)
