-- Values of which the objects are marked.
use Rattle.std.proofs.Common.{◌≡◌, ℕ, ◌+◌, ◌<◌, ◌≤◌, List, [], ◌∷◌, map, take, get_or, length, subst}
use Rattle.std.specs.List.{All, AllByRecursion}
use Rattle.std.proofs.lemmas.List.{take_all}
use Rattle.std.proofs.lemmas.List.Elements.{All-more, recursion_from_All}
use Rattle.model.specs.Language.Values.{Pat}
use Rattle.model.specs.Pattern.Patterns as p
use Rattle.model.specs.Machine.Living.{InstrLives, ValueLives}
use Rattle.model.proofs.Machine.Collecting.{value_on}
use Rattle.heap.specs.Marked.{HasMarked, MarksView, marks_in}
use Rattle.values.specs.Values.{value_of}
use Rattle.values.specs.declared.value.Value.{Value}

-- ---- items of a slice

-- one more of the items of a slice
pub all_next : {A : Type 0} (P : A → Type 0) (xs : List A) (i : ℕ) (x : A) → i < length xs → x ≡ get_or xs i x → All P (take i xs) → P x → All P (take (i + 1) xs)
all_next P xs i x lt e h p = All-more P xs i x lt h (subst P e p)

pub all_taken : {A : Type 0} (P : A → Type 0) (xs : List A) (i : ℕ) → length xs ≤ i → All P (take i xs) → AllByRecursion P xs
all_taken P xs i le h = recursion_from_All P xs (subst (All P) (take_all i xs le) h)

pub all_map : {A B : Type 0} (P : B → Type 0) (f : A → B) (xs : List A) → AllByRecursion (λ a. P (f a)) xs → AllByRecursion P (map f xs)
all_map P f [] h = tt
all_map P f (x ∷ xs) h = (h.0, all_map P f xs h.1)

-- ---- values

abbrev pub LivesBy : MarksView → Value → Type 0
LivesBy m v = ValueLives (marks_in m) (value_of v)

pub lives_on : (old new : MarksView) → HasMarked old new → (v : Value) → LivesBy old v → LivesBy new v
lives_on old new h v k = value_on (marks_in old) (marks_in new) h.grows (value_of v) k

pub instr_on : (old new : MarksView) → HasMarked old new → (i : p.Instr) → InstrLives (marks_in old) i → InstrLives (marks_in new) i
instr_on old new h i k = (value_on (marks_in old) (marks_in new) h.grows (Pat (i ∷ [])) (k, tt)).0
