-- Marks that reach all that objects hold.
use Rattle.std.proofs.Common.{◌≡◌, ℕ, zero, suc, ◌<◌, ◌≤◌, List, [], ◌∷◌, ◌++◌, map, length, Some, Bool, true, false, refl, sym, ap, ◌∙◌, subst, arith, true≢false}
use Rattle.std.specs.Prelude.{slice_get, if◌then◌else◌, nat_eq}
use Rattle.std.specs.List.{AllByRecursion}
use Rattle.std.proofs.lemmas.List.{length-map, length-replicate}
use Rattle.std.proofs.lemmas.Grind.{common_steps}
use Rattle.model.specs.Language.Io.{Io}
use Rattle.model.specs.Language.Values.{Object, ArrayOf, TableOf, RecordOf, Entry, set_objects}
use Rattle.model.specs.Machine.Living.{EntryLives, Grows, ObjectLives, ValueLives, WorldLives, cleared, no_object}
use Rattle.model.specs.Machine.Steps.{MVal}
use Rattle.model.proofs.Machine.Collecting.{cleared_alike, fit_by_number, value_on}
use Rattle.aggregates.specs.Made.{StandBelow, values_of}
use Rattle.heap.specs.Made.{values_in}
use Rattle.heap.specs.Marked.{marked_by, HasMarked, MarksView, marks_in, unmarked, waits}
use Rattle.heap.proofs.Marking.{none_at, waits_but}
use Rattle.heap.proofs.Clearing.{mark_past}
use Rattle.world.specs.Held.{WorldView, world_of}
use Rattle.world.specs.Marking.{VariablesLive}
use Rattle.operations.specs.Marking.{AreMarksOf, LivesAt, ObjectsLive, without_unmarked}
use Rattle.world.specs.Objects.{entry_map, object_map}
use Rattle.values.specs.Values.{value_of}
use Rattle.values.specs.declared.value.Value.{Value}
use Rattle.world.proofs.Reaching.{AllBelow, all_more, below_all}
use Rattle.values.proofs.Living.{LivesBy, all_map}

-- ---- an object by the values that it holds

entries_live : (n : ℕ → Bool) (es : List (Entry Value)) → AllByRecursion (λ v. ValueLives n (value_of v)) (map (λ e. e.value) es) → AllByRecursion (EntryLives n) (map (entry_map value_of) es)
entries_live n [] h = tt
entries_live n (e ∷ es) h = (h.0, entries_live n es h.1)

object_lives : (n : ℕ → Bool) (o : Object Value) → AllByRecursion (λ v. ValueLives n (value_of v)) (values_of o) → ObjectLives n (object_map value_of o)
object_lives n (ArrayOf bs vs) h = all_map (ValueLives n) value_of vs h
object_lives n (TableOf es) h = entries_live n es h
object_lives n (RecordOf t fs vs) h = all_map (ValueLives n) value_of vs h

-- it lives by more marks too
object_on : (a b : ℕ → Bool) → Grows a b → (o : Object MVal) → ObjectLives a o → ObjectLives b o
object_on a b g (ArrayOf bs vs) h = all_more (ValueLives a) (ValueLives b) (value_on a b g) vs h
object_on a b g (TableOf es) h = all_more (EntryLives a) (EntryLives b) (λ e. value_on a b g e.value) es h
object_on a b g (RecordOf t fs vs) h = all_more (ValueLives a) (ValueLives b) (value_on a b g) vs h

-- what holds below a place below which each item stands
below_found : {A : Type 0} (P : A → Type 0) (n : ℕ) (xs : List A) → StandBelow n xs → AllBelow P n xs → AllBelow P (length xs) xs
below_found P n xs stand h k x lt e = let at = stand k lt in h at.0 x at.1 (at.2 ∙ e)

pub lives_at : (os : List (Object Value)) (number n i : ℕ) (m : MarksView) → StandBelow n (values_in (slice_get os number)) → n ≤ i → AllBelow (LivesBy m) i (values_in (slice_get os number)) → (o : Object Value) → slice_get os number ≡ Some o
    → ObjectLives (marks_in m) (object_map value_of o)
lives_at os number n i m stand le all o e =
    let same : values_in (slice_get os number) ≡ values_of o = ap values_in e in
    let each : AllBelow (LivesBy m) n (values_in (slice_get os number)) = λ k x lt q. all k x (omega arith) q in
    let found = below_found (LivesBy m) n (values_in (slice_get os number)) stand each in
    object_lives (marks_in m) o (below_all (LivesBy m) (length (values_of o)) (values_of o) (omega arith) (subst (λ vs. AllBelow (LivesBy m) (length vs) vs) same found))

-- ---- objects, one after the other

-- what holds while objects that wait are looked into
pub record Reaches (h : WorldView) (first now : MarksView) : Type 0 where
  pub long : length now.marked ≡ length h.objects
  pub grows : Grows (marks_in first) (marks_in now)
  pub looked : (k : ℕ) → k < length h.objects → marks_in now k ≡ true → waits now.waiting k ≡ false → LivesAt h k now

pub begins : (h : WorldView) (m : MarksView) → AreMarksOf h m → Reaches h m m
begins h m marks = record {
  long = marks.long ∙ length-unmarked;
  grows = λ k e. e;
  looked = λ k lt e w. absurd (true≢false (sym (marks.listed k (none_at (length h.objects) k lt) e) ∙ w));
}
  where
    length-unmarked : length (unmarked (length h.objects)).marked ≡ length h.objects
    length-unmarked = length-replicate (length h.objects) false

-- an object was taken off, and what it holds was marked
still_false : (b : Bool) → (b ≡ true → b ≡ false) → b ≡ false
still_false true f = f refl
still_false false f = refl

pub looks_on : (h : WorldView) (first now taken new : MarksView) (number : ℕ) → Reaches h first now → now ≡ record taken { waiting = taken.waiting ++ number ∷ [] } → HasMarked taken new → LivesAt h number new → Reaches h first new
looks_on h first now taken new number r e more lives = record {
  long = more.long ∙ sym (ap (λ (x : MarksView). length x.marked) e) ∙ r.long;
  grows = λ k m. more.grows k (subst (λ bs. marked_by bs k ≡ true) same (r.grows k m));
  looked = λ k lt m w. by k (nat_eq number k) refl lt m w;
}
  where
    same : now.marked ≡ taken.marked
    same = ap (λ (x : MarksView). x.marked) e

    lives_more : (k : ℕ) → LivesAt h k now → LivesAt h k new
    lives_more k l o at = object_on (marks_in now) (marks_in new) (λ j m. more.grows j (subst (λ bs. marked_by bs j ≡ true) same m)) _ (l o at)

    old : (k : ℕ) (b : Bool) → marks_in taken k ≡ b → nat_eq number k ≡ false → k < length h.objects → marks_in new k ≡ true → waits new.waiting k ≡ false → LivesAt h k new
    old k false t ne lt m w = absurd (true≢false (sym (more.listed k t m) ∙ w))
    old k true t ne lt m w =
        lives_more k (r.looked k lt (subst (λ bs. marked_by bs k ≡ true) (sym same) t)
        (still_false (waits now.waiting k) (λ q. absurd (true≢false (sym (more.kept k (waits_but taken.waiting number k (subst (λ (x : MarksView). waits x.waiting k ≡ true) e q) ne)) ∙ w)))))

    by : (k : ℕ) (b : Bool) → nat_eq number k ≡ b → k < length h.objects → marks_in new k ≡ true → waits new.waiting k ≡ false → LivesAt h k new
    by k true q lt m w = let is : number ≡ k = grind (arith, common_steps) in subst (λ j. LivesAt h j new) is lives
    by k false q lt m w = old k (marks_in taken k) refl q lt m w

mapped_there : (os : List (Object Value)) (k : ℕ) (o : Object MVal) → slice_get (map (object_map value_of) os) k ≡ Some o → k < length os
mapped_there [] k o e = absurd (cc)
mapped_there (x ∷ os) zero o e = omega arith
mapped_there (x ∷ os) (suc k) o e = let lt : k < length os = mapped_there os k o e in omega arith

some_mapped : (x : Object Value) (o : Object MVal) → Some (object_map value_of x) ≡ Some o → object_map value_of x ≡ o
some_mapped x o q = cc

mapped_lives : (n : ℕ → Bool) (os : List (Object Value)) (k : ℕ) (o : Object MVal) → slice_get (map (object_map value_of) os) k ≡ Some o → ((x : Object Value) → slice_get os k ≡ Some x → ObjectLives n (object_map value_of x)) → ObjectLives n o
mapped_lives n [] k o e f = absurd (cc)
mapped_lives n (x ∷ os) zero o e f = subst (ObjectLives n) (some_mapped x o e) (f x refl)
mapped_lives n (x ∷ os) (suc k) o e f = mapped_lives n os k o e f

-- none waits any more
pub all_looked : (h : WorldView) (first now : MarksView) → Reaches h first now → now.waiting ≡ [] → ObjectsLive h now
all_looked h first now r none = fit_by_number (marks_in now) (map (object_map value_of) h.objects) each past
  where
    each : (k : ℕ) (o : Object MVal) → slice_get (map (object_map value_of) h.objects) k ≡ Some o → marks_in now k ≡ true → ObjectLives (marks_in now) o
    each k o e m = mapped_lives (marks_in now) h.objects k o e (r.looked k (mapped_there h.objects k o e) m (ap (λ ws. waits ws k) none))

    long : length (map (object_map value_of) h.objects) ≡ length h.objects
    long = length-map h.objects (object_map value_of)

    past : (k : ℕ) → length (map (object_map value_of) h.objects) ≤ k → marks_in now k ≡ true
    past k le = mark_past now.marked k (subst (λ n. n ≤ k) (long ∙ sym r.long) le)

-- ---- what is given back

map_cleared : {A B : Type 0} (f : A → B) (marks : ℕ → Bool) (os : List (Object A)) → map (object_map f) (cleared marks os) ≡ cleared marks (map (object_map f) os)
map_cleared f marks [] = refl
map_cleared {B = B} f marks (o ∷ os) = by (marks 0) ∙ ap (λ xs. (if marks 0 then object_map f o else no_object) ∷ xs) (map_cleared f (λ k. marks (suc k)) os)
  where
    rest : List (Object B)
    rest = map (object_map f) (cleared (λ k. marks (suc k)) os)

    by : (b : Bool) → object_map f (if b then o else no_object) ∷ rest ≡ (if b then object_map f o else no_object) ∷ rest
    by true = refl
    by false = refl

-- the world that is left is the world with the objects that have marks
pub left_world : (h : WorldView) (m : MarksView) (io : Io) → world_of (without_unmarked h m) io ≡ set_objects (cleared (marks_in m) (world_of h io).objects) (world_of h io)
left_world h m io = ap (λ os. set_objects os (world_of h io)) (map_cleared value_of (marks_in m) h.objects)

pub left_lives : (h : WorldView) (m : MarksView) (io : Io) → VariablesLive h m → ObjectsLive h m → WorldLives (marks_in m) (world_of h io) (cleared (marks_in m) (world_of h io).objects)
left_lives h m io v o = cleared_alike (marks_in m) (world_of h io) v o
