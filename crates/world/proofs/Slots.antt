-- Slots of the variables of functions, which are known to be theirs.
use Rattle.std.proofs.Common.{◌≡◌, ◌⊎◌, inl, inr, ℕ, zero, suc, ◌+◌, ◌<◌, List, [], ◌∷◌, ◌++◌, length, take, get_or, slice_get, Bool, true, false, cond, Option, Some, None, refl, sym, ap, subst, ◌∙◌, arith, bytes_eq}
use Rattle.std.specs.Prelude.{IfSome, option_map}
use Rattle.std.specs.List.{IsDistinct}
use Rattle.std.specs.Map.{keys_of}
use Rattle.std.specs.Option.{option_copied, option_or}
use Rattle.std.specs.Borrow.{Bor}
use Rattle.std.specs.Cmp.Lexicographic.{nat_list_eq_equiv}
use Rattle.std.proofs.lemmas.Map.Entries.{lookup_from_place}
use Rattle.std.proofs.lemmas.Option.{slice_get-map, slice_get-get_or}
use Rattle.model.specs.Deck.Trees.{Bytes}
use Rattle.prototypes.specs.Views.{FunctionView, names_of, prototype_of}
use Rattle.values.specs.Arguments.{no_slot, slot_in}
use Rattle.values.specs.Functions.{Functions, function_at}
use Rattle.values.specs.declared.functions.Function.{Function}
use Rattle.values.specs.declared.functions.Function.TheVariants as function
use Rattle.values.specs.declared.variable.Variable.{Variable}
use Rattle.world.specs.Held.{AreNamed, StandsIn, variable_at}
use Rattle.world.specs.Slots.{IsSlotOf, AreSlotsOf, HasSlots, FunctionStands, IfStands, FunctionsStand}
use Rattle.world.proofs.Tables.{PutsFunction}

-- ---- variables

named_at : (es : List (Bytes × Variable)) (k : ℕ) (x : Bytes) → slice_get (keys_of es) k ≡ Some x → (v : Variable) × (slice_get es k ≡ Some (x, v))
named_at es k x named = go (slice_get es k) refl (sym (slice_get-map (λ e. e.0) es k) ∙ named)
  where
    go : (o : Option (Bytes × Variable)) → slice_get es k ≡ o → option_map (λ e. e.0) o ≡ Some x → (v : Variable) × (slice_get es k ≡ Some (x, v))
    go None is e = absurd (cc)
    go (Some p) is e = let same : p.0 ≡ x = cc in (p.1, is ∙ ap (λ z. Some (z, p.1)) same)

-- the variable stands in a slot that is known
pub known_stands : (es : List (Bytes × Variable)) (ns : List Bytes) (x : Bytes) (slot : ℕ) → IsDistinct bytes_eq (keys_of es) → AreNamed ns es → (slot ≡ no_slot → ⊥) → IsSlotOf x slot ns → StandsIn x slot es
known_stands es ns x slot unique named known (inl none) = absurd (known none)
known_stands es ns x slot unique named known (inr at) =
    let there = named_at es slot x (named slot x at) in
    (there.0, there.1, lookup_from_place nat_list_eq_equiv es slot x there.0 unique there.1)

-- ---- the slots of some names

-- that of one, by its place
pub slot_there : (xs : List Bytes) (slots : List ℕ) (old new : List Bytes) (k slot : ℕ) (x : Bytes) → AreSlotsOf xs slots old → new ≡ old → k < length xs → x ≡ get_or xs k x → slot ≡ slot_in slots k → IsSlotOf x slot new
slot_there xs slots old new k slot x all same within at is =
    subst (λ ns. IsSlotOf x slot ns) (sym same) (subst (λ n. IsSlotOf x n old) (sym is) (all k x (slice_get-get_or xs k x within ∙ ap Some (sym at))))

taken_at : (xs : List Bytes) (n k : ℕ) (x : Bytes) → slice_get (take n xs) k ≡ Some x → slice_get xs k ≡ Some x
taken_at [] zero k x at = at
taken_at [] (suc n) k x at = at
taken_at (y ∷ xs) zero k x at = absurd (cc)
taken_at (y ∷ xs) (suc n) zero x at = at
taken_at (y ∷ xs) (suc n) (suc k) x at = taken_at xs n k x at

-- those of the first ones
pub first_slots : (xs : List Bytes) (slots : List ℕ) (ns : List Bytes) (n : ℕ) → AreSlotsOf xs slots ns → AreSlotsOf (take n xs) slots ns
first_slots xs slots ns n all k x at = all k x (taken_at xs n k x at)

-- none is known
pub no_slots : (xs ns : List Bytes) → AreSlotsOf xs [] ns
no_slots xs ns k x at = inl refl

more_in : (slots : List ℕ) (s k : ℕ) → ((k ≡ length slots) × (slot_in (slots ++ s ∷ []) k ≡ s)) ⊎ (slot_in (slots ++ s ∷ []) k ≡ slot_in slots k)
more_in [] s zero = inl (refl, refl)
more_in [] s (suc k) = inr refl
more_in (t ∷ slots) s zero = inr refl
more_in (t ∷ slots) s (suc k) = elim (more_in slots s k) [
  | inl p ↦ inl (ap suc p.0, p.1)
  | inr e ↦ inr e
]

-- a turn of the loop that finds them
pub slot_turn : (xs ns : List Bytes) (slots new : List ℕ) (n slot : ℕ) (x : Bytes) → length slots ≡ n → n < length xs → x ≡ get_or xs n x → new ≡ slots ++ slot ∷ [] → IsSlotOf x slot ns → AreSlotsOf xs slots ns → AreSlotsOf xs new ns
slot_turn xs ns slots new n slot x count within at more is all k y there = subst (λ l. IsSlotOf y (slot_in l k) ns) (sym more) (elim (more_in slots slot k) [
  | inl p ↦
      let place : k ≡ n = p.0 ∙ count in
      let both : Some x ≡ Some y = ap Some at ∙ sym (slice_get-get_or xs n x within) ∙ ap (slice_get xs) (sym place) ∙ there in
      let same : x ≡ y = cc in
      subst (λ m. IsSlotOf y m ns) (sym p.1) (subst (λ z. IsSlotOf z slot ns) same is)
  | inr e ↦ subst (λ m. IsSlotOf y m ns) (sym e) (all k y there)
])

-- ---- of functions

pub stands_held : (ns : List Bytes) (o : Option (Bor Function)) (p : Option Function) → option_copied o ≡ p → IfStands ns p → IfSome o (λ f. FunctionStands ns f.now)
stands_held ns None p is h = tt
stands_held ns (Some f) p is h = subst (IfStands ns) (sym is) h

pub stands_put : (ns : List Bytes) (old new : Functions) (x : Bytes) (f : Function) → PutsFunction old new x f → FunctionStands ns f → FunctionsStand ns old → FunctionsStand ns new
stands_put ns old new x f puts stands all y = subst (IfStands ns) (sym (puts y)) (go (bytes_eq x y))
  where
    go : (b : Bool) → IfStands ns (cond b (Some f) (function_at y old))
    go true = stands
    go false = all y

pub stands_appended : (ns : List Bytes) (made old new : Functions) → ((x : Bytes) → function_at x new ≡ option_or (function_at x made) (function_at x old)) → FunctionsStand ns made → FunctionsStand ns old → FunctionsStand ns new
stands_appended ns made old new puts stands all x = subst (IfStands ns) (sym (puts x)) (go (function_at x made) (stands x))
  where
    go : (o : Option Function) → IfStands ns o → IfStands ns (option_or o (function_at x old))
    go None h = all x
    go (Some f) h = h

slot_later : (x : Bytes) (slot : ℕ) (ns later : List Bytes) → ((k : ℕ) (y : Bytes) → slice_get ns k ≡ Some y → slice_get later k ≡ Some y) → IsSlotOf x slot ns → IsSlotOf x slot later
slot_later x slot ns later keeps (inl none) = inl none
slot_later x slot ns later keeps (inr at) = inr (keeps slot x at)

function_later : (ns later : List Bytes) → ((k : ℕ) (y : Bytes) → slice_get ns k ≡ Some y → slice_get later k ≡ Some y) → (o : Option Function) → IfStands ns o → IfStands later o
function_later ns later keeps None h = tt
function_later ns later keeps (Some (function.Defined entry f)) h = λ k x at. slot_later x (slot_in f.slots k) ns later keeps (h k x at)
function_later ns later keeps (Some (function.Constructor fields)) h = tt
function_later ns later keeps (Some function.Field) h = tt

-- once more names keep their slots
pub stands_later : (ns later : List Bytes) (fs : Functions) → ((k : ℕ) (y : Bytes) → slice_get ns k ≡ Some y → slice_get later k ≡ Some y) → FunctionsStand ns fs → FunctionsStand later fs
stands_later ns later fs keeps all x = function_later ns later keeps (function_at x fs) (all x)

-- those of a prototype, as it gives them
pub prototype_slots : (f : FunctionView) (xs : List Bytes) (slots : List ℕ) (ns : List Bytes) → xs ≡ names_of f → slots ≡ f.slots → HasSlots ns f → AreSlotsOf xs slots ns
prototype_slots f xs slots ns names is h = subst (λ ys. AreSlotsOf ys slots ns) (sym names) (subst (λ l. AreSlotsOf (names_of f) l ns) (sym is) h)

-- a prototype that had none, and may have been given them
pub given_slots : (f p : FunctionView) (slots : List ℕ) (xs ns : List Bytes) → xs ≡ names_of f → f.slots ≡ [] → AreSlotsOf xs slots ns → (p ≡ record f { slots = slots }) ⊎ (p ≡ f) → HasSlots ns p
given_slots f p slots xs ns names none h (inl is) = subst (HasSlots ns) (sym is) (subst (λ ys. AreSlotsOf ys slots ns) names h)
given_slots f p slots xs ns names none h (inr is) = subst (HasSlots ns) (sym is) (subst (λ l. AreSlotsOf (names_of f) l ns) (sym none) (no_slots (names_of f) ns))

pub same_prototype : (f p : FunctionView) (slots : List ℕ) → (p ≡ record f { slots = slots }) ⊎ (p ≡ f) → prototype_of p ≡ prototype_of f
same_prototype f p slots (inl is) = ap prototype_of is
same_prototype f p slots (inr is) = ap prototype_of is
