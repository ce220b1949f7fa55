-- Variables given back what they had, the last one first.
use Rattle.std.proofs.Common.{◌≡◌, ℕ, zero, suc, ◌+◌, ◌-◌, ◌<◌, ◌≤◌, List, [], ◌∷◌, ◌++◌, length, take, drop, get_or, drop-cons, min, Bool, true, false, true≢false, refl, sym, ap, ◌∙◌, arith, append_assoc, append-nil, bytes_eq}
use Rattle.std.specs.Prelude.{◌||◌}
use Rattle.std.specs.List.{list_any}
use Rattle.std.proofs.lemmas.List.{take_more, take_all, drop_all, length-drop, length-take-le, take-append-drop}
use Rattle.std.proofs.lemmas.Slice.Eq.{bytes_eq-Decides}
use Rattle.model.specs.Deck.Trees.{Bytes}
use Rattle.model.specs.Language.Io.{Io}
use Rattle.model.specs.Language.Values.{set_var}
use Rattle.model.specs.Language.Calls as calls
use Rattle.model.specs.Language.Prototypes.{are_distinct}
use Rattle.model.specs.Machine.Steps.{MW}
use Rattle.prototypes.specs.Views.{FunctionView, names_of}
use Rattle.values.specs.Values.{value_of}
use Rattle.world.specs.Calling.{older, saved_as, saved_below, saved_by}
use Rattle.world.specs.Held.{WorldView, world_of}
use Rattle.values.specs.declared.value.Value.{Value}
use Rattle.world.proofs.Exchanging.{first_differs, set_other}
use Rattle.world.proofs.Saving.{same_end, saved_short, values_in}

-- those of the names from one on were given what they had; `given` is what all of them had
abbrev pub IsGivenBack : (names : List Bytes) (before given : List Value) (k : ℕ) (now : List Value) (old new : WorldView) → Type 0
IsGivenBack names before given k now old new =
    (now ≡ before ++ take k given)
    × ((y : Bytes) → list_any (λ x. bytes_eq y x) (drop k names) ≡ false → values_in new y ≡ values_in old y)
    × ((io : Io) → world_of new io ≡ calls.restore (saved_as (drop k names) (drop k given)) (world_of old io))

pub none_given : (names : List Bytes) (base k : ℕ) (all : List Value) (h : WorldView) → length names ≤ k → length (drop base all) ≤ k → IsGivenBack names (take base all) (drop base all) k all h h
none_given names base k all h past over = (
  sym (take-append-drop base all) ∙ ap (λ ws. take base all ++ ws) (sym (take_all k (drop base all) over)),
  λ y differs. refl,
  λ io. sym (λ i. calls.restore (saved_as (drop_all k names past i) (drop k (drop base all))) (world_of h io)),
)

or_parts : (a b : Bool) → (a || b) ≡ false → (a ≡ false) × (b ≡ false)
or_parts true b h = absurd (true≢false h)
or_parts false b h = (refl, h)

turned_in : (x y : Bytes) (b : Bool) → bytes_eq x y ≡ b → bytes_eq y x ≡ false → b ≡ false
turned_in x y false h differs = refl
turned_in x y true h differs = absurd (true≢false (sym ((bytes_eq-Decides y x).1 (sym ((bytes_eq-Decides x y).0 h))) ∙ differs))

turned : (x y : Bytes) → bytes_eq y x ≡ false → bytes_eq x y ≡ false
turned x y differs = turned_in x y (bytes_eq x y) refl differs

pub give_turn : (names : List Bytes) (before given now rest : List Value) (k : ℕ) (x : Bytes) (v : Value) (old mid new : WorldView) → length given ≡ length names → k < length names → x ≡ get_or names k x → now ≡ rest ++ v ∷ []
    → ((io : Io) → world_of new io ≡ set_var x (value_of v) (world_of mid io)) → IsGivenBack names before given (suc k) now old mid → IsGivenBack names before given k rest old new
give_turn names before given now rest k x v old mid new count within at last put (parts, others, back) =
    let next : k + 1 ≡ suc k = omega arith in
    let there : Value = get_or given k v in
    let more : take (suc k) given ≡ take k given ++ there ∷ [] = ap (λ n. take n given) (sym next) ∙ take_more given k v (omega (arith, count, within)) in
    let ends = same_end rest (before ++ take k given) v there (sym last ∙ parts ∙ ap (λ ws. before ++ ws) more ∙ sym (append_assoc before (take k given) (there ∷ []))) in
    let names_split : drop k names ≡ x ∷ drop (suc k) names = drop-cons names k x within ∙ ap (λ z. z ∷ drop (suc k) names) (sym at) in
    let given_split : drop k given ≡ v ∷ drop (suc k) given = drop-cons given k v (omega (arith, count, within)) ∙ ap (λ z. z ∷ drop (suc k) given) (sym ends.1) in (
      ends.0,
      λ y differs.
          let both = or_parts (bytes_eq y x) (list_any (λ z. bytes_eq y z) (drop (suc k) names)) (ap (list_any (λ z. bytes_eq y z)) (sym names_split) ∙ differs) in
          set_other x y (value_of v) mid new put (turned x y both.0) ∙ others y both.1,
      λ io. put io ∙ ap (set_var x (value_of v)) (back io) ∙ sym (λ i. calls.restore (saved_as (names_split i) (given_split i)) (world_of old io)),
    )

-- the first of the names has what it had before
pub first_had : (names : List Bytes) (before given now : List Value) (x : Bytes) (old new : WorldView) → are_distinct names ≡ true → 0 < length names → x ≡ get_or names 0 x → IsGivenBack names before given 1 now old new → values_in new x ≡ values_in old (get_or names 0 [])
first_had [] before given now x old new distinct some at so = absurd (omega (arith, some))
first_had (y ∷ names) before given now x old new distinct some at (parts, others, back) =
    others x (ap (λ z. list_any (λ a. bytes_eq z a) names) at ∙ (first_differs y names distinct).0) ∙ ap (values_in old) at

pub all_given : (names : List Bytes) (saved rest : List Value) (base : ℕ) (old new : WorldView) → IsGivenBack names (take base saved) (drop base saved) 0 rest old new
    → (rest ≡ take base saved) × ((io : Io) → world_of new io ≡ calls.restore (saved_as names (drop base saved)) (world_of old io))
all_given names saved rest base old new (parts, others, back) = (parts ∙ append-nil (take base saved), back)

-- ---- of a call, whose values may be fewer than its names

module _ (names : List Bytes) (saved : List Value) (count : ℕ) (many : count ≡ min (length names) (length saved)) where
  short : length (take count names) ≡ count
  short = length-take-le count names (omega (arith, many))

  older_is : length saved - length (take count names) ≡ older names saved
  older_is = omega (arith, many, short)

  pub below : (rest : List Value) → rest ≡ take (length saved - length (take count names)) saved → rest ≡ saved_below names saved
  below rest is = is ∙ ap (λ n. take n saved) older_is

  pub restored : (w w1 : MW) → w1 ≡ calls.restore (saved_as (take count names) (drop (length saved - length (take count names)) saved)) w → w1 ≡ calls.restore (saved_as names (saved_by names saved)) w
  restored w w1 set =
      let vs = saved_by names saved in
      let size : length vs ≡ count = length-drop (older names saved) saved ∙ omega (arith, many) in
      set
      ∙ ap (λ n. calls.restore (saved_as (take count names) (drop n saved)) w) older_is
      ∙ ap (λ n. calls.restore (saved_as (take n names) vs) w) (sym size)
      ∙ ap (λ ss. calls.restore ss w) (saved_short names vs)

pub first_is : (f : FunctionView) (count : ℕ) → 0 < count → get_or (take count (names_of f)) 0 [] ≡ f.name
first_is f zero some = absurd (omega (arith, some))
first_is f (suc n) some = refl
