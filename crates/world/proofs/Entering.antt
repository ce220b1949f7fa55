-- The values of variables put away, and others given to them, one after the other.
use Rattle.std.proofs.Common.{◌≡◌, ℕ, zero, suc, ◌+◌, ◌<◌, ◌≤◌, List, [], ◌∷◌, ◌++◌, length, map, take, drop, get_or, refl, sym, ap, ◌∙◌, arith, append_assoc, append-nil, bytes_eq, true, false}
use Rattle.std.specs.List.{list_any}
use Rattle.std.proofs.lemmas.List.{take_more, take_all, map-append}
use Rattle.model.specs.Deck.Trees.{Bytes}
use Rattle.model.specs.Language.Io.{Io}
use Rattle.model.specs.Language.Values.{Str, set_var}
use Rattle.model.specs.Language.Calls.{arg_at, bind_arguments, enter_call}
use Rattle.model.specs.Language.Prototypes.{are_distinct}
use Rattle.model.specs.Machine.Steps.{MVal, MW}
use Rattle.prototypes.specs.Views.{FunctionView, names_of}
use Rattle.values.specs.Values.{value_of}
use Rattle.world.specs.Calling.{AreSaved}
use Rattle.world.specs.Counts.{deeper}
use Rattle.world.specs.Held.{WorldView, world_of}
use Rattle.values.specs.declared.value.Value.{Value}
use Rattle.world.proofs.Exchanging.{differ_before, none_split, set_other}
use Rattle.world.proofs.Giving.{bind_all, take_one, take_two}
use Rattle.values.proofs.Passing.{bind_end, bind_turn}
use Rattle.world.proofs.Saving.{values_in}

-- the values of so many of the names were put at the end, and these were given to them
abbrev pub AreGiven : (names : List Bytes) (gs : List MVal) (before : List Value) (k : ℕ) (now : List Value) (old new : WorldView) → Type 0
AreGiven names gs before k now old new =
    (us : List Value) × (now ≡ before ++ us) × (map value_of us ≡ map (values_in old) (take k names))
    × ((y : Bytes) → list_any (λ x. bytes_eq x y) (take k names) ≡ false → values_in new y ≡ values_in old y)
    × ((io : Io) → bind_arguments (drop k names) (drop k gs) (world_of new io) ≡ bind_arguments names gs (world_of old io))

pub none_saved : (names : List Bytes) (gs : List MVal) (before : List Value) (h : WorldView) → AreGiven names gs before 0 before h h
none_saved names gs before h = ([], sym (append-nil before), refl, λ y differs. refl, λ io. refl)

pub save_turn : (names : List Bytes) (gs : List MVal) (before now next : List Value) (k : ℕ) (x : Bytes) (v : MVal) (old mid new : WorldView) → are_distinct names ≡ true → k < length names → x ≡ get_or names k x → v ≡ arg_at gs k
    → ((io : Io) → world_of new io ≡ set_var x v (world_of mid io)) → AreSaved (x ∷ []) now next mid → AreGiven names gs before k now old mid → AreGiven names gs before (k + 1) next old new
save_turn names gs before now next k x v old mid new distinct within at is put (vs, all, had) (us, parts, same, others, bound) =
    let more : take (k + 1) names ≡ take k names ++ x ∷ [] = take_more names k x within ∙ ap (λ z. take k names ++ z ∷ []) (sym at) in (
      us ++ vs,
      all ∙ ap (λ ws. ws ++ vs) parts ∙ append_assoc before us vs,
      map-append value_of us vs
          ∙ (λ i. same i ++ had i)
          ∙ ap (λ z. map (values_in old) (take k names) ++ z ∷ []) (others x (differ_before names k x distinct within at))
          ∙ sym (map-append (values_in old) (take k names) (x ∷ []))
          ∙ ap (map (values_in old)) (sym more),
      λ y differs.
          let both = none_split (λ z. bytes_eq z y) (take k names) x (ap (list_any (λ z. bytes_eq z y)) (sym more) ∙ differs) in
          set_other x y v mid new put both.1 ∙ others y both.0,
      λ io. bind_turn names gs k x v (world_of mid io) (world_of new io) within at is (put io) ∙ bound io,
    )

pub all_saved : (names : List Bytes) (gs : List MVal) (before now : List Value) (k : ℕ) (old new : WorldView) → length names ≤ k → AreGiven names gs before k now old new
    → AreSaved names before now old × ((io : Io) → world_of new io ≡ bind_arguments names gs (world_of old io))
all_saved names gs before now k old new past (us, parts, same, others, bound) = (
  (us, parts, same ∙ ap (map (values_in old)) (take_all k names past)),
  λ io. sym (bind_end names gs k (world_of new io) past) ∙ bound io,
)

pub past_one : (u v : MVal) (k : ℕ) → 2 ≤ k → Str [] ≡ arg_at (u ∷ v ∷ []) k
past_one u v zero h = absurd (omega (arith, h))
past_one u v (suc zero) h = absurd (omega (arith, h))
past_one u v (suc (suc k)) h = refl

pub past_two : (u v z : MVal) (k : ℕ) → 3 ≤ k → Str [] ≡ arg_at (u ∷ v ∷ z ∷ []) k
past_two u v z zero h = absurd (omega (arith, h))
past_two u v z (suc zero) h = absurd (omega (arith, h))
past_two u v z (suc (suc zero)) h = absurd (omega (arith, h))
past_two u v z (suc (suc (suc k))) h = refl

bound_as : (f : FunctionView) (names : List Bytes) (gs taken : List MVal) (w w1 w2 : MW) → names ≡ names_of f → taken ≡ take (length f.arguments) gs → w1 ≡ bind_arguments names (Str [] ∷ taken) w → w2 ≡ deeper w1 → w2 ≡ enter_call f.name f.arguments f.locals gs w
bound_as f names gs taken w w1 w2 is all set last =
    last
    ∙ ap deeper (set
    ∙ (λ i. bind_arguments (is i) (Str [] ∷ all i) w)
    ∙ ap (λ vs. bind_arguments (names_of f) (Str [] ∷ vs) w) (sym (append-nil (take (length f.arguments) gs)))
    ∙ bind_all f.arguments f.locals gs 0 (set_var f.name (Str []) w))

pub entered_with : (f : FunctionView) (names : List Bytes) (v : MVal) (w w1 w2 : MW) → 0 < length f.arguments → names ≡ names_of f → w1 ≡ bind_arguments names (Str [] ∷ v ∷ []) w → w2 ≡ deeper w1 → w2 ≡ enter_call f.name f.arguments f.locals (v ∷ []) w
entered_with f names v w w1 w2 some is set last = bound_as f names (v ∷ []) (v ∷ []) w w1 w2 is (take_one (length f.arguments) v some) set last

pub entered_with_two : (f : FunctionView) (names : List Bytes) (u v : MVal) (w w1 w2 : MW) → 1 < length f.arguments → names ≡ names_of f → w1 ≡ bind_arguments names (Str [] ∷ u ∷ v ∷ []) w → w2 ≡ deeper w1 → w2 ≡ enter_call f.name f.arguments f.locals (u ∷ v ∷ []) w
entered_with_two f names u v w w1 w2 some is set last = bound_as f names (u ∷ v ∷ []) (u ∷ v ∷ []) w w1 w2 is (take_two (length f.arguments) u v some) set last
