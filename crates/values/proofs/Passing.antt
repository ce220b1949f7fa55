-- The arguments of calls.
use Rattle.std.proofs.Common.{◌≡◌, ℕ, zero, suc, ◌+◌, ◌<◌, ◌≤◌, List, [], ◌∷◌, length, map, drop, get_or, drop-cons, true, false, nat_lt, slice_index_or, refl, sym, ap, ◌∙◌, arith}
use Rattle.std.proofs.lemmas.List.{drop_all}
use Rattle.model.specs.Deck.Trees.{Bytes}
use Rattle.model.specs.Language.Values.{Str, set_var}
use Rattle.model.specs.Language.Calls.{arg_at, bind_arguments}
use Rattle.model.specs.Machine.Steps.{MVal, MW}
use Rattle.values.specs.Values.{value_of}
use Rattle.values.specs.declared.value.Value.{Value}

pub arg_there : (vs : List Value) (k : ℕ) (d : Value) → true ≡ nat_lt k (length vs) → value_of (slice_index_or vs k d) ≡ arg_at (map value_of vs) k
arg_there [] k d h = absurd (grind (arith, h))
arg_there (v ∷ vs) zero d h = refl
arg_there (v ∷ vs) (suc k) d h = arg_there vs k d (grind (arith, h))

pub arg_absent : (vs : List Value) (k : ℕ) → false ≡ nat_lt k (length vs) → Str [] ≡ arg_at (map value_of vs) k
arg_absent [] k h = refl
arg_absent (v ∷ vs) zero h = absurd (grind (arith, h))
arg_absent (v ∷ vs) (suc k) h = arg_absent vs k (grind (arith, h))

-- what the first of some names gets
bind_first : (x : Bytes) (xs : List Bytes) (k : ℕ) (vs : List MVal) (w : MW) → bind_arguments (x ∷ xs) (drop k vs) w ≡ bind_arguments xs (drop (suc k) vs) (set_var x (arg_at vs k) w)
bind_first x xs zero [] w = refl
bind_first x xs (suc k) [] w = refl
bind_first x xs zero (v ∷ vs) w = refl
bind_first x xs (suc k) (v ∷ vs) w = bind_first x xs k vs w

-- a turn of a loop in which each name gets its argument
pub bind_turn : (names : List Bytes) (vs : List MVal) (k : ℕ) (x : Bytes) (v : MVal) (w new : MW) → k < length names → x ≡ get_or names k x → v ≡ arg_at vs k → new ≡ set_var x v w
    → bind_arguments (drop (k + 1) names) (drop (k + 1) vs) new ≡ bind_arguments (drop k names) (drop k vs) w
bind_turn names vs k x v w new within at is set =
    let next : k + 1 ≡ suc k = omega arith in
    ap (λ n. bind_arguments (drop n names) (drop n vs) new) next
    ∙ ap (bind_arguments (drop (suc k) names) (drop (suc k) vs)) (set ∙ ap (λ z. set_var x z w) is)
    ∙ sym (bind_first x (drop (suc k) names) k vs w)
    ∙ ap (λ z. bind_arguments (z ∷ drop (suc k) names) (drop k vs) w) at
    ∙ ap (λ xs. bind_arguments xs (drop k vs) w) (sym (drop-cons names k x within))

pub bind_end : (names : List Bytes) (vs : List MVal) (k : ℕ) (w : MW) → length names ≤ k → bind_arguments (drop k names) (drop k vs) w ≡ w
bind_end names vs k w past = ap (λ xs. bind_arguments xs (drop k vs) w) (drop_all k names past)
