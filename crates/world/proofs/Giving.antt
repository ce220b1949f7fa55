-- What a call gives to the variables of its function.
use Rattle.std.proofs.Common.{◌≡◌, ℕ, zero, suc, ◌+◌, ◌<◌, List, [], ◌∷◌, ◌++◌, length, map, take, drop, refl, sym, ap, ◌∙◌, arith}
use Rattle.std.proofs.lemmas.List.{length-append}
use Rattle.std.proofs.Math.Seq.{drop-append_seam, take-append_seam}
use Rattle.model.specs.Deck.Trees.{Bytes}
use Rattle.model.specs.Language.Values.{Str, set_var}
use Rattle.model.specs.Language.Calls.{bind_arguments, enter_call}
use Rattle.model.specs.Machine.Steps.{MVal, MW}
use Rattle.prototypes.specs.Views.{FunctionView, names_of}
use Rattle.values.specs.Values.{value_of}
use Rattle.values.specs.Arguments.{ArePut, nulls}
use Rattle.world.specs.Calling.{AreSaved}
use Rattle.world.specs.Counts.{deeper}
use Rattle.world.specs.Held.{WorldView}
use Rattle.values.specs.declared.value.Value.{Value}

-- ---- all that a call gives

abbrev no : (T : Type 0) → List T
no T = []

take_nothing : (T : Type 0) (n : ℕ) → take n (no T) ≡ []
take_nothing T zero = refl
take_nothing T (suc n) = refl

-- of one argument, all are taken by a function that takes any
pub take_one : {T : Type 0} (n : ℕ) (x : T) → 0 < n → x ∷ [] ≡ take n (x ∷ [])
take_one zero x some = absurd omega (arith, some)
take_one {T = T} (suc n) x some = ap (λ xs. x ∷ xs) (sym (take_nothing T n))

-- the same of two
pub take_two : {T : Type 0} (n : ℕ) (x y : T) → 1 < n → x ∷ y ∷ [] ≡ take n (x ∷ y ∷ [])
take_two zero x y some = absurd omega (arith, some)
take_two (suc n) x y some = ap (λ xs. x ∷ xs) (take_one n y (omega (arith, some)))

bind_nulls : (xs : List Bytes) (k : ℕ) (w : MW) → bind_arguments xs (nulls k) w ≡ bind_arguments xs [] w
bind_nulls [] k w = refl
bind_nulls (x ∷ xs) zero w = refl
bind_nulls (x ∷ xs) (suc k) w = bind_nulls xs k (set_var x (Str []) w)

bind_none : (xs ys : List Bytes) (w : MW) → bind_arguments (xs ++ ys) [] w ≡ bind_arguments ys [] (bind_arguments xs [] w)
bind_none [] ys w = refl
bind_none (x ∷ xs) ys w = bind_none xs ys (set_var x (Str []) w)

pub bind_all : (xs ys : List Bytes) (vs : List MVal) (k : ℕ) (w : MW) → bind_arguments (xs ++ ys) (take (length xs) vs ++ nulls k) w ≡ bind_arguments ys [] (bind_arguments xs vs w)
bind_all [] ys [] k w = bind_nulls ys k w
bind_all [] ys (v ∷ vs) k w = bind_nulls ys k w
bind_all (x ∷ xs) ys [] k w = bind_nulls (x ∷ (xs ++ ys)) k w ∙ bind_none (x ∷ xs) ys w
bind_all (x ∷ xs) ys (v ∷ vs) k w = bind_all xs ys vs k (set_var x v w)

-- ---- entering

module _ (f : FunctionView) (given before mid : List Value) (base : ℕ) (at : base ≡ length before) (put : ArePut f given before mid) where
  pub put_count : (names : List Bytes) → names ≡ names_of f → base + length names ≡ length mid
  put_count names is = omega (arith, at, ap length is, ap length put.1, length-append before put.0, put.2)

  pub put_before : take base mid ≡ before
  put_before = (λ i. take (at i) (put.1 i)) ∙ take-append_seam before put.0

  pub saved_before : (names : List Bytes) (after : List Value) (h : WorldView) → AreSaved names (take base mid) after h → AreSaved names before after h
  saved_before names after h (vs, all, same) = (vs, all ∙ ap (λ ws. ws ++ vs) put_before, same)

  pub entered : (names : List Bytes) (w w1 w2 : MW) → names ≡ names_of f → w1 ≡ bind_arguments names (map value_of (drop base mid)) w → w2 ≡ deeper w1
      → w2 ≡ enter_call f.name f.arguments f.locals (map value_of given) w
  entered names w w1 w2 is set last =
      let behind : drop base mid ≡ put.0 = (λ i. drop (at i) (put.1 i)) ∙ drop-append_seam before put.0 in
      last
      ∙ ap deeper (set
      ∙ (λ i. bind_arguments (is i) (map value_of (behind i)) w)
      ∙ ap (λ vs. bind_arguments (names_of f) vs w) put.3.1
      ∙ bind_all f.arguments f.locals (map value_of given) put.3.0 (set_var f.name (Str []) w))
