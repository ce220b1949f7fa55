-- Values put at the end of others.
use Rattle.std.proofs.Common.{◌≡◌, ℕ, ◌+◌, List, [], ◌∷◌, ◌++◌, length, map, take, refl, sym, ap, ◌∙◌, arith, append_assoc, append-nil}
use Rattle.std.proofs.lemmas.List.{length-append, map-append, take-map}
use Rattle.model.specs.Language.Values.{Str}
use Rattle.prototypes.specs.Views.{FunctionView, names_of}
use Rattle.values.specs.Values.{value_of}
use Rattle.values.specs.Arguments.{AreFilled, ArePut, nulls}
use Rattle.values.specs.declared.value.Value.{Value}

-- ---- null values

nulls_more : (vs : List Value) (v : Value) → nulls (length (vs ++ v ∷ [])) ≡ nulls (length vs) ++ Str [] ∷ []
nulls_more [] v = refl
nulls_more (u ∷ vs) v = ap (λ ws. Str [] ∷ ws) (nulls_more vs v)

pub none_filled : (all : List Value) (n : ℕ) → n ≡ length all → AreFilled n all all
none_filled all n is = ([], sym (append-nil all), refl, sym is)

pub fill_turn : (before now new : List Value) (n : ℕ) (v : Value) → value_of v ≡ Str [] → new ≡ now ++ v ∷ [] → AreFilled n before now → AreFilled (n + 1) before new
fill_turn before now new n v null more (vs, all, same, size) = (
  vs ++ v ∷ [],
  more ∙ ap (λ ws. ws ++ v ∷ []) all ∙ append_assoc before vs (v ∷ []),
  map-append value_of vs (v ∷ [])
      ∙ ap (λ ws. ws ++ value_of v ∷ []) same
      ∙ ap (λ z. nulls (length vs) ++ z ∷ []) null
      ∙ sym (nulls_more vs v),
  omega (arith, ap length more, length-append now (v ∷ []), size),
)

pub put_all : (f : FunctionView) (given before mid after : List Value) (null : Value) (n count : ℕ) → value_of null ≡ Str [] → n ≡ length f.arguments → mid ≡ (before ++ null ∷ []) ++ take n given → count ≡ length before + length (names_of f)
    → AreFilled count mid after → ArePut f given before after
put_all f given before mid after null n count is arity put all (ns, filled, same, size) =
    let vs : List Value = null ∷ (take n given ++ ns) in
    let whole : after ≡ before ++ vs =
    filled
    ∙ ap (λ ws. ws ++ ns) (put ∙ append_assoc before (null ∷ []) (take n given))
    ∙ append_assoc before (null ∷ take n given) ns in (
      vs,
      whole,
      omega (arith, size, all, ap length whole, length-append before vs),
      (
        length ns,
        (λ i. is i ∷ map-append value_of (take n given) ns i)
            ∙ ap (λ ws. Str [] ∷ (map value_of (take n given) ++ ws)) same
            ∙ ap (λ ws. Str [] ∷ (ws ++ nulls (length ns))) (sym (take-map value_of n given) ∙ ap (λ k. take k (map value_of given)) arity),
      ),
    )
