-- What a call saves and gives back.
use Rattle.std.proofs.Common.{◌≡◌, List, [], ◌∷◌, ◌++◌, length, map, take, refl, sym, ap, ◌∙◌, arith}
use Rattle.std.proofs.lemmas.List.{length-map, length-append}
use Rattle.model.specs.Deck.Trees.{Bytes}
use Rattle.model.specs.Language.Calls.{saved_of}
use Rattle.model.specs.Machine.Steps.{MVal, MW}
use Rattle.values.specs.Values.{value_of}
use Rattle.world.specs.Held.{WorldView, value_in, variable_at, world_of}
use Rattle.prototypes.specs.Views.{FunctionView, names_of}
use Rattle.world.specs.Calling.{AreSaved, IsKept, saved_as}
use Rattle.world.specs.declared.calls.Kept.{Kept}
use Rattle.values.specs.declared.value.Value.{Value}

abbrev pub values_in : WorldView → Bytes → MVal
values_in h x = value_in (variable_at x h.variables)

-- ---- saving

-- what was saved, with its names
pub saved_is : (xs : List Bytes) (vs : List Value) (w : MW) → map value_of vs ≡ map w.vars xs → saved_as xs vs ≡ saved_of xs w
saved_is [] vs w same = refl
saved_is (x ∷ xs) [] w same = absurd (cc)
saved_is (x ∷ xs) (v ∷ vs) w same =
    let first : value_of v ≡ w.vars x = cc in
    let others : map value_of vs ≡ map w.vars xs = cc in
    ap (λ z. record { var = x; value = z } ∷ saved_as xs vs) first ∙ ap (λ ss. record { var = x; value = w.vars x } ∷ ss) (saved_is xs vs w others)

pub saved_count : (xs : List Bytes) (vs : List Value) (h : WorldView) → map value_of vs ≡ map (values_in h) xs → length vs ≡ length xs
saved_count xs vs h same = sym (length-map vs value_of) ∙ ap length same ∙ length-map xs (values_in h)

-- ---- giving back

pub same_end : {A : Type 0} (xs ys : List A) (x y : A) → xs ++ x ∷ [] ≡ ys ++ y ∷ [] → (xs ≡ ys) × (x ≡ y)
same_end [] [] x y h = (refl, cc)
same_end [] (b ∷ ys) x y h = absurd (omega (arith, ap length h, length-append ys (y ∷ [])))
same_end (a ∷ xs) [] x y h = absurd (omega (arith, ap length h, length-append xs (x ∷ [])))
same_end (a ∷ xs) (b ∷ ys) x y h =
    let head : a ≡ b = cc in
    let tails : xs ++ x ∷ [] ≡ ys ++ y ∷ [] = cc in
    let later = same_end xs ys x y tails in
    ((λ i. head i ∷ later.0 i), later.1)

-- names beyond the values take no part
pub saved_short : (xs : List Bytes) (vs : List Value) → saved_as (take (length vs) xs) vs ≡ saved_as xs vs
saved_short [] [] = refl
saved_short [] (v ∷ vs) = refl
saved_short (x ∷ xs) [] = refl
saved_short (x ∷ xs) (v ∷ vs) = ap (λ ss. record { var = x; value = value_of v } ∷ ss) (saved_short xs vs)

-- ---- what a call keeps

pub kept_is : (f : FunctionView) (k : Kept) (xs : List Bytes) (h : WorldView) (before after : List Value) → k.prototype ≡ f → xs ≡ names_of f → h.keys.stno ≡ k.statement → h.keys.fnclevel ≡ k.level → AreSaved xs before after h → IsKept k f before after h
kept_is f k xs h before after same names statement level (vs, all, saved) =
    let here : map value_of vs ≡ map (values_in h) (names_of f) = saved ∙ ap (map (values_in h)) names in (
      same,
      (
        vs,
        all,
        saved_count (names_of f) vs h here,
        λ io i. record {
          name = (ap (λ p. p.name) same) i;
          saved = (ap (λ p. saved_as (names_of p) vs) same ∙ saved_is (names_of f) vs (world_of h io) here) i;
          stno = sym statement i;
          fnclevel = sym level i;
        },
      ),
    )
