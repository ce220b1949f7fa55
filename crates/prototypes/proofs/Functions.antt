-- The parts of a function's prototype.
use Rattle.std.proofs.Common.{◌≡◌, ℕ, suc, ◌+◌, ◌-◌, List, [], ◌∷◌, ◌++◌, length, take, drop, ◌<◌, Some, None, Bool, true, false, true≢false, refl, sym, ap, ◌∙◌, arith}
use Rattle.std.specs.Prelude.{not, ◌&&◌}
use Rattle.std.specs.List.{list_all}
use Rattle.model.specs.declared.image.Level.{Level}
use Rattle.std.proofs.lemmas.List.{take-append-drop}
use Rattle.model.specs.Deck.Trees.{Bytes}
use Rattle.model.specs.Language.Prototypes.{are_distinct, cut_at, function_cut, function_rest, is_function, is_name, is_primitive, listed}
use Rattle.prototypes.specs.Views.{function_of, names_of, slotted}

take_front : {A : Type 0} (xs ys : List A) → take (length xs) (xs ++ ys) ≡ xs
take_front [] ys = refl
take_front (x ∷ xs) ys = ap (λ zs. x ∷ zs) (take_front xs ys)

drop_front : {A : Type 0} (xs ys : List A) → drop (length xs) (xs ++ ys) ≡ ys
drop_front [] ys = refl
drop_front (x ∷ xs) ys = drop_front xs ys

next : (n : ℕ) → n + 1 ≡ suc n
next n = omega arith

-- a name, arguments and locals one behind the other
pub joined_parts : (name : Bytes) (xs ys : List Bytes) → function_of ((name ∷ [] ++ xs) ++ ys) (length xs) ≡ record { name = name; arguments = xs; locals = ys }
joined_parts name xs ys = λ i. record {
  name = name;
  arguments = take_front xs ys i;
  locals = (ap (λ n. drop n (name ∷ (xs ++ ys))) (next (length xs)) ∙ drop_front xs ys) i;
}

-- by what was put there
pub parts_are : (name : Bytes) (xs ys a b c d held : List Bytes) (count : ℕ) → a ≡ [] → b ≡ a ++ name ∷ [] → c ≡ b ++ xs → count ≡ length c → d ≡ c ++ ys → held ≡ d
    → function_of held (count - 1) ≡ record { name = name; arguments = xs; locals = ys }
parts_are name xs ys a b c d held count none first more many all is =
    let here : c ≡ name ∷ [] ++ xs = more ∙ ap (λ ns. ns ++ xs) (first ∙ ap (λ ns. ns ++ name ∷ []) none) in
    let size : count ≡ length (name ∷ [] ++ xs) = many ∙ ap length here in
    let arity : count - 1 ≡ length xs = omega (arith, size) in
    ap (λ ns. function_of ns (count - 1)) (is ∙ all ∙ ap (λ ns. ns ++ ys) here)
    ∙ ap (function_of ((name ∷ [] ++ xs) ++ ys)) arity
    ∙ joined_parts name xs ys

-- by both cuts
pub cut_twice : (text name inner arguments locals : Bytes) → cut_at 40 text ≡ Some (record { before = name; after = inner }) → cut_at 41 inner ≡ Some (record { before = arguments; after = locals })
    → Some (record { name = name; arguments = listed arguments; locals = listed locals }) ≡ function_cut (cut_at 40 text)
cut_twice text name inner arguments locals first second = ap (function_rest name) (sym second) ∙ ap function_cut (sym first)

pub cut_once : (text name inner : Bytes) → cut_at 40 text ≡ Some (record { before = name; after = inner }) → cut_at 41 inner ≡ None → None ≡ function_cut (cut_at 40 text)
cut_once text name inner first second = ap (function_rest name) (sym second) ∙ ap function_cut (sym first)

-- a function's names are at least its own
pub whole_names : (slots : List ℕ) (names : List Bytes) (arity : ℕ) → arity < length names → names ≡ names_of (slotted slots (function_of names arity))
whole_names slots [] arity h = absurd (omega arith)
whole_names slots (x ∷ xs) arity h =
    ap (λ ys. x ∷ ys) (sym (take-append-drop arity xs)) ∙ ap (λ n. x ∷ (take arity xs ++ drop n (x ∷ xs))) (sym (next arity))

both_of : (a b c : Bool) → (a && b && c) ≡ true → b ≡ true
both_of true true c h = refl
both_of true false c h = absurd (true≢false (sym h))
both_of false b c h = absurd (true≢false (sym h))

-- the names of a function are all different
pub function_names_differ : (l : Level) (names : List Bytes) (arity : ℕ) → arity < length names → is_function l (function_of names arity) ≡ true → are_distinct names ≡ true
function_names_differ l names arity whole h =
    let ns = names_of (slotted [] (function_of names arity)) in
    ap are_distinct (whole_names [] names arity whole)
    ∙ both_of (list_all is_name ns) (are_distinct ns) (not (is_primitive l (function_of names arity).name)) h
