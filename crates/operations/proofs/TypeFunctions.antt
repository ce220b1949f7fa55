-- The functions of a type.
use Rattle.std.proofs.Common.{◌≡◌, ℕ, ◌+◌, ◌<◌, List, [], ◌∷◌, take, get_or, Bool, true, false, cond, Option, Some, None, length, refl, sym, ap, subst, ◌∙◌, bytes_eq}
use Rattle.std.specs.Prelude.{option_map, if◌then◌else◌, ◌||◌}
use Rattle.std.specs.List.{list_any}
use Rattle.std.specs.Option.{option_or}
use Rattle.std.proofs.lemmas.List.Folds.{list_any_more}
use Rattle.model.specs.Deck.Trees.{Bytes}
use Rattle.model.specs.Language.Io.{Io}
use Rattle.model.specs.Language.Values as values
use Rattle.model.specs.Language.Values.{Str, set_plain}
use Rattle.model.specs.Language.Conversions.{Gives}
use Rattle.model.specs.Language.Primitives.{data_op, set_fields, set_function}
use Rattle.model.specs.Language.Prototypes.{TypePrototype}
use Rattle.model.specs.Machine.Steps.{MW}
use Rattle.values.specs.Functions.{Functions, function_of, function_at, function_of_type, IfNamed}
use Rattle.world.specs.Held.{WorldView, world_of}
use Rattle.world.specs.Slots.{FunctionsStand, IfStands}
use Rattle.values.specs.declared.functions.Function.{Function}
use Rattle.values.specs.declared.functions.Function.TheVariants as function

-- before the fields, there is the constructor
pub constructor_first : (name key : Bytes) (fields gs : List Bytes) (old made : Functions) → old ≡ [] → key ≡ name → gs ≡ fields
    → ((x : Bytes) → function_at x made ≡ cond (bytes_eq key x) (Some (function.Constructor gs)) (function_at x old)) → (x : Bytes) → function_at x made ≡ function_of_type name fields [] x
constructor_first name key fields gs old made empty named same puts x =
    puts x
    ∙ ap (λ es. cond (bytes_eq key x) (Some (function.Constructor gs)) (function_at x es)) empty
    ∙ ap (λ z. cond (bytes_eq z x) (Some (function.Constructor gs)) None) named
    ∙ ap (λ z. cond (bytes_eq name x) (Some (function.Constructor z)) None) same

-- a turn of a loop that puts in one field after the other
pub field_turn : (name : Bytes) (fields xs : List Bytes) (k : ℕ) (x key : Bytes) (made new : Functions) → k < length xs → x ≡ get_or xs k x → key ≡ x
    → ((y : Bytes) → function_at y new ≡ cond (bytes_eq key y) (Some function.Field) (function_at y made))
    → ((y : Bytes) → function_at y made ≡ function_of_type name fields (take k xs) y) → (y : Bytes) → function_at y new ≡ function_of_type name fields (take (k + 1) xs) y
field_turn name fields xs k x key made new within at same puts before y =
    let rest : Option Function = if bytes_eq name y then Some (function.Constructor fields) else None in
    let last : bytes_eq key y ≡ bytes_eq (get_or xs k x) y = ap (λ z. bytes_eq z y) (same ∙ at) in
    puts y
    ∙ ap (cond (bytes_eq key y) (Some function.Field)) (before y)
    ∙ by (list_any (λ f. bytes_eq f y) (take k xs)) (bytes_eq key y) rest
    ∙ ap (λ b. if list_any (λ f. bytes_eq f y) (take k xs) || b then Some function.Field else rest) last
    ∙ ap (λ b. if b then Some function.Field else rest) (sym (list_any_more (λ f. bytes_eq f y) xs k x within))
  where
    by : (a b : Bool) (rest : Option Function) → cond b (Some function.Field) (if a then Some function.Field else rest) ≡ (if a || b then Some function.Field else rest)
    by true true rest = refl
    by true false rest = refl
    by false true rest = refl
    by false false rest = refl

-- ---- of the world

abbrev with_fields : List Bytes → MW → MW
with_fields fs w = set_plain (record w.plain { functions = λ x. if list_any (λ f. bytes_eq f x) fs then Some values.Field else w.plain.functions x }) w

fields_are : (fs : List Bytes) (w : MW) → set_fields fs w ≡ with_fields fs w
fields_are [] w = refl
fields_are (f ∷ fs) w =
    fields_are fs (set_function f values.Field w)
    ∙ (λ i. set_plain (record w.plain { functions = λ x. by (list_any (λ g. bytes_eq g x) fs) (bytes_eq f x) (w.plain.functions x) i }) w)
  where
    by : (a b : Bool) (o : Option values.Function) → (if a then Some values.Field else (if b then Some values.Field else o)) ≡ (if b || a then Some values.Field else o)
    by true true o = refl
    by true false o = refl
    by false true o = refl
    by false false o = refl

-- each of a type's functions is in the table, and all others have theirs
pub made_type : (h : WorldView) (made new : Functions) (t : TypePrototype) → ((x : Bytes) → function_at x made ≡ function_of_type t.name t.fields t.fields x)
    → ((x : Bytes) → function_at x new ≡ option_or (function_at x made) (function_at x h.functions)) → (io : Io) → data_op (Some t) (world_of h io) ≡ Gives (Str []) (world_of (record h { functions = new }) io)
made_type h made new t is puts io =
    ap (λ w. Gives (Str []) w) (fields_are t.fields (set_function t.name (values.Constructor t.fields) (world_of h io)))
    ∙ (λ i. Gives (Str []) (set_plain (record (world_of h io).plain { functions = λ x. sym (seen x) i }) (world_of h io)))
  where
    by : (a b : Bool) (o : Option Function) → option_map function_of (option_or (if a then Some function.Field else if b then Some (function.Constructor t.fields) else None) o)
        ≡ (if a then Some values.Field else (if b then Some (values.Constructor t.fields) else option_map function_of o))
    by true b o = refl
    by false true o = refl
    by false false o = refl

    seen : (x : Bytes) → option_map function_of (function_at x new) ≡ (if list_any (λ f. bytes_eq f x) t.fields then Some values.Field else (if bytes_eq t.name x then Some (values.Constructor t.fields) else option_map function_of (function_at x h.functions)))
    seen x =
        ap (option_map function_of) (puts x)
        ∙ ap (λ o. option_map function_of (option_or o (function_at x h.functions))) (is x)
        ∙ by (list_any (λ f. bytes_eq f x) t.fields) (bytes_eq t.name x) (function_at x h.functions)

-- ---- names

-- what a type gives a name needs none of its own
named_so : (x : Bytes) (a b : Bool) (fields : List Bytes) → IfNamed x (if a then Some function.Field else if b then Some (function.Constructor fields) else None)
named_so x true b fields = tt
named_so x false true fields = tt
named_so x false false fields = tt

pub type_named : (name : Bytes) (fields some : List Bytes) (made : Functions) → ((x : Bytes) → function_at x made ≡ function_of_type name fields some x) → (x : Bytes) → IfNamed x (function_at x made)
type_named name fields some made is x = subst (IfNamed x) (sym (is x)) (named_so x (list_any (λ f. bytes_eq f x) some) (bytes_eq name x) fields)

-- ---- slots

-- nor has it slots
stands_so : (ns : List Bytes) (a b : Bool) (fields : List Bytes) → IfStands ns (if a then Some function.Field else if b then Some (function.Constructor fields) else None)
stands_so ns true b fields = tt
stands_so ns false true fields = tt
stands_so ns false false fields = tt

pub type_stands : (ns : List Bytes) (name : Bytes) (fields some : List Bytes) (made : Functions) → ((x : Bytes) → function_at x made ≡ function_of_type name fields some x) → FunctionsStand ns made
type_stands ns name fields some made is x = subst (IfStands ns) (sym (is x)) (stands_so ns (list_any (λ f. bytes_eq f x) some) (bytes_eq name x) fields)
