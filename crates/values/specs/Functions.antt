-- Functions that aren't primitive, as they are held.
use Rattle.std.specs.Prelude.{◌≡◌, List, Option, Some, None, option_map, bytes_eq, if◌then◌else◌}
use Rattle.std.specs.List.{list_any}
use Rattle.std.specs.Map.{lookup}
use Rattle.model.specs.Deck.Trees.{Bytes}
use Rattle.model.specs.Language.Values as values
use Rattle.values.specs.declared.functions.Function.{Function}
use Rattle.values.specs.declared.functions.Function.TheVariants as function

-- by their names
abbrev pub Functions : Type 0
Functions = List (Bytes × Function)

abbrev pub function_of : Function → values.Function
function_of (function.Defined entry f) = values.Defined entry f.arguments f.locals
function_of (function.Constructor fields) = values.Constructor fields
function_of function.Field = values.Field

abbrev pub function_at : Bytes → Functions → Option Function
function_at x fs = lookup (bytes_eq x) fs

abbrev pub functions_in : Functions → Bytes → Option values.Function
functions_in fs x = option_map function_of (function_at x fs)

-- what DEFINE made has the name that it is held under
abbrev pub IsNamed : Bytes → Function → Type 0
IsNamed x (function.Defined entry f) = f.name ≡ x
IsNamed x _ = Unit {0}

abbrev pub IfNamed : Bytes → Option Function → Type 0
IfNamed x None = Unit {0}
IfNamed x (Some f) = IsNamed x f

-- the function that a type gives a name: some of its fields have one, and its own name makes records with all of them
abbrev pub function_of_type : (name : Bytes) → (fields some : List Bytes) → Bytes → Option Function
function_of_type name fields some x = if list_any (λ f. bytes_eq f x) some then Some function.Field else if bytes_eq name x then Some (function.Constructor fields) else None
