-- Functions by their names.
use Rattle.std.proofs.Common.{◌≡◌, [], Bool, true, false, cond, Option, Some, refl, sym, ap, subst, ◌∙◌, bytes_eq}
use Rattle.std.specs.Prelude.{option_map, if◌then◌else◌}
use Rattle.std.specs.Option.{option_copied}
use Rattle.std.specs.Borrow.{Bor}
use Rattle.std.proofs.lemmas.Slice.Eq.{bytes_eq-Decides}
use Rattle.model.specs.Deck.Trees.{Bytes}
use Rattle.model.specs.Language.Io.{Io}
use Rattle.model.specs.Language.Values as values
use Rattle.model.specs.Language.Values.{Str, set_plain}
use Rattle.model.specs.Language.Conversions.{Gives}
use Rattle.model.specs.Machine.Steps.{MW}
use Rattle.prototypes.specs.Views.{FunctionView, prototype_of}
use Rattle.model.specs.Language.Primitives.{define_op, entry_or, set_function}
use Rattle.values.specs.Functions.{Functions, function_of, function_at, functions_in, IsNamed, IfNamed}
use Rattle.world.specs.Held.{WorldView, world_of}
use Rattle.values.specs.declared.functions.Function.{Function}

-- one name has this function, and all others have theirs
abbrev pub PutsFunction : (old new : Functions) → Bytes → Function → Type 0
PutsFunction old new x f = (y : Bytes) → function_at y new ≡ cond (bytes_eq x y) (Some f) (function_at y old)

pub stays_named : (old new : Functions) (x : Bytes) (f : Function) → PutsFunction old new x f → IsNamed x f → ((y : Bytes) → IfNamed y (function_at y old)) → (y : Bytes) → IfNamed y (function_at y new)
stays_named old new x f h named all y = subst (IfNamed y) (sym (h y)) (go (bytes_eq x y) refl)
  where
    go : (b : Bool) → bytes_eq x y ≡ b → IfNamed y (cond b (Some f) (function_at y old))
    go true q = subst (λ z. IsNamed z f) ((bytes_eq-Decides x y).0 q) named
    go false q = all y

function_by : (b : Bool) (f : Function) (o : Option Function) → option_map function_of (cond b (Some f) o) ≡ (if b then Some (function_of f) else option_map function_of o)
function_by true f o = refl
function_by false f o = refl

pub function_put : (h : WorldView) (new : Functions) (x : Bytes) (f : Function) → PutsFunction h.functions new x f → (io : Io) → world_of (record h { functions = new }) io ≡ set_function x (function_of f) (world_of h io)
function_put h new x f puts io = λ i. set_plain (record (world_of h io).plain { functions = λ y. (ap (option_map function_of) (puts y) ∙ function_by (bytes_eq x y) f (function_at y h.functions)) i }) (world_of h io)

pub found_there : (x : Bytes) (o : Option (Bor Function)) (f : Bor Function) (copy : Function) (fs : Functions) → option_copied o ≡ function_at x fs → o ≡ Some f → copy ≡ f.now → Some (function_of copy) ≡ functions_in fs x
found_there x o f copy fs at is same = ap (λ z. Some (function_of z)) same ∙ ap (λ z. option_map function_of (option_copied z)) (sym is) ∙ ap (option_map function_of) at

pub defined_is : (f : FunctionView) (entry : Option Bytes) (name label : Bytes) (w new : MW) → name ≡ f.name → label ≡ entry_or name entry → new ≡ set_function name (values.Defined label f.arguments f.locals) w → define_op entry (Some (prototype_of f)) w ≡ Gives (Str []) new
defined_is f entry name label w new same at put =
    ap (λ x. Gives (Str []) (set_function x (values.Defined (entry_or x entry) f.arguments f.locals) w)) (sym same)
    ∙ ap (λ l. Gives (Str []) (set_function name (values.Defined l f.arguments f.locals) w)) (sym at)
    ∙ ap (λ z. Gives (Str []) z) (sym put)
