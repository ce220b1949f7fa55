-- Prototypes as they are held.
use Rattle.std.specs.Prelude.{◌≡◌, ℕ, ◌+◌, ◌<◌, List, [], ◌∷◌, ◌++◌, length, take, drop, get_or, Option, Some, None}
use Rattle.std.specs.Borrow.{Bor}
use Rattle.model.specs.Deck.Trees.{Bytes}
use Rattle.model.specs.Language.Prototypes.{cut_at, FunctionPrototype, TypePrototype}
use Rattle.prototypes.specs.declared.function.Parts.{Parts}

-- the text is cut so at the first such byte, which is gone
abbrev pub IsCut : ℕ → Bytes → Option (Bor Bytes × Bor Bytes) → Type 0
IsCut mark text None = cut_at mark text ≡ None
IsCut mark text (Some p) = (cut_at mark text ≡ Some (record { before = p.0.now; after = p.1.now })) × (length p.1.now < length text)

-- a function's prototype, and the slots of its variables, in the order of its names
pub record FunctionView : Type 0 where
  pub name : Bytes
  pub arguments : List Bytes
  pub locals : List Bytes
  pub slots : List ℕ

-- the prototype alone
abbrev pub prototype_of : FunctionView → FunctionPrototype
prototype_of f = record { name = f.name; arguments = f.arguments; locals = f.locals }

-- a prototype with these slots
abbrev pub slotted : (slots : List ℕ) → FunctionPrototype → FunctionView
slotted slots f = record { name = f.name; arguments = f.arguments; locals = f.locals; slots = slots }

-- a prototype without slots
abbrev pub without_slots : FunctionPrototype → FunctionView
without_slots f = slotted [] f

-- a function's name, its arguments and its locals
abbrev pub function_of : List Bytes → (arity : ℕ) → FunctionPrototype
function_of names arity = record { name = get_or names 0 []; arguments = take arity (drop 1 names); locals = drop (arity + 1) names }

abbrev pub of_parts : Parts → FunctionPrototype
of_parts p = function_of p.names.items p.arity

abbrev pub names_of : FunctionView → List Bytes
names_of f = f.name ∷ (f.arguments ++ f.locals)

-- a type's name and its fields
abbrev pub type_of : List Bytes → TypePrototype
type_of names = record { name = get_or names 0 []; fields = drop 1 names; rest = [] }
