-- The world as it is held, and as the definitions see it.
use Rattle.std.specs.Prelude.{◌≡◌, ◌⊎◌, ℕ, List, [], ◌∷◌, ◌++◌, map, Option, Some, None, bytes_eq, codes, slice_get, Bool, false}
use Rattle.std.specs.Map.{lookup, keys_of, values_of}
use Rattle.model.specs.declared.image.Level.{Level}
use Rattle.model.specs.Deck.Trees.{Bytes}
use Rattle.model.specs.Language.Io.{Io}
use Rattle.model.specs.Language.Keywords.{Keys, KeyValue, IsInteger, IsText, is_zero}
use Rattle.model.specs.Language.Conversions.{Op, Gives}
use Rattle.model.specs.Language.Operators.{as_read, limited, assign_op, splice_op}
use Rattle.model.specs.Language.Values.{Object, Str, set_var}
use Rattle.indexmap.specs.IndexMap.{insert_entry}
use Rattle.model.specs.Pattern.Patterns as p
use Rattle.model.specs.Deck.Target as target
use Rattle.model.specs.Pattern.Steps.{Code}
use Rattle.model.specs.Machine.Steps.{MVal, MW, codes_of}
use Rattle.values.specs.Values.{value_of}
use Rattle.world.specs.Objects.{object_map}
use Rattle.values.specs.Functions.{Functions, functions_in}
use Rattle.values.specs.declared.value.Value.{Value}
use Rattle.values.specs.declared.value.Value.TheVariants as v
use Rattle.values.specs.declared.variable.Variable.{Variable}

pub record WorldView : Type 0 where
  -- in the order of first assignment
  pub variables : List (Bytes × Variable)
  -- arrays, tables and records, in the order of making
  pub objects : List (Object Value)
  -- those that aren't primitive, by their names
  pub functions : Functions
  pub keys : Keys
  -- of the module that runs
  pub level : Level
  -- of the variables in the first slots, which never leave them
  pub names : List Bytes

abbrev pub variable_at : Bytes → List (Bytes × Variable) → Option Variable
variable_at x vs = lookup (bytes_eq x) vs

-- the name of the variable in a slot
abbrev pub name_at : ℕ → List (Bytes × Variable) → Option Bytes
name_at slot vs = slice_get (keys_of vs) slot

-- each of these names is that of the variable in its slot
abbrev pub AreNamed : List Bytes → List (Bytes × Variable) → Type 0
AreNamed ns vs = (slot : ℕ) (x : Bytes) → slice_get ns slot ≡ Some x → name_at slot vs ≡ Some x

-- a variable of this name stands in this slot
abbrev pub StandsIn : Bytes → (slot : ℕ) → List (Bytes × Variable) → Type 0
StandsIn x slot vs = (v : Variable) × (slice_get vs slot ≡ Some (x, v)) × (variable_at x vs ≡ Some v)

-- the variable of this name stands in this slot, as it is
abbrev pub StandsAs : Bytes → (slot : ℕ) → Variable → List (Bytes × Variable) → Type 0
StandsAs x slot v vs = (slice_get vs slot ≡ Some (x, v)) × (variable_at x vs ≡ Some v)

-- what isn't there has the null string, and no unit
abbrev pub value_in : Option Variable → MVal
value_in None = Str []
value_in (Some v) = value_of v.value

abbrev pub input_in : Option Variable → Option ℕ
input_in None = None
input_in (Some v) = v.input

abbrev pub output_in : Option Variable → Option ℕ
output_in None = None
output_in (Some v) = v.output

-- a variable of this name stands in this slot, and holds this
abbrev pub IsIn : (slot : ℕ) → Bytes → Value → List (Bytes × Variable) → Type 0
IsIn slot x u vs = (v : Variable) × (slice_get vs slot ≡ Some (x, v)) × (v.value ≡ u)

-- the variable in a slot holds this
abbrev pub Holds : (slot : ℕ) → Value → WorldView → Type 0
Holds slot u h = (v : Variable) × (slice_get (values_of h.variables) slot ≡ Some v) × (v.value ≡ u)

-- the name is that of the variable in this slot, which writes to no unit
abbrev pub IsPlain : target.Name → (slot : ℕ) → WorldView → Type 0
IsPlain (target.Variable x) slot h = StandsIn x slot h.variables × (output_in (variable_at x h.variables) ≡ None)
IsPlain _ slot h = ⊥

-- a variable of this name stands in this slot, and neither reads from a unit nor writes to one
abbrev pub IsSilent : Bytes → (slot : ℕ) → WorldView → Type 0
IsSilent x slot h = StandsIn x slot h.variables × (input_in (variable_at x h.variables) ≡ None) × (output_in (variable_at x h.variables) ≡ None)

-- what stands so in one world stands so in the other
abbrev pub StaySilent : (old new : WorldView) → Type 0
StaySilent old new = (x : Bytes) (slot : ℕ) → IsSilent x slot old → IsSilent x slot new

-- the world that it is, with what stands on units
abbrev pub world_of : WorldView → Io → MW
world_of h io = record {
  vars = λ x. value_in (variable_at x h.variables);
  objects = map (object_map value_of) h.objects;
  plain = record {
    level = h.level;
    functions = functions_in h.functions;
    keys = h.keys;
    reads = λ x. input_in (variable_at x h.variables);
    writes = λ x. output_in (variable_at x h.variables);
  };
  io = io;
}

-- ---- fetching and assigning

-- a variable takes a record as its value
abbrev pub taken : (name bytes : Bytes) → MW → Op MW MVal
taken x r w = let s : Bytes = as_read r w in limited s w (Gives (Str s) (set_var x (Str s) w))

-- a name has this value, and nothing else changed
abbrev pub IsSet : target.Name → MVal → WorldView → WorldView → Type 0
IsSet (target.Variable x) v old new = (io : Io) → world_of new io ≡ set_var x v (world_of old io)
IsSet n v old new = (io : Io) → assign_op n v (world_of old io) ≡ Gives (record {}) (world_of new io)

abbrev pub IsSetOrKept : target.Name → MVal → WorldView → WorldView → Type 0
IsSetOrKept n v old new = (new ≡ old) ⊎ IsSet n v old new

abbrev pub zero_in : KeyValue → Bool
zero_in (IsInteger z) = is_zero z
zero_in (IsText s) = false

-- ---- at first

abbrev pub with_variable : Bytes → Variable → WorldView → WorldView
with_variable x v h = record h { variables = insert_entry bytes_eq h.variables x v }

abbrev pub pattern_variable : Code → Variable
pattern_variable c = record { value = v.Pattern c; input = None; output = None }

abbrev pub null_variable : (input output : Option ℕ) → Variable
null_variable input output = record { value = v.String []; input = input; output = output }

abbrev pub first_patterns : List (Bytes × Variable)
first_patterns =
    (codes "ARB", pattern_variable (codes_of.basic p.Arb))
    ∷ (codes "BAL", pattern_variable (codes_of.basic p.Bal))
    ∷ (codes "REM", pattern_variable (codes_of.basic p.Rem))
    ∷ (codes "FAIL", pattern_variable (codes_of.basic p.Fail))
    ∷ (codes "SUCCEED", pattern_variable codes_of.succeed)
    ∷ (codes "ABORT", pattern_variable codes_of.abort)
    ∷ (codes "FENCE", pattern_variable codes_of.fence)
    ∷ []

abbrev pub first_variables : List (Bytes × Variable)
first_variables =
    first_patterns
    ++ (codes "INPUT", null_variable (Some 5) None)
    ∷ (codes "OUTPUT", null_variable None (Some 6))
    ∷ (codes "PUNCH", null_variable None (Some 7))
    ∷ []

-- what is assigned where nothing replaces a part of a subject, in each world with these keywords
abbrev pub IsLeftOf : (subject : Bytes) → (start end : ℕ) → Value → WorldView → Type 0
IsLeftOf s b e v h = (g : WorldView) (n : target.Name) (io : Io) → g.keys ≡ h.keys → splice_op n s b e (Str []) (world_of g io) ≡ assign_op n (value_of v) (world_of g io)
