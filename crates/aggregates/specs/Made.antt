-- Objects as they are held, and as the definitions see them.
use Rattle.std.specs.Prelude.{◌≡◌, ◌<◌, slice_get, ℕ, List, [], ◌∷◌, length, map}
use Rattle.model.specs.Language.Values.{Object, ArrayOf, TableOf, RecordOf}
use Rattle.aggregates.specs.declared.field_values.FieldValues.{FieldValues}
use Rattle.aggregates.specs.declared.field_values.FieldValues.TheVariants as fields
use Rattle.aggregates.specs.declared.object.Object as held
use Rattle.aggregates.specs.declared.object.Object.TheVariants as o
use Rattle.aggregates.specs.declared.object.ObjectKind.{ObjectKind}
use Rattle.aggregates.specs.declared.object.ObjectKind.TheVariants as kind

module _ {V : Type 0} where
  -- the values of a record's fields
  abbrev pub held_values : FieldValues V → List V
  held_values (fields.One v) = v ∷ []
  held_values (fields.Two v u) = v ∷ u ∷ []
  held_values (fields.Many vs) = vs.items

  abbrev pub object_of : held.Object V → Object V
  object_of (o.Array a) = ArrayOf a.0 a.1
  object_of (o.Table t) = TableOf t
  object_of (o.Record r) = RecordOf r.type_name r.fields (held_values r.values)

  abbrev pub kind_of : Object V → ObjectKind
  kind_of (ArrayOf bs vs) = kind.Array
  kind_of (TableOf es) = kind.Table
  kind_of (RecordOf t fs vs) = kind.Record

  -- ---- what they hold

  abbrev pub values_of : Object V → List V
  values_of (ArrayOf bs vs) = vs
  values_of (TableOf es) = map (λ e. e.value) es
  values_of (RecordOf t fs vs) = vs

  -- each of these values stands below a place
  abbrev pub StandBelow : ℕ → List V → Type 0
  StandBelow n vs = (k : ℕ) → k < length vs → (j : ℕ) × (j < n) × (slice_get vs j ≡ slice_get vs k)
