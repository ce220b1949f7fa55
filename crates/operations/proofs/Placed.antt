-- Elements by their places, and values of tables by their keys.
use Rattle.std.proofs.Common.{◌≡◌, ℕ, ℤ, List, [], ◌∷◌, Option, None, Some, Bool, true, refl, sym, ap, ◌∙◌}
use Rattle.std.specs.Prelude.{slice_get, option_map}
use Rattle.std.proofs.lemmas.Option.{none-some}
use Rattle.model.specs.Deck.Target as target
use Rattle.model.specs.Deck.Target.{Element, IntegerKey, StringKey}
use Rattle.model.specs.Deck.Trees.{Bytes}
use Rattle.model.specs.Language.Io.{Io}
use Rattle.model.specs.Language.Conversions.{Gives}
use Rattle.model.specs.Language.Aggregates.{element_op, table_element}
use Rattle.model.specs.Language.Keywords.{Keys}
use Rattle.model.specs.declared.image.Level.{Level}
use Rattle.model.specs.Language.Values.{ArrayOf, Int, IntegerAt, Key, Obj, Object, RecordOf, Str, StringAt, TableOf}
use Rattle.model.specs.Language.Operators.{assign_op, element_of, entry_of, fetch_op, there, with_value_for}
use Rattle.model.specs.Machine.Steps.{MVal, MW}
use Rattle.aggregates.specs.Made.{kind_of}
use Rattle.aggregates.specs.Objects.{if_stored, index_in, value_in}
use Rattle.heap.specs.Objects.{element_at, element_in, place_in, put_at}
use Rattle.aggregates.specs.declared.place.Key.TheVariants as held
use Rattle.aggregates.specs.declared.place.ElementPlace.TheVariants as place
use Rattle.aggregates.specs.declared.object.ObjectKind.{ObjectKind}
use Rattle.aggregates.specs.declared.object.ObjectKind.TheVariants as kind
use Rattle.pattern_compiler.specs.View.{name_of}
use Rattle.pattern_compiler.specs.declared.instr.Name.{Name}
use Rattle.pattern_compiler.specs.declared.instr.Name.TheVariants as name
use Rattle.values.specs.Values.{value_of}
use Rattle.operations.specs.Elements.{HoldsAt, IndexesEntry, IsEntry, entry_name, key_value}
use Rattle.values.specs.Functions.{Functions}
use Rattle.world.specs.Held.{WorldView, world_of}
use Rattle.values.specs.declared.value.Value.{Value}
use Rattle.values.specs.declared.value.Value.TheVariants as value
use Rattle.values.specs.declared.variable.Variable.{Variable}
use Rattle.operations.proofs.Naming.{in_table, placed_item}
use Rattle.operations.proofs.Objects.{element_is, entry_by, entry_is, was_stored}

module _ (h : WorldView) (os : List (Object Value)) (same : os ≡ h.objects) (k i : ℕ) where
  -- the value of an element
  pub element_held : (io : Io) (v : Value) → Some v ≡ element_of (slice_get os k) i → fetch_op (Element k i) (world_of h io) ≡ Gives (value_of v) (world_of h io)
  element_held io v is =
      element_is h io k i
      ∙ ap (λ l. there (option_map value_of (element_of (slice_get l k) i)) (world_of h io)) (sym same)
      ∙ ap (λ o. there (option_map value_of o) (world_of h io)) (sym is)

  -- its name, by the only subscript
  pub array_named : (b s : Value) (z z' : ℤ) → b ≡ value.Object k → s ≡ value.Integer z → z' ≡ z → Some i ≡ place_in (z' ∷ []) (slice_get os k) → (io : Io) → element_op (value_of b) (value_of s ∷ []) (world_of h io) ≡ Gives (Element k i) (world_of h io)
  array_named b s z z' base subscript number place io =
      ap (λ x. element_op (value_of x) (value_of s ∷ []) (world_of h io)) base
      ∙ ap (λ x. element_op (Obj k) (value_of x ∷ []) (world_of h io)) subscript
      ∙ placed_item h os io k same z i (ap (λ y. place_in (y ∷ []) (slice_get os k)) (sym number) ∙ sym place)

-- an array has it for its only subscript
pub element_holds : (h : WorldView) (os : List (Object Value)) → os ≡ h.objects → (k : ℕ) (z z' : ℤ) (v : Value) → z' ≡ z → Some v ≡ element_in (z' ∷ []) (slice_get os k) → HoldsAt (Obj k) (Int z) (value_of v) h
element_holds h os same k z z' v number e = by (place_in (z' ∷ []) (slice_get os k)) refl e
  where
    by : (r : Option ℕ) → place_in (z' ∷ []) (slice_get os k) ≡ r → Some v ≡ element_at r (slice_get os k) → HoldsAt (Obj k) (Int z) (value_of v) h
    by None is f = absurd (none-some _ (sym f))
    by (Some i) is f = (Element k i, λ io. (array_named h os same k i (value.Object k) (value.Integer z) z z' refl refl number (sym is) io, element_held h os same k i io v f))

-- what is set by one name is set by the same one
pub name_set : (n m : Name) (v : MVal) (h new : WorldView) → n ≡ m → ((io : Io) → assign_op (name_of m) v (world_of h io) ≡ Gives (record {}) (world_of new io)) → (io : Io) → assign_op (name_of n) v (world_of h io) ≡ Gives (record {}) (world_of new io)
name_set n m v h new is f io = ap (λ x. assign_op (name_of x) v (world_of h io)) is ∙ f io

pub key_set : (n : Name) (k : ℕ) (z z' : ℤ) (v : MVal) (h new : WorldView) → n ≡ name.IntegerKey k z → z' ≡ z → ((io : Io) → assign_op (IntegerKey k z') v (world_of h io) ≡ Gives (record {}) (world_of new io))
    → (io : Io) → assign_op (name_of n) v (world_of h io) ≡ Gives (record {}) (world_of new io)
key_set n k z z' v h new is same f = name_set n (name.IntegerKey k z') v h new (is ∙ ap (name.IntegerKey k) (sym same)) f

-- what is set to an integer is set to the value that is one
pub integer_set : (n : Name) (v : Value) (z z' : ℤ) (h new : WorldView) → v ≡ value.Integer z → z' ≡ z → ((io : Io) → assign_op (name_of n) (Int z') (world_of h io) ≡ Gives (record {}) (world_of new io))
    → (io : Io) → assign_op (name_of n) (value_of v) (world_of h io) ≡ Gives (record {}) (world_of new io)
integer_set n v z z' h new is same f io =
    ap (λ x. assign_op (name_of n) (value_of x) (world_of h io)) is
    ∙ ap (λ y. assign_op (name_of n) (Int y) (world_of h io)) (sym same)
    ∙ f io

-- ---- values of tables

table_kind : (key : Key) (v : Value) (o : Option (Object Value)) → Some v ≡ value_in key o → option_map kind_of o ≡ Some kind.Table
table_kind key v None e = absurd (cc)
table_kind key v (Some (ArrayOf bs es)) e = absurd (cc)
table_kind key v (Some (TableOf es)) e = refl
table_kind key v (Some (RecordOf t fs es)) e = absurd (cc)

index_kind : (key : Key) (i : ℕ) (o : Option (Object Value)) → index_in key o ≡ Some i → option_map kind_of o ≡ Some kind.Table
index_kind key i None e = absurd (cc)
index_kind key i (Some (ArrayOf bs es)) e = absurd (cc)
index_kind key i (Some (TableOf es)) e = refl
index_kind key i (Some (RecordOf t fs es)) e = absurd (cc)

pub keyed : (k : ℕ) (key : Key) (w : MW) → table_element k (key_value key ∷ []) w ≡ Gives (entry_name k key) w
keyed k (IntegerAt z) w = refl
keyed k (StringAt s) w = refl

pub fetched_by : (k : ℕ) (key : Key) (w : MW) → fetch_op (entry_name k key) w ≡ there (entry_of (Str []) (slice_get w.objects k) key) w
fetched_by k (IntegerAt z) w = refl
fetched_by k (StringAt s) w = refl

module _ (h : WorldView) (os : List (Object Value)) (same : os ≡ h.objects) (k : ℕ) where
  -- the name of the value for a key
  pub key_named : (kd : Option ObjectKind) (s t : Bytes) → kd ≡ option_map kind_of (slice_get os k) → kd ≡ Some kind.Table → t ≡ s → (io : Io) → element_op (Obj k) (Str s ∷ []) (world_of h io) ≡ Gives (StringKey k t) (world_of h io)
  key_named kd s t by table is io = in_table h os io k (Str s ∷ []) same kd by table ∙ ap (λ x. Gives (StringKey k x) (world_of h io)) (sym is)

  -- what is fetched for a key
  key_fetched : (key : Key) (v : Value) → Some v ≡ value_in key (slice_get os k) → (io : Io) → there (entry_of (Str []) (slice_get (world_of h io).objects k) key) (world_of h io) ≡ Gives (value_of v) (world_of h io)
  key_fetched key v here io =
      let w = world_of h io in
      entry_is h io k key
      ∙ ap (λ xs. there (entry_by (Str []) (option_map kind_of (slice_get xs k)) (option_map value_of (value_in key (slice_get xs k)))) w) (sym same)
      ∙ ap (λ x. there (entry_by (Str []) x (option_map value_of (value_in key (slice_get os k)))) w) (table_kind key v (slice_get os k) here)
      ∙ ap (λ x. there (entry_by (Str []) (Some kind.Table) (option_map value_of x)) w) (sym here)

  -- a table has it for its key
  pub table_holds : (v : Value) (s t : Bytes) → Some v ≡ value_in (StringAt t) (slice_get os k) → t ≡ s → HoldsAt (Obj k) (Str s) (value_of v) h
  table_holds v s t got is =
      let here : Some v ≡ value_in (StringAt s) (slice_get os k) = got ∙ ap (λ x. value_in (StringAt x) (slice_get os k)) is in
      let table : option_map kind_of (slice_get os k) ≡ Some kind.Table = table_kind (StringAt s) v (slice_get os k) here in
      (StringKey k s, λ io. (key_named (option_map kind_of (slice_get os k)) s s refl table refl io, key_fetched (StringAt s) v here io))

  -- the entry that stands for a key
  pub key_indexed : (key : Key) (i : ℕ) → index_in key (slice_get os k) ≡ Some i → IndexesEntry k (key_value key) i h
  key_indexed key i is = (
    entry_name k key,
    (key, refl, ap (λ xs. index_in key (slice_get xs k)) (sym same) ∙ is),
    λ io. in_table h os io k (key_value key ∷ []) same (option_map kind_of (slice_get os k)) refl (index_kind key i (slice_get os k) is) ∙ keyed k key (world_of h io),
  )

  -- its value
  pub entry_fetched : (i : ℕ) (n : target.Name) (v : Value) → IsEntry n k i h → ((key : Key) → index_in key (slice_get os k) ≡ Some i → Some v ≡ value_in key (slice_get os k))
      → (io : Io) → fetch_op n (world_of h io) ≡ Gives (value_of v) (world_of h io)
  entry_fetched i n v (key, is, at) got io =
      let here = got key (ap (λ xs. index_in key (slice_get xs k)) same ∙ at) in
      ap (λ t. fetch_op t (world_of h io)) is ∙ fetched_by k key (world_of h io) ∙ key_fetched key v here io

-- another value of it
module _ (vs : List (Bytes × Variable)) (os new : List (Object Value)) (fs : Functions) (ks : Keys) (lv : Level) (ns : List Bytes) (h : WorldView) (k : ℕ) (v : Value) (b : Bool) (is : record { variables = vs; objects = os; functions = fs; keys = ks; level = lv; names = ns } ≡ h) where
  pub entry_assigned : (i : ℕ) (n : target.Name) → IsEntry n k i h → ((key : Key) → index_in key (slice_get os k) ≡ Some i → if_stored b new ≡ put_at k (with_value_for key v (slice_get os k)) os) → b ≡ true
      → (io : Io) → assign_op n (value_of v) (world_of h io) ≡ Gives (record {}) (world_of (record { variables = vs; objects = new; functions = fs; keys = ks; level = lv; names = ns }) io)
  entry_assigned i n (key, name, at) put q io =
      ap (λ t. assign_op t (value_of v) (world_of h io)) name
      ∙ by key (put key (ap {A = WorldView} (λ x. index_in key (slice_get x.objects k)) is ∙ at))
    where
      by : (key : Key) → if_stored b new ≡ put_at k (with_value_for key v (slice_get os k)) os
          → assign_op (entry_name k key) (value_of v) (world_of h io) ≡ Gives (record {}) (world_of (record { variables = vs; objects = new; functions = fs; keys = ks; level = lv; names = ns }) io)
      by (IntegerAt z) stored = was_stored vs os new fs ks lv ns h io k (place.Key (held.Integer z)) v b is stored q
      by (StringAt s) stored = was_stored vs os new fs ks lv ns h io k (place.Key (held.String s)) v b is stored q
