-- What tables have for keys, assigned or not.
use Rattle.std.proofs.Common.{◌≡◌, ℕ, suc, List, [], ◌∷◌, Option, None, Some, Bool, true, false, refl, sym, ap, ◌∙◌}
use Rattle.std.specs.Prelude.{slice_get, option_map, IfSome, if◌then◌else◌}
use Rattle.std.specs.Borrow.{Bor}
use Rattle.model.specs.Language.Values.{ArrayOf, Entry, Key, Obj, Object, RecordOf, Str, TableOf}
use Rattle.model.specs.Language.Operators.{same_key}
use Rattle.aggregates.specs.Keys.{index_at, value_at}
use Rattle.aggregates.specs.Made.{kind_of}
use Rattle.aggregates.specs.Objects.{index_in, value_in}
use Rattle.aggregates.specs.declared.object.ObjectKind.{ObjectKind}
use Rattle.aggregates.specs.declared.object.ObjectKind.TheVariants as kind
use Rattle.operations.specs.Elements.{HoldsAt, entry_name, key_value}
use Rattle.world.specs.Held.{WorldView, world_of}
use Rattle.values.specs.Values.{value_of}
use Rattle.values.specs.declared.value.Value.{Value}
use Rattle.operations.proofs.Naming.{in_table}
use Rattle.operations.proofs.Objects.{entry_got}
use Rattle.operations.proofs.Placed.{entry_fetched, fetched_by, key_indexed, keyed}

unmapped : (o : Option ℕ) → option_map suc o ≡ None → o ≡ None
unmapped None h = refl
unmapped (Some i) h = absurd (cc)

-- a key without an entry has no value
no_value : (key : Key) (es : List (Entry Value)) → index_at key es ≡ None → value_at key es ≡ None
no_value key [] h = refl
no_value key (e ∷ es) h = go (same_key e.key key) (no_value key es) h
  where
    go : (b : Bool) → (index_at key es ≡ None → value_at key es ≡ None) → (if b then Some 0 else option_map suc (index_at key es)) ≡ None → (if b then Some e.value else value_at key es) ≡ None
    go true rest q = absurd (cc)
    go false rest q = rest (unmapped (index_at key es) q)

absent_value : (key : Key) (o : Option (Object Value)) → index_in key o ≡ None → value_in key o ≡ None
absent_value key None h = refl
absent_value key (Some (ArrayOf bs vs)) h = refl
absent_value key (Some (TableOf es)) h = no_value key es h
absent_value key (Some (RecordOf t fs vs)) h = refl

module _ (h : WorldView) (os : List (Object Value)) (same : os ≡ h.objects) (k : ℕ) (key : Key) where
  -- null, for a key without an entry
  pub null_held : (kd : Option ObjectKind) → kd ≡ option_map kind_of (slice_get os k) → kd ≡ Some kind.Table → index_in key (slice_get h.objects k) ≡ None → HoldsAt (Obj k) (key_value key) (Str []) h
  null_held kd by table none =
      let here : index_in key (slice_get os k) ≡ None = ap (λ xs. index_in key (slice_get xs k)) same ∙ none in
      let got : Option (Bor Value) = None in (
        entry_name k key,
        λ io. (
          in_table h os io k (key_value key ∷ []) same kd by table ∙ keyed k key (world_of h io),
          fetched_by k key (world_of h io) ∙ entry_got h os io k key kd got (Str []) same by table (sym (absent_value key (slice_get os k) here)) refl,
        ),
      )

  -- the value of its entry
  pub entry_held : (i : ℕ) (v : Value) → index_in key (slice_get h.objects k) ≡ Some i → ((y : Key) → index_in y (slice_get os k) ≡ Some i → Some v ≡ value_in y (slice_get os k)) → HoldsAt (Obj k) (key_value key) (value_of v) h
  entry_held i v at got =
      let there = key_indexed h os same k key i (ap (λ xs. index_in key (slice_get xs k)) same ∙ at) in
      (there.0, λ io. (there.2 io, entry_fetched h os same k i there.0 v there.1 got io))

-- what holds of each value there is holds of it in other words
pub there_then : (r : Option (Option (Bor Value))) (P Q : Bor Value → Type 0) → ((v : Bor Value) → P v → Q v) → IfSome r (λ held. IfSome held P) → IfSome r (λ held. IfSome held Q)
there_then None P Q f p = tt
there_then (Some None) P Q f p = tt
there_then (Some (Some v)) P Q f p = f v p
