-- Records that are made, and the names of their fields.
use Rattle.std.proofs.Common.{◌≡◌, ℕ, zero, suc, List, [], ◌∷◌, ◌++◌, length, map, take, Option, Some, None, refl, sym, ap, ◌∙◌, arith}
use Rattle.std.specs.Prelude.{IfSome, slice_get, option_map}
use Rattle.std.proofs.lemmas.Option.{slice_get-map}
use Rattle.std.proofs.lemmas.List.{length-map, map-append, take-map}
use Rattle.model.specs.declared.image.Level.{Level}
use Rattle.model.specs.Deck.Target.{Element}
use Rattle.model.specs.Deck.Trees.{Bytes}
use Rattle.model.specs.Language.Io.{Io}
use Rattle.model.specs.Language.Values.{Field, Obj, Object, Str, ArrayOf, TableOf, RecordOf}
use Rattle.model.specs.Language.Conversions.{Gives, then_op}
use Rattle.model.specs.Language.Calls.{AValue, construct_op}
use Rattle.model.specs.Language.Keywords.{Keys}
use Rattle.model.specs.Language.Aggregates as model
use Rattle.model.specs.Language.Aggregates.{new_object, field_values, field_op, named_field}
use Rattle.model.specs.Machine.Steps.{MVal, MW}
use Rattle.heap.specs.Objects.{field_in}
use Rattle.values.specs.Arguments.{AreFilled, nulls}
use Rattle.values.specs.Values.{value_of}
use Rattle.operations.specs.Elements.{FieldNames}
use Rattle.world.specs.Objects.{object_map}
use Rattle.world.specs.Held.{WorldView, world_of}
use Rattle.values.specs.Functions.{Functions}
use Rattle.values.specs.declared.value.Value.{Value}
use Rattle.values.specs.declared.variable.Variable.{Variable}
use Rattle.operations.proofs.Made.{made}

-- ---- values of fields

nulled : (fs : List Bytes) (n : ℕ) → length (nulls n) ≡ length fs → nulls n ≡ field_values fs []
nulled [] zero e = refl
nulled [] (suc n) e = absurd (omega (arith, e))
nulled (f ∷ fs) zero e = absurd (omega (arith, e))
nulled (f ∷ fs) (suc n) e = ap (λ xs. Str [] ∷ xs) (nulled fs n (omega (arith, e)))

-- as many arguments as there are fields, and null for each that is absent
fitted : (fs : List Bytes) (vs : List MVal) (n : ℕ) → length (take (length fs) vs ++ nulls n) ≡ length fs → take (length fs) vs ++ nulls n ≡ field_values fs vs
fitted [] vs n e = nulled [] n e
fitted (f ∷ fs) [] n e = nulled (f ∷ fs) n e
fitted (f ∷ fs) (v ∷ vs) n e = ap (λ xs. v ∷ xs) (fitted fs vs n (omega (arith, e)))

-- the same of arguments that are held
pub held_fitted : (fs : List Bytes) (old cut new : List Value) → cut ≡ take (length fs) old → AreFilled (length fs) cut new → map value_of new ≡ field_values fs (map value_of old)
held_fitted fs old cut new is (vs, all, null, filled) =
    let same : map value_of new ≡ take (length fs) (map value_of old) ++ nulls (length vs) =
    ap (map value_of) all
    ∙ map-append value_of cut vs
    ∙ (λ i. map value_of (is i) ++ null i)
    ∙ ap (λ xs. xs ++ nulls (length vs)) (sym (take-map value_of (length fs) old)) in
    let n : length (take (length fs) (map value_of old) ++ nulls (length vs)) ≡ length fs = sym (ap length same) ∙ length-map new value_of ∙ filled in
    same ∙ fitted fs (map value_of old) (length vs) n

-- ---- records

module _ (vs : List (Bytes × Variable)) (os new : List (Object Value)) (fs : Functions) (ks : Keys) (lv : Level) (ns : List Bytes) (h : WorldView) (io : Io) where
  pub constructed : (t name : Bytes) (fields : List Bytes) (us : List Value) (args : List MVal) (n : ℕ) → record { variables = vs; objects = os; functions = fs; keys = ks; level = lv; names = ns } ≡ h
      → n ≡ length os → new ≡ os ++ RecordOf name fields us ∷ [] → name ≡ t → map value_of us ≡ field_values fields args
      → construct_op t fields args (world_of h io) ≡ Gives (AValue (Obj n)) (world_of (record { variables = vs; objects = new; functions = fs; keys = ks; level = lv; names = ns }) io)
  constructed t name fields us args n is number more named values =
      ap (λ o. then_op (new_object o (world_of h io)) (λ v w1. Gives (AValue v) w1)) (λ i. RecordOf (sym named i) fields (sym values i))
      ∙ ap (λ o. then_op o (λ v w1. Gives (AValue v) w1)) (made vs os new fs ks lv ns h io (RecordOf name fields us) n is number more)

-- ---- names of fields

field_seen : (f : Bytes) (k : ℕ) (o : Option (Object Value)) (w : MW) → model.field_in f k (option_map (object_map value_of) o) w ≡ named_field k (field_in f o) w
field_seen f k None w = refl
field_seen f k (Some (ArrayOf bs vs)) w = refl
field_seen f k (Some (TableOf es)) w = refl
field_seen f k (Some (RecordOf t fs vs)) w = refl

pub field_is : (h : WorldView) (os : List (Object Value)) (io : Io) (f : Bytes) (k : ℕ) (r : Option ℕ) → os ≡ h.objects → r ≡ field_in f (slice_get os k) → field_op f (Obj k) (world_of h io) ≡ named_field k r (world_of h io)
field_is h os io f k r same is =
    ap (λ o. model.field_in f k o (world_of h io)) (slice_get-map (object_map value_of) h.objects k ∙ ap (λ xs. option_map (object_map value_of) (slice_get xs k)) (sym same))
    ∙ field_seen f k (slice_get os k) (world_of h io)
    ∙ ap (λ x. named_field k x (world_of h io)) (sym is)

-- the place of the field whose function has the name in a slot
pub field_named : (h : WorldView) (os : List (Object Value)) (f : Bytes) (k slot : ℕ) (r : Option ℕ) → os ≡ h.objects → r ≡ field_in f (slice_get os k) → slice_get h.names slot ≡ Some f → ((io : Io) → (world_of h io).plain.functions f ≡ Some Field) → IfSome r (λ i. (io : Io) → FieldNames h.names slot (Obj k) (Element k i) (world_of h io))
field_named h os f k slot None same is named function = tt
field_named h os f k slot (Some i) same is named function = λ io. (f, named, function io, field_is h os io f k (Some i) same is)
