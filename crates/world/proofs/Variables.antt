-- A world whose variables were changed at one name.
use Rattle.std.proofs.Common.{◌≡◌, ℕ, zero, suc, List, [], ◌∷◌, ◌++◌, ◌+◌, ◌<◌, arith, length, take, map, Bool, true, false, cond, Option, Some, None, option_map, position, Result, Ok, Err, refl, sym, ap, subst, ◌∙◌, is_some, bytes_eq, slice_get, get_or}
use Rattle.std.specs.Prelude.{IfSome, OnOk, if◌then◌else◌}
use Rattle.std.specs.List.{IsDistinct}
use Rattle.std.proofs.lemmas.Slice.Eq.{bytes_eq-Decides}
use Rattle.std.proofs.lemmas.List.{length-map, take_more}
use Rattle.std.proofs.lemmas.List.Quantifiers.{position-Some}
use Rattle.std.proofs.lemmas.Map.Entries.{lookup_from_place}
use Rattle.std.proofs.lemmas.Option.{slice_get-map, slice_get-get_or}
use Rattle.std.specs.Map.{keys_of, values_of}
use Rattle.std.specs.Cmp.Lexicographic.{nat_list_eq_equiv}
use Rattle.indexmap.specs.IndexMap.{IndexMap, IsUnique, insert_entry, set_value_at, with_value_at}
use Rattle.indexmap.proofs.CallerLemmas.{keys-with_value_at, updates-with_value_at}
use Rattle.indexmap.proofs.MapLemmas.{absent_from_lookup, insert_entry-absent}
use Rattle.model.specs.declared.image.Level.{Level}
use Rattle.model.specs.Deck.Trees.{Bytes}
use Rattle.model.specs.Language.Io.{Io}
use Rattle.model.specs.Language.Keywords.{Keys}
use Rattle.model.specs.Language.Values.{Object, Str, set_var, set_plain}
use Rattle.model.specs.Language.Primitives.{set_reads, set_writes}
use Rattle.model.specs.Language.Conversions.{Gives}
use Rattle.model.specs.Language.Operators.{assign_op, fetch_op, fetch_var, write_var}
use Rattle.model.specs.Deck.Target as target
use Rattle.model.specs.Machine.Steps.{MVal}
use Rattle.values.specs.Values.{value_of}
use Rattle.values.specs.Functions.{Functions, functions_in}
use Rattle.world.specs.Objects.{object_map}
use Rattle.values.specs.declared.value.Value.{Value}
use Rattle.values.specs.declared.value.Value.TheVariants.{String}
use Rattle.world.specs.Held.{AreNamed, WorldView, Holds, IsPlain, IsSilent, StandsAs, StandsIn, StaySilent, variable_at, name_at, value_in, input_in, output_in, world_of}
use Rattle.values.specs.declared.variable.Variable.{Variable}

-- the variable of one name is this, and all others stay
abbrev pub Puts : (old new : List (Bytes × Variable)) → Bytes → Variable → Type 0
Puts old new x v = (y : Bytes) → variable_at y new ≡ cond (bytes_eq x y) (Some v) (variable_at y old)

value_by : (b : Bool) (v : Variable) (o : Option Variable) → value_in (cond b (Some v) o) ≡ (if b then value_of v.value else value_in o)
value_by true v o = refl
value_by false v o = refl

-- what stays at that name stays at every name
stays : {A : Type 0} (f : Option Variable → A) (old new : List (Bytes × Variable)) (x : Bytes) (v : Variable) → Puts old new x v → f (Some v) ≡ f (variable_at x old) → (y : Bytes) → f (variable_at y new) ≡ f (variable_at y old)
stays {A} f old new x v h same y = ap f (h y) ∙ go (bytes_eq x y) refl
  where
    go : (b : Bool) → bytes_eq x y ≡ b → f (cond b (Some v) (variable_at y old)) ≡ f (variable_at y old)
    go true q = same ∙ ap (λ z. f (variable_at z old)) ((bytes_eq-Decides x y).0 q)
    go false q = refl

pub puts_var : (old new : List (Bytes × Variable)) (os : List (Object Value)) (fs : Functions) (ks : Keys) (lv : Level) (ns : List Bytes) (x : Bytes) (v : Variable) → Puts old new x v → v.input ≡ input_in (variable_at x old) → v.output ≡ output_in (variable_at x old)
    → (io : Io) → world_of (record { variables = new; objects = os; functions = fs; keys = ks; level = lv; names = ns }) io ≡ set_var x (value_of v.value) (world_of (record { variables = old; objects = os; functions = fs; keys = ks; level = lv; names = ns }) io)
puts_var old new os fs ks lv ns x v h reads writes io = λ i. record {
  vars = λ y. (ap value_in (h y) ∙ value_by (bytes_eq x y) v (variable_at y old)) i;
  objects = map (object_map value_of) os;
  plain = record {
    level = lv;
    functions = functions_in fs;
    keys = ks;
    reads = λ y. stays input_in old new x v h reads y i;
    writes = λ y. stays output_in old new x v h writes y i;
  };
  io = io;
}

-- a variable that is there takes another value
pub put_there : (vs new : List (Bytes × Variable)) (os : List (Object Value)) (fs : Functions) (ks : Keys) (lv : Level) (ns : List Bytes) (held : WorldView) (x : Bytes) (old v : Variable) (value : Value) → record { variables = vs; objects = os; functions = fs; keys = ks; level = lv; names = ns } ≡ held → v ≡ record old { value = value } → variable_at x vs ≡ Some old → Puts vs new x v
    → (io : Io) → world_of (record { variables = new; objects = os; functions = fs; keys = ks; level = lv; names = ns }) io ≡ set_var x (value_of value) (world_of held io)
put_there vs new os fs ks lv ns held x old v value is e at h io =
    puts_var vs new os fs ks lv ns x v h (ap (λ z. z.input) e ∙ sym (ap input_in at)) (ap (λ z. z.output) e ∙ sym (ap output_in at)) io
    ∙ ap (λ z. set_var x (value_of z.value) (world_of (record { variables = vs; objects = os; functions = fs; keys = ks; level = lv; names = ns }) io)) e
    ∙ ap (λ z. set_var x (value_of value) (world_of z io)) is

-- a variable that isn't there is put there
pub put_new : (vs new : List (Bytes × Variable)) (os : List (Object Value)) (fs : Functions) (ks : Keys) (lv : Level) (ns : List Bytes) (held : WorldView) (x : Bytes) (value : Value) → record { variables = vs; objects = os; functions = fs; keys = ks; level = lv; names = ns } ≡ held → variable_at x vs ≡ None → Puts vs new x (record { value = value; input = None; output = None })
    → (io : Io) → world_of (record { variables = new; objects = os; functions = fs; keys = ks; level = lv; names = ns }) io ≡ set_var x (value_of value) (world_of held io)
put_new vs new os fs ks lv ns held x value is at h io =
    puts_var vs new os fs ks lv ns x (record { value = value; input = None; output = None }) h (sym (ap input_in at)) (sym (ap output_in at)) io
    ∙ ap (λ z. set_var x (value_of value) (world_of z io)) is

-- ---- units

reads_by : (b : Bool) (v : Variable) (o : Option Variable) → input_in (cond b (Some v) o) ≡ (if b then v.input else input_in o)
reads_by true v o = refl
reads_by false v o = refl

writes_by : (b : Bool) (v : Variable) (o : Option Variable) → output_in (cond b (Some v) o) ≡ (if b then v.output else output_in o)
writes_by true v o = refl
writes_by false v o = refl

pub puts_units : (old new : List (Bytes × Variable)) (os : List (Object Value)) (fs : Functions) (ks : Keys) (lv : Level) (ns : List Bytes) (x : Bytes) (v : Variable) → Puts old new x v → value_of v.value ≡ value_in (variable_at x old)
    → (io : Io) → world_of (record { variables = new; objects = os; functions = fs; keys = ks; level = lv; names = ns }) io ≡ set_writes x v.output (set_reads x v.input (world_of (record { variables = old; objects = os; functions = fs; keys = ks; level = lv; names = ns }) io))
puts_units old new os fs ks lv ns x v h same io = λ i. record {
  vars = λ y. stays value_in old new x v h same y i;
  objects = map (object_map value_of) os;
  plain = record {
    level = lv;
    functions = functions_in fs;
    keys = ks;
    reads = λ y. (ap input_in (h y) ∙ reads_by (bytes_eq x y) v (variable_at y old)) i;
    writes = λ y. (ap output_in (h y) ∙ writes_by (bytes_eq x y) v (variable_at y old)) i;
  };
  io = io;
}

-- a variable that is there takes other units
pub units_there : (vs new : List (Bytes × Variable)) (os : List (Object Value)) (fs : Functions) (ks : Keys) (lv : Level) (ns : List Bytes) (held : WorldView) (x : Bytes) (old v : Variable) (input output : Option ℕ) → record { variables = vs; objects = os; functions = fs; keys = ks; level = lv; names = ns } ≡ held
    → v ≡ record old { input = input; output = output } → variable_at x vs ≡ Some old → Puts vs new x v
    → (io : Io) → world_of (record { variables = new; objects = os; functions = fs; keys = ks; level = lv; names = ns }) io ≡ set_writes x output (set_reads x input (world_of held io))
units_there vs new os fs ks lv ns held x old v input output is e at h io =
    puts_units vs new os fs ks lv ns x v h (ap (λ z. value_of z.value) e ∙ sym (ap value_in at)) io
    ∙ ap (λ z. set_writes x z.output (set_reads x z.input (world_of (record { variables = vs; objects = os; functions = fs; keys = ks; level = lv; names = ns }) io))) e
    ∙ ap (λ z. set_writes x output (set_reads x input (world_of z io))) is

-- a variable that isn't there is put there, with units
pub units_new : (vs new : List (Bytes × Variable)) (os : List (Object Value)) (fs : Functions) (ks : Keys) (lv : Level) (ns : List Bytes) (held : WorldView) (x : Bytes) (v : Variable) (input output : Option ℕ) → record { variables = vs; objects = os; functions = fs; keys = ks; level = lv; names = ns } ≡ held
    → v ≡ record { value = String []; input = input; output = output } → variable_at x vs ≡ None → Puts vs new x v
    → (io : Io) → world_of (record { variables = new; objects = os; functions = fs; keys = ks; level = lv; names = ns }) io ≡ set_writes x output (set_reads x input (world_of held io))
units_new vs new os fs ks lv ns held x v input output is e at h io =
    puts_units vs new os fs ks lv ns x v h (ap (λ z. value_of z.value) e ∙ sym (ap value_in at)) io
    ∙ ap (λ z. set_writes x z.output (set_reads x z.input (world_of (record { variables = vs; objects = os; functions = fs; keys = ks; level = lv; names = ns }) io))) e
    ∙ ap (λ z. set_writes x output (set_reads x input (world_of z io))) is

-- the same at one name is the same everywhere
same_at : {A : Type 0} (f : Bytes → A) (x y : Bytes) → (if bytes_eq x y then f x else f y) ≡ f y
same_at f x y = go (bytes_eq x y) refl
  where
    go : (b : Bool) → bytes_eq x y ≡ b → (if b then f x else f y) ≡ f y
    go true q = ap f ((bytes_eq-Decides x y).0 q)
    go false q = refl

output_stays : (h : WorldView) (x : Bytes) (u : Option ℕ) (io : Io) → set_writes x (output_in (variable_at x h.variables)) (set_reads x u (world_of h io)) ≡ set_reads x u (world_of h io)
output_stays h x u io = λ i. set_plain (record (set_reads x u (world_of h io)).plain { writes = λ y. same_at (λ z. output_in (variable_at z h.variables)) x y i }) (world_of h io)

input_stays : (h : WorldView) (x : Bytes) (u : Option ℕ) (io : Io) → set_writes x u (set_reads x (input_in (variable_at x h.variables)) (world_of h io)) ≡ set_writes x u (world_of h io)
input_stays h x u io = λ i. set_writes x u (set_plain (record (world_of h io).plain { reads = λ y. same_at (λ z. input_in (variable_at z h.variables)) x y i }) (world_of h io))

-- a unit is read from, and the other stays
pub reads_set : {A E : Type 0} (h new : WorldView) (x : Bytes) (u : ℕ) (output : Option ℕ) (r : Result A E) → output ≡ output_in (variable_at x h.variables)
    → OnOk r ((io : Io) → world_of new io ≡ set_writes x output (set_reads x (Some u) (world_of h io))) → OnOk r ((io : Io) → world_of new io ≡ set_reads x (Some u) (world_of h io))
reads_set h new x u output (Ok a) is f = λ io. f io ∙ ap (λ z. set_writes x z (set_reads x (Some u) (world_of h io))) is ∙ output_stays h x (Some u) io
reads_set h new x u output (Err e) is f = tt

pub writes_set : {A E : Type 0} (h new : WorldView) (x : Bytes) (u : ℕ) (input : Option ℕ) (r : Result A E) → input ≡ input_in (variable_at x h.variables)
    → OnOk r ((io : Io) → world_of new io ≡ set_writes x (Some u) (set_reads x input (world_of h io))) → OnOk r ((io : Io) → world_of new io ≡ set_writes x (Some u) (world_of h io))
writes_set h new x u input (Ok a) is f = λ io. f io ∙ ap (λ z. set_writes x (Some u) (set_reads x z (world_of h io))) is ∙ input_stays h x (Some u) io
writes_set h new x u input (Err e) is f = tt

-- a variable that isn't there is put there with a null value
pub put_unseen : (vs new : List (Bytes × Variable)) (os : List (Object Value)) (fs : Functions) (ks : Keys) (lv : Level) (ns : List Bytes) (held : WorldView) (x : Bytes) (value : Value) → record { variables = vs; objects = os; functions = fs; keys = ks; level = lv; names = ns } ≡ held → variable_at x vs ≡ None → value_of value ≡ Str [] → Puts vs new x (record { value = value; input = None; output = None })
    → (io : Io) → world_of (record { variables = new; objects = os; functions = fs; keys = ks; level = lv; names = ns }) io ≡ world_of held io
put_unseen vs new os fs ks lv ns held x value is at null h io =
    let v : Variable = record { value = value; input = None; output = None } in
    let same : world_of (record { variables = new; objects = os; functions = fs; keys = ks; level = lv; names = ns }) io ≡ world_of (record { variables = vs; objects = os; functions = fs; keys = ks; level = lv; names = ns }) io = λ i. record {
      vars = λ y. stays value_in vs new x v h (null ∙ ap value_in (sym at)) y i;
      objects = map (object_map value_of) os;
      plain = record {
        level = lv;
        functions = functions_in fs;
        keys = ks;
        reads = λ y. stays input_in vs new x v h (ap input_in (sym at)) y i;
        writes = λ y. stays output_in vs new x v h (ap output_in (sym at)) y i;
      };
      io = io;
    } in
    same ∙ ap (λ z. world_of z io) is

-- ---- slots

last_name : (vs : List (Bytes × Variable)) (x : Bytes) (v : Variable) → name_at (length vs) (vs ++ (x, v) ∷ []) ≡ Some x
last_name [] x v = refl
last_name (e ∷ vs) x v = last_name vs x v

none_there : (o : Option Variable) → is_some o ≡ false → o ≡ None
none_there None e = refl
none_there (Some v) e = absurd (cc)

-- a variable that isn't there is put in the next slot
pub put_last : (vs held new : List (Bytes × Variable)) (x key : Bytes) (v : Variable) (n : ℕ) → vs ≡ held → is_some (variable_at x held) ≡ false → key ≡ x → new ≡ insert_entry bytes_eq vs key v → n ≡ length vs → name_at n new ≡ Some x
put_last vs held new x key v n same absent is put at =
    let none : variable_at key vs ≡ None = ap (λ k. variable_at k vs) is ∙ ap (variable_at x) same ∙ none_there (variable_at x held) absent in
    ap (name_at n) (put ∙ insert_entry-absent bytes_eq key v vs (absent_from_lookup (bytes_eq key) vs none))
    ∙ ap (λ k. name_at k (vs ++ (key, v) ∷ [])) at
    ∙ last_name vs key v
    ∙ ap Some is

pair_at : (o : Option (Bytes × Variable)) (x : Bytes) (w : Option Variable) → option_map (λ e. e.0) o ≡ Some x → option_map (λ e. e.1) o ≡ w → (v : Variable) × (o ≡ Some (x, v)) × (w ≡ Some v)
pair_at None x w name there = absurd (cc)
pair_at (Some e) x w name there = let same : e.0 ≡ x = cc in (e.1, ap (λ z. Some (z, e.1)) same, sym there)

-- the variable in a slot, where its name is the one that is looked for
pub stands_there : (vs : List (Bytes × Variable)) (k : ℕ) (x y : Bytes) (v : Variable) → Some (y, v) ≡ slice_get vs k → variable_at y vs ≡ Some v → bytes_eq y x ≡ true → StandsIn x k vs
stands_there vs k x y v at found e =
    let same : y ≡ x = (bytes_eq-Decides y x).0 e in
    (v, sym at ∙ ap (λ z. Some (z, v)) same, ap (λ z. variable_at z vs) (sym same) ∙ found)

-- the variable that a look-up finds
pub stands_found : (vs : List (Bytes × Variable)) (x : Bytes) (r : Option ℕ) → r ≡ position (bytes_eq x) (keys_of vs) → IfSome r (λ k. slice_get (values_of vs) k ≡ variable_at x vs) → IfSome r (λ k. StandsIn x k vs)
stands_found vs x None place at = tt
stands_found vs x (Some k) place at =
    let found = position-Some (bytes_eq x) (keys_of vs) k [] (sym place) in
    let same : x ≡ get_or (keys_of vs) k [] = (bytes_eq-Decides x (get_or (keys_of vs) k [])).0 found.1 in
    pair_at (slice_get vs k) x (variable_at x vs)
    (sym (slice_get-map (λ e. e.0) vs k) ∙ slice_get-get_or (keys_of vs) k [] found.0 ∙ ap Some (sym same))
    (sym (slice_get-map (λ e. e.1) vs k) ∙ at)

-- the variable that stands in a slot is the one of that name
pub held_there : (vs : List (Bytes × Variable)) (x : Bytes) (k : ℕ) (v : Variable) → StandsIn x k vs → Some v ≡ slice_get (values_of vs) k → variable_at x vs ≡ Some v
held_there vs x k v (w, is, found) there = found ∙ sym (slice_get-map (λ e. e.1) vs k ∙ ap (λ o. option_map (λ e. e.1) o) is) ∙ sym there

-- the variable in a slot takes another value
pub put_in_slot : {S : Type 0} (m : IndexMap Bytes Variable S) (os : List (Object Value)) (fs : Functions) (ks : Keys) (lv : Level) (ns : List Bytes) (held : WorldView) (x : Bytes) (k : ℕ) (old v : Variable) (value : Value) → record { variables = m.entries; objects = os; functions = fs; keys = ks; level = lv; names = ns } ≡ held → IsUnique bytes_eq m → StandsIn x k m.entries → Some old ≡ slice_get (values_of m.entries) k → v ≡ record old { value = value }
    → (io : Io) → world_of (record { variables = (with_value_at m k v).entries; objects = os; functions = fs; keys = ks; level = lv; names = ns }) io ≡ set_var x (value_of value) (world_of held io)
put_in_slot m os fs ks lv ns held x k old v value is unique stands there e io =
    put_there m.entries (with_value_at m k v).entries os fs ks lv ns held x old v value is e (held_there m.entries x k old stands there)
    ((updates-with_value_at m k v nat_list_eq_equiv unique x stands.0 stands.1).0) io

-- and then every variable stands where it stood, and writes where it wrote
pub stands_still : {S : Type 0} (m : IndexMap Bytes Variable S) (x y : Bytes) (k at : ℕ) (old v : Variable) (value : Value) → IsUnique bytes_eq m → StandsIn x k m.entries → Some old ≡ slice_get (values_of m.entries) k → v ≡ record old { value = value }
    → StandsIn y at m.entries → output_in (variable_at y m.entries) ≡ None → StandsIn y at (with_value_at m k v).entries × (output_in (variable_at y (with_value_at m k v).entries) ≡ None)
stands_still m x y k at old v value unique stands there e other none =
    let new = with_value_at m k v in
    let puts : Puts m.entries new.entries x v = (updates-with_value_at m k v nat_list_eq_equiv unique x stands.0 stands.1).0 in
    let same : keys_of new.entries ≡ keys_of m.entries = keys-with_value_at m k v in
    let named : option_map (λ n. n.0) (slice_get new.entries at) ≡ Some y =
    sym (slice_get-map (λ n. n.0) new.entries at) ∙ ap (λ l. slice_get l at) same ∙ slice_get-map (λ n. n.0) m.entries at ∙ ap (option_map (λ n. n.0)) other.1 in
    let pair = pair_at (slice_get new.entries at) y (option_map (λ n. n.1) (slice_get new.entries at)) named refl in
    let found = lookup_from_place nat_list_eq_equiv new.entries at y pair.0 (subst (IsDistinct bytes_eq) (sym same) unique) pair.1 in
    let writes : output_in (Some v) ≡ output_in (variable_at x m.entries) = ap (λ z. z.output) e ∙ sym (ap output_in (held_there m.entries x k old stands there)) in
    ((pair.0, pair.1, found), stays output_in m.entries new.entries x v puts writes y ∙ none)

-- the same of what is named
pub plain_still : {S : Type 0} (m : IndexMap Bytes Variable S) (h new : WorldView) (n other : target.Name) (k at : ℕ) (old v : Variable) (value : Value) → m.entries ≡ h.variables → new.variables ≡ (with_value_at m k v).entries → IsUnique bytes_eq m → Some old ≡ slice_get (values_of m.entries) k → v ≡ record old { value = value }
    → IsPlain n k h → IsPlain other at h → IsPlain other at new
plain_still m h new (target.Variable x) (target.Variable y) k at old v value is made unique there e plain next =
    let before = sym is in
    subst (λ l. StandsIn y at l × (output_in (variable_at y l) ≡ None)) (sym made)
    (stands_still m x y k at old v value unique (subst (StandsIn x k) before plain.0) there e (subst (StandsIn y at) before next.0) (subst (λ l. output_in (variable_at y l) ≡ None) before next.1))
plain_still m h new (target.Variable x) (target.Element a b) k at old v value is made unique there e plain next = absurd next
plain_still m h new (target.Variable x) (target.IntegerKey a b) k at old v value is made unique there e plain next = absurd next
plain_still m h new (target.Variable x) (target.StringKey a b) k at old v value is made unique there e plain next = absurd next
plain_still m h new (target.Element a b) other k at old v value is made unique there e plain next = absurd plain
plain_still m h new (target.IntegerKey a b) other k at old v value is made unique there e plain next = absurd plain
plain_still m h new (target.StringKey a b) other k at old v value is made unique there e plain next = absurd plain

-- the variable in a slot has a name, by which it is found
named_there : (vs : List (Bytes × Variable)) (k : ℕ) (v : Variable) → Some v ≡ slice_get (values_of vs) k → IsDistinct bytes_eq (keys_of vs) → (x : Bytes) × StandsIn x k vs
named_there vs k v there unique = go (slice_get vs k) refl (sym (there ∙ slice_get-map (λ e. e.1) vs k))
  where
    go : (o : Option (Bytes × Variable)) → slice_get vs k ≡ o → option_map (λ e. e.1) o ≡ Some v → (x : Bytes) × StandsIn x k vs
    go None is e = absurd (cc)
    go (Some p) is e = (p.0, (p.1, is, lookup_from_place nat_list_eq_equiv vs k p.0 p.1 unique is))

-- and so does every variable that has no unit
pub silent_still : {S : Type 0} (m : IndexMap Bytes Variable S) (h new : WorldView) (k : ℕ) (old v : Variable) (value : Value) → m.entries ≡ h.variables → new.variables ≡ (with_value_at m k v).entries → IsUnique bytes_eq m → Some old ≡ slice_get (values_of m.entries) k → v ≡ record old { value = value }
    → StaySilent h new
silent_still m h new k old v value is made unique there e y at silent =
    let named = named_there m.entries k old there unique in
    let x = named.0 in
    let stands = named.1 in
    let before = sym is in
    let after = with_value_at m k v in
    let puts : Puts m.entries after.entries x v = (updates-with_value_at m k v nat_list_eq_equiv unique x stands.0 stands.1).0 in
    let reads : input_in (Some v) ≡ input_in (variable_at x m.entries) = ap (λ z. z.input) e ∙ sym (ap input_in (held_there m.entries x k old stands there)) in
    let still = stands_still m x y k at old v value unique stands there e (subst (StandsIn y at) before silent.0) (subst (λ l. output_in (variable_at y l) ≡ None) before silent.2) in
    let none = stays input_in m.entries after.entries x v puts reads y ∙ subst (λ l. input_in (variable_at y l) ≡ None) before silent.1 in
    subst (λ l. StandsIn y at l × (input_in (variable_at y l) ≡ None) × (output_in (variable_at y l) ≡ None)) (sym made) (still.0, none, still.1)

-- what a slot holds is the value of the variable there
pub holds_there : (h : WorldView) (vs : List (Bytes × Variable)) (k : ℕ) (old : Variable) (u : Value) → vs ≡ h.variables → Some old ≡ slice_get (values_of vs) k → Holds k u h → old.value ≡ u
holds_there h vs k old u e there (v, at, is) =
    let both : Some old ≡ Some v = there ∙ ap (λ l. slice_get (values_of l) k) e ∙ at in
    let same : old ≡ v = cc in
    ap (λ (x : Variable). x.value) same ∙ is

-- the same variable in its slot changes nothing
pub kept_at : (es : List (Bytes × Variable)) (k : ℕ) (v : Variable) → Some v ≡ slice_get (values_of es) k → set_value_at es k v ≡ es
kept_at [] k v there = refl
kept_at (e ∷ es) zero v there =
    let same : v ≡ e.1 = cc in
    ap (λ w. (e.0, w) ∷ es) same
kept_at (e ∷ es) (suc k) v there = ap (λ l. e ∷ l) (kept_at es k v there)

-- a variable in one slot changes no other
pub others_at : (es : List (Bytes × Variable)) (k at : ℕ) (w : Variable) → (at ≡ k → ⊥) → slice_get (values_of (set_value_at es k w)) at ≡ slice_get (values_of es) at
others_at [] k at w apart = refl
others_at (e ∷ es) zero zero w apart = absurd (apart refl)
others_at (e ∷ es) zero (suc at) w apart = refl
others_at (e ∷ es) (suc k) zero w apart = refl
others_at (e ∷ es) (suc k) (suc at) w apart = others_at es k at w (λ same. apart (ap suc same))

-- ---- variables without units

-- what is assigned to a variable that writes to none
pub assigned_plain : (h new : WorldView) (n : target.Name) (k : ℕ) (v : MVal) → IsPlain n k h → ((x : Bytes) → StandsIn x k h.variables → (io : Io) → world_of new io ≡ set_var x v (world_of h io))
    → (io : Io) → assign_op n v (world_of h io) ≡ Gives (record {}) (world_of new io)
assigned_plain h new (target.Variable x) k v plain set io = ap (λ u. write_var u v (set_var x v (world_of h io))) plain.1 ∙ ap (λ w. Gives (record {}) w) (sym (set x plain.0 io))
assigned_plain h new _ k v plain set io = absurd plain

-- what is fetched from a variable that has none, by what stands in its slot
pub fetched_silent : (h : WorldView) (x : Bytes) (k : ℕ) (v : Variable) → IsSilent x k h → slice_get (values_of h.variables) k ≡ Some v → (io : Io) → fetch_op (target.Variable x) (world_of h io) ≡ Gives (value_of v.value) (world_of h io)
fetched_silent h x k v silent there io =
    ap (λ u. fetch_var x u (world_of h io)) silent.1 ∙ ap (λ o. Gives (value_in o) (world_of h io)) (held_there h.variables x k v silent.0 (sym there))

-- ---- names that stay in their slots

-- another value leaves them
pub named_still : {S : Type 0} (m : IndexMap Bytes Variable S) (ns : List Bytes) (k : ℕ) (v : Variable) → AreNamed ns m.entries → AreNamed ns (with_value_at m k v).entries
named_still m ns k v named slot x at = ap (λ l. slice_get l slot) (keys-with_value_at m k v) ∙ named slot x at

-- where the keys stay, names do
pub named_same : (vs new : List (Bytes × Variable)) (ns : List Bytes) → keys_of new ≡ keys_of vs → AreNamed ns vs → AreNamed ns new
named_same vs new ns same named slot x at = ap (λ l. slice_get l slot) same ∙ named slot x at

name_inserted : (vs : List (Bytes × Variable)) (key : Bytes) (v : Variable) (slot : ℕ) (x : Bytes) → name_at slot vs ≡ Some x → name_at slot (insert_entry bytes_eq vs key v) ≡ Some x
name_inserted [] key v slot x at = absurd (cc)
name_inserted (e ∷ es) key v slot x at = go (bytes_eq key e.0) slot (λ k h. name_inserted es key v k x h) at
  where
    go : (b : Bool) (k : ℕ) → ((j : ℕ) → name_at j es ≡ Some x → name_at j (insert_entry bytes_eq es key v) ≡ Some x) → name_at k (e ∷ es) ≡ Some x → name_at k (if b then (e.0, v) ∷ es else e ∷ insert_entry bytes_eq es key v) ≡ Some x
    go true zero more h = h
    go true (suc k) more h = h
    go false zero more h = h
    go false (suc k) more h = more k h

-- and so does a variable that is put in
pub named_inserted : (vs new : List (Bytes × Variable)) (ns : List Bytes) (key : Bytes) (v : Variable) → new ≡ insert_entry bytes_eq vs key v → AreNamed ns vs → AreNamed ns new
named_inserted vs new ns key v put named slot x at = ap (name_at slot) put ∙ name_inserted vs key v slot x (named slot x at)

-- the variable in a slot that it keeps
name_within : (vs : List (Bytes × Variable)) (k : ℕ) (x : Bytes) → name_at k vs ≡ Some x → k < length vs
name_within [] k x at = absurd (cc)
name_within (e ∷ vs) zero x at = omega arith
name_within (e ∷ vs) (suc k) x at = omega (arith, name_within vs k x at)

pub named_within : (vs : List (Bytes × Variable)) (ns : List Bytes) (k : ℕ) → AreNamed ns vs → k < length ns → k < length vs
named_within vs ns k named within = name_within vs k (get_or ns k []) (named k (get_or ns k []) (slice_get-get_or ns k [] within))

pub named_stands : (vs : List (Bytes × Variable)) (k : ℕ) (x : Bytes) (v : Variable) → IsDistinct bytes_eq (keys_of vs) → name_at k vs ≡ Some x → Some v ≡ slice_get (values_of vs) k → StandsAs x k v vs
named_stands vs k x v unique named there = go (slice_get vs k) refl (sym (slice_get-map (λ e. e.0) vs k) ∙ named) (sym (slice_get-map (λ e. e.1) vs k) ∙ sym there)
  where
    go : (o : Option (Bytes × Variable)) → slice_get vs k ≡ o → option_map (λ e. e.0) o ≡ Some x → option_map (λ e. e.1) o ≡ Some v → StandsAs x k v vs
    go None is e f = absurd (cc)
    go (Some p) is e f =
        let name : p.0 ≡ x = cc in
        let value : p.1 ≡ v = cc in
        let at : slice_get vs k ≡ Some (x, v) = is ∙ (λ i. Some (name i, value i)) in
        (at, lookup_from_place nat_list_eq_equiv vs k x v unique at)

-- it is the one that is fetched
pub stands_fetched : (h : WorldView) (x : Bytes) (k : ℕ) (v : Variable) → StandsAs x k v h.variables → v.input ≡ None → (io : Io) → fetch_op (target.Variable x) (world_of h io) ≡ Gives (value_of v.value) (world_of h io)
stands_fetched h x k v stands none io =
    ap (λ u. fetch_var x u (world_of h io)) (ap input_in stands.1 ∙ none) ∙ ap (λ o. Gives (value_in o) (world_of h io)) stands.1

-- a turn of the loop that lists them
pub names_turn : (es : List (Bytes × Variable)) (k : ℕ) (x : Bytes) (v : Variable) (ns new : List Bytes) → ns ≡ take k (keys_of es) → Some (x, v) ≡ slice_get es k → new ≡ ns ++ x ∷ [] → new ≡ take (k + 1) (keys_of es)
names_turn es k x v ns new is there more =
    let name : name_at k es ≡ Some x = slice_get-map (λ e. e.0) es k ∙ ap (option_map (λ e. e.0)) (sym there) in
    let within : k < length (keys_of es) = omega (arith, name_within es k x name, length-map es (λ e. e.0)) in
    let both : Some (get_or (keys_of es) k []) ≡ Some x = sym (slice_get-get_or (keys_of es) k [] within) ∙ name in
    let same : get_or (keys_of es) k [] ≡ x = cc in
    more ∙ ap (λ l. l ++ x ∷ []) is ∙ ap (λ y. take k (keys_of es) ++ y ∷ []) (sym same) ∙ sym (take_more (keys_of es) k [] within)
