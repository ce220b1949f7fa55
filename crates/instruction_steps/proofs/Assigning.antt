-- What an assignment comes to doesn't depend on what units hold.
use Rattle.std.proofs.Common.{◌≡◌, ◌<◌, ◌≤◌, ℕ, suc, List, [], ◌∷◌, ◌++◌, length, get_or, drop, drop-cons, Bool, true, false, Option, Some, None, Result, Ok, Err, refl, sym, ap, subst, ◌∙◌, if◌then◌else◌}
use Rattle.std.specs.Prelude.{slice_get}
use Rattle.std.specs.Result.{IsErrAnd}
use Rattle.std.proofs.lemmas.List.{drop_all}
use Rattle.model.specs.declared.run.Stop.TheVariants as stop
use Rattle.model.specs.Deck.Trees.{Bytes}
use Rattle.model.specs.Deck.Target.{Name, Variable, Element, IntegerKey, StringKey}
use Rattle.model.specs.Language.Conversions.{Conv, Got, Bad, Op, Gives, Refuses, Faults, then_op, to_text}
use Rattle.model.specs.Language.Io.{Io}
use Rattle.model.specs.Language.Keywords.{is_zero}
use Rattle.model.specs.Language.Operators.{assign_all, assign_op, print_text, put_object, put_objects, with_element, with_item, with_value_for, write_var}
use Rattle.model.specs.Language.Values.{IntegerAt, Object, Str, StringAt, keys_of, set_io, set_var}
use Rattle.model.specs.Machine.Steps.{MVal, MW}
use Rattle.match_machine.specs.View.{pending_of}
use Rattle.backtrack.specs.declared.assignment.Assignment.{Assignment}
use Rattle.pattern_compiler.specs.View.{name_of}
use Rattle.unit_io.specs.Service.{OfAny, OfSome, OfThese, Served, ServedAll}
use Rattle.unit_io.specs.declared.units.Units.{Ghosts as Units}
use Rattle.unit_io.proofs.Serving.{told_on}
use Rattle.values.specs.Answers.{AnswersAs, stopped_by}
use Rattle.world.specs.Held.{WorldView, world_of}
use Rattle.values.specs.declared.fault.Fault.{Fault}
use Rattle.values.specs.declared.fault.Fault.TheVariants as fault

-- what an operation comes to, with units that hold something else
abbrev with_units : Io → Op MW (record {}) → Op MW (record {})
with_units io (Gives a w) = Gives a (set_io io w)
with_units io (Refuses w) = Refuses (set_io io w)
with_units io (Faults e w) = Faults e (set_io io w)

print_any : (u : ℕ) (c : Conv Bytes) (w : MW) (io : Io) → (io' : Io) × (print_text u c (set_io io w) ≡ with_units io' (print_text u c w))
print_any u (Got s) w io = (record io { printed = io.printed ++ record { unit = u; bytes = s } ∷ [] }, refl)
print_any u (Bad e) w io = (io, refl)

write_if : (b : Bool) (u : ℕ) (c : Conv Bytes) (w : MW) (io : Io)
    → (io' : Io) × ((if b then Gives (record {}) (set_io io w) else print_text u c (set_io io w)) ≡ with_units io' (if b then Gives (record {}) w else print_text u c w))
write_if true u c w io = (io, refl)
write_if false u c w io = print_any u c w io

write_any : (o : Option ℕ) (v : MVal) (w : MW) (io : Io) → (io' : Io) × (write_var o v (set_io io w) ≡ with_units io' (write_var o v w))
write_any None v w io = (io, refl)
write_any (Some u) v w io = write_if (is_zero (keys_of w).output) u (to_text v) w io

put_objects_any : (o : Option (List (Object MVal))) (w : MW) (io : Io) → (io' : Io) × (put_objects o (set_io io w) ≡ with_units io' (put_objects o w))
put_objects_any None w io = (io, refl)
put_objects_any (Some os) w io = (io, refl)

put_any : (k : ℕ) (o : Option (Object MVal)) (w : MW) (io : Io) → (io' : Io) × (put_object k o (set_io io w) ≡ with_units io' (put_object k o w))
put_any k None w io = (io, refl)
put_any k (Some o) w io = put_objects_any (with_item k o w.objects) w io

assign_any : (x : Name) (v : MVal) (w : MW) (io : Io) → (io' : Io) × (assign_op x v (set_io io w) ≡ with_units io' (assign_op x v w))
assign_any (Variable x) v w io = write_any (w.plain.writes x) v (set_var x v w) io
assign_any (Element k i) v w io = put_any k (with_element i v (slice_get w.objects k)) w io
assign_any (IntegerKey k z) v w io = put_any k (with_value_for (IntegerAt z) v (slice_get w.objects k)) w io
assign_any (StringKey k s) v w io = put_any k (with_value_for (StringAt s) v (slice_get w.objects k)) w io

these : (x : Name) (v : MVal) (h new : WorldView) (r : Result (record {}) Fault) (a b : Io) → AnswersAs r (world_of new b) (assign_op x v (world_of h a)) → (io : Io)
    → (io' : Io) × AnswersAs r (world_of new io') (assign_op x v (world_of h io))
these x v h new (Ok u) a b is io = let n = assign_any x v (world_of h a) io in (n.0, n.1 ∙ ap (with_units n.0) is)
these x v h new (Err (fault.Error e)) a b is io = let n = assign_any x v (world_of h a) io in (n.0, n.1 ∙ ap (with_units n.0) is)
these x v h new (Err (fault.Stop s)) a b is io = (io, tt)

-- so one that came to something with some units comes to it with any
pub assigned_any : (x : Name) (v : MVal) (h new : WorldView) (r : Result (record {}) Fault) → OfSome (λ io io'. AnswersAs r (world_of new io') (assign_op x v (world_of h io))) → (io : Io)
    → (io' : Io) × AnswersAs r (world_of new io') (assign_op x v (world_of h io))
assigned_any x v h new r (OfAny f) io = (io, f io)
assigned_any x v h new r (OfThese a b is) io = these x v h new r a b is io

-- ---- the assignments of a match, one after the other

-- where one is refused
pub stopped_rest : (xs : List Assignment) (i : ℕ) (x : Assignment) (v : MVal) (f : Fault) (before now after : MW) → i < length xs → x ≡ get_or xs i x → v ≡ Str x.value
    → assign_all (pending_of (drop i xs)) now ≡ assign_all (pending_of xs) before → AnswersAs (Err f) after (assign_op (name_of x.name) v now) → AnswersAs (Err f) after (assign_all (pending_of xs) before)
stopped_rest xs i x v (fault.Stop s) before now after lt is value all one = tt
stopped_rest xs i x v (fault.Error e) before now after lt is value all one =
    let k : record {} → MW → Op MW (record {}) = λ _ w. assign_all (pending_of (drop (suc i) xs)) w in
    let split : drop i xs ≡ x ∷ drop (suc i) xs = drop-cons xs i x lt ∙ ap (λ y. y ∷ drop (suc i) xs) (sym is) in
    sym all ∙ ap (λ ys. assign_all (pending_of ys) now) split ∙ ap (λ u. then_op (assign_op (name_of x.name) u now) k) (sym value) ∙ ap (λ o. then_op o k) one

-- when none is left
pub none_left : (xs : List Assignment) (i : ℕ) (before now : MW) → length xs ≤ i → assign_all (pending_of (drop i xs)) now ≡ assign_all (pending_of xs) before → assign_all (pending_of xs) before ≡ Gives (record {}) now
none_left xs i before now le all = sym all ∙ ap (λ ys. assign_all (pending_of ys) now) (drop_all i xs le)

-- what a `?` passes on
pub residual_served : {U : Type 0} {units : Units U} {a b : U} (result : Result (Unit {0}) Fault) (f : Fault) (P : Result (Unit {0}) Fault → Io → Io → Type 0) → IsErrAnd result (λ x. x ≡ f)
    → Served units (stopped_by {A = Unit {0}} (Err f)) a b (P (Err f)) → Served units (stopped_by result) a b (P result)
residual_served (Ok u) f P e s = absurd e
residual_served {units = units} {a = a} {b = b} (Err x) f P e s = subst (λ y. Served units (stopped_by {A = Unit {0}} (Err y)) a b (P (Err y))) (sym e) s

-- before the first of them that would take memory
pub lacking_served : {U : Type 0} {units : Units U} {a b : U} {P : Io → Io → Type 0} → ServedAll units None a b P → Served units (Some stop.NoMemory) a b (λ io io'. Unit {0})
lacking_served s = record { told = told_on _ _ _ _ (λ io io' h. tt) s.told; some = OfAny (λ io. tt); counts = s.counts; sound = s.sound }
