-- Fetching from units and assigning to them.
use Rattle.std.proofs.Common.{◌≡◌, ◌<◌, ◌≤◌, ℕ, ℤ, List, [], ◌∷◌, length, pos, Bool, true, false, T, leb→le, le→leb, int_le, Option, Some, None, Result, nat_eq, bytes_eq, refl, sym, ap, ◌∙◌, subst, arith, Ok, Err, ◌⊎◌, inl, inr}
use Rattle.std.specs.Prelude.{OnErr, OnOk, IsErrAnd, if◌then◌else◌}
use Rattle.std.proofs.lemmas.Result.{err_from_is_err_and}
use Rattle.std.proofs.lemmas.Slice.Eq.{bytes_eq-Decides}
use Rattle.model.specs.declared.run.ErrorCode.TheVariants as error
use Rattle.model.specs.declared.run.Stop.{Stop}
use Rattle.model.specs.Deck.Trees.{Bytes}
use Rattle.model.specs.Language.Io.{Io}
use Rattle.model.specs.Language.Told.{IfTold}
use Rattle.model.specs.Language.Units.{Reads, after_read, first_of, rest_of}
use Rattle.model.specs.Language.Keywords.{IsInteger, KeyValue, is_zero}
use Rattle.model.specs.Deck.Target.{Variable, IntegerKey}
use Rattle.model.specs.Language.Values.{Str, set_var, keys_of}
use Rattle.model.specs.Language.Conversions.{Op, Gives, Refuses, Faults, to_text}
use Rattle.model.specs.Language.Operators.{as_read, take_record, fetch_var, fetch_op, assign_op, write_var, print_text}
use Rattle.model.specs.Machine.Steps.{MVal, MW}
use Rattle.model.specs.Deck.Target as target
use Rattle.pattern_compiler.specs.View.{name_of}
use Rattle.pattern_compiler.specs.declared.instr.Name.{Name}
use Rattle.pattern_compiler.specs.declared.instr.Name.TheVariants as name
use Rattle.unit_io.specs.Service.{OfAny, OfSome, OfThese, Served}
use Rattle.unit_io.specs.declared.units.Units.{Ghosts as Units}
use Rattle.unit_io.specs.Ways.{Way}
use Rattle.unit_io.proofs.Serving.{served_on}
use Rattle.values.specs.Values.{value_of}
use Rattle.values.specs.Answers.{AnswersAs, AnswersOrFails, LeadsTo, done}
use Rattle.world.specs.Held.{WorldView, IsSet, IsSetOrKept, world_of, variable_at, value_in, input_in, output_in, taken}
use Rattle.values.specs.declared.fault.Fault.{Fault}
use Rattle.values.specs.declared.fault.Fault.TheVariants as fault
use Rattle.values.specs.declared.value.Value.{Value}
use Rattle.values.specs.declared.variable.Variable as var
use Rattle.operations.specs.Asking.{Prints, Takes, io_after}
use Rattle.operations.proofs.Asked.{prints_on, takes_on}
use Rattle.operations.proofs.Telling.{told_same, told_on, told_read, end_stays}

-- ---- a record as a value

no_longer : (n m : ℕ) → m < n → int_le (pos n) (pos m) ≡ false
no_longer n m lt = go (int_le (pos n) (pos m)) refl
  where
    go : (b : Bool) → int_le (pos n) (pos m) ≡ b → int_le (pos n) (pos m) ≡ false
    go true q = let le : n ≤ m = leb→le n m (subst T (sym q) tt) in absurd (omega (arith, lt, le))
    go false q = q

is_within : (n m : ℕ) → n ≤ m → int_le (pos n) (pos m) ≡ true
is_within n m le = go (int_le (pos n) (pos m)) refl
  where
    go : (b : Bool) → int_le (pos n) (pos m) ≡ b → int_le (pos n) (pos m) ≡ true
    go true q = q
    go false q = absurd (subst T q (le→leb n m le))

abbrev pub limit_of : KeyValue → Bytes → Bool
limit_of (IsInteger z) s = int_le (pos (length s)) z
limit_of _ s = false

-- the text s, as it is read
abbrev pub take_text : Bytes → Bytes → Bool → MW → Op MW MVal
take_text x s b w = if b then Gives (Str s) (set_var x (Str s) w) else Faults error.StringTooLong w

takes : (x line s : Bytes) (w : MW) (m : ℕ) (b : Bool) → s ≡ as_read line w → IsInteger (pos m) ≡ IsInteger (keys_of w).maxlngth → int_le (pos (length s)) (pos m) ≡ b → taken x line w ≡ take_text x s b w
takes x line s w m b is limit e =
    ap (λ t. take_text x t (int_le (pos (length t)) (keys_of w).maxlngth) w) (sym is)
    ∙ ap (λ k. take_text x s (limit_of k s) w) (sym limit)
    ∙ ap (λ c. take_text x s c w) e

pub too_long : (x line s : Bytes) (w : MW) (n m : ℕ) → s ≡ as_read line w → n ≡ length s → IsInteger (pos m) ≡ IsInteger (keys_of w).maxlngth → m < n → taken x line w ≡ Faults error.StringTooLong w
too_long x line s w n m is len limit lt = takes x line s w m false is limit (no_longer (length s) m (subst (λ k. m < k) len lt))

pub taken_as : (x line s t : Bytes) (w w' : MW) (n m : ℕ) → s ≡ as_read line w → t ≡ s → n ≡ length s → IsInteger (pos m) ≡ IsInteger (keys_of w).maxlngth → n ≤ m → w' ≡ set_var x (Str s) w → taken x line w ≡ Gives (Str t) w'
taken_as x line s t w w' n m is copy len limit le set =
    takes x line s w m true is limit (is_within (length s) m (subst (λ k. k ≤ m) len le))
    ∙ ap (λ z. Gives (Str s) z) (sym set) ∙ ap (λ z. Gives (Str z) w') (sym copy)

-- ---- reading

reads_one : (x : Bytes) (u : ℕ) (rows : List Bytes) (line : Bytes) (h : WorldView) (io : Io) → Some line ≡ first_of rows
    → take_record x u rows (world_of h io) ≡ taken x line (world_of h (record io { left = λ v. if nat_eq u v then rest_of rows else io.left v }))
reads_one x u [] line h io e = absurd (cc)
reads_one x u (r ∷ rs) line h io e =
    let same : r ≡ line = cc in
    ap (λ z. taken x z (world_of h (record io { left = λ v. if nat_eq u v then rs else io.left v }))) same

pub read_takes : (x : Bytes) (u : ℕ) (got : Option Bytes) (line : Bytes) (h new : WorldView) (o n : Option Io) (r : Result (Option MVal) Fault) → got ≡ Some line → Reads u got o n
    → ((io : Io) → AnswersOrFails r (world_of new io) (taken x line (world_of h io)))
    → IfTold o n (λ io io'. AnswersOrFails r (world_of new io') (take_record x u (io.left u) (world_of h io)))
read_takes x u got line h new o n r is reads f =
    told_read o n u (Some line) _ (subst (λ z. Reads u z o n) is reads)
    (λ io e. subst (λ p. AnswersOrFails r (world_of new (after_read u io)) p) (sym (reads_one x u (io.left u) line h io e)) (f (after_read u io)))

pub read_some : (x : Bytes) (u : ℕ) (got : Option Bytes) (line : Bytes) (h new : WorldView) (o n : Option Io) (r : Result (Option MVal) Fault) → got ≡ Some line → Reads u got o n
    → ((io : Io) → AnswersOrFails r (world_of new io) (taken x line (world_of h io)))
    → OfSome (λ io io'. AnswersOrFails r (world_of new io') (take_record x u (io.left u) (world_of h io)))
read_some x u got line h new o n r is (io, c, e) f =
    OfThese io (after_read u io) (subst (λ p. AnswersOrFails r (world_of new (after_read u io)) p) (sym (reads_one x u (io.left u) line h io (sym is ∙ e))) (f (after_read u io)))

reads_none : (x : Bytes) (u : ℕ) (rows : List Bytes) (w : MW) → None ≡ first_of rows → take_record x u rows w ≡ Refuses w
reads_none x u [] w e = refl
reads_none x u (r ∷ rs) w e = absurd (cc)

pub read_ends : (x : Bytes) (u : ℕ) (got : Option Bytes) (h : WorldView) (o n : Option Io) → got ≡ None → Reads u got o n → IfTold o n (λ io io'. take_record x u (io.left u) (world_of h io) ≡ Refuses (world_of h io'))
read_ends x u got h o n is reads =
    told_read o n u None _ (subst (λ z. Reads u z o n) is reads) (λ io e. reads_none x u (io.left u) (world_of h io) e ∙ ap (λ z. Refuses (world_of h z)) (sym (end_stays u io e)))

pub end_some : (x : Bytes) (u : ℕ) (got : Option Bytes) (h : WorldView) (o n : Option Io) → got ≡ None → Reads u got o n → OfSome (λ io io'. take_record x u (io.left u) (world_of h io) ≡ Refuses (world_of h io'))
end_some x u got h o n is (io, c, e) = OfThese io io (reads_none x u (io.left u) (world_of h io) (sym is ∙ e))

-- ---- fetching

value_unread : (b : Bool) (x : Bytes) (i : Option ℕ) (w : MW) → is_zero (keys_of w).input ≡ b → (if b then None else i) ≡ None → fetch_var x i w ≡ Gives (w.vars x) w
value_unread b x None w on e = refl
value_unread true x (Some u) w on e = ap (λ c. if c then Gives (w.vars x) w else take_record x u (w.io.left u) w) on
value_unread false x (Some u) w on e = absurd (cc)

record_read : (b : Bool) (x : Bytes) (i : Option ℕ) (u : ℕ) (w : MW) → is_zero (keys_of w).input ≡ b → (if b then None else i) ≡ Some u → fetch_var x i w ≡ take_record x u (w.io.left u) w
record_read true x i u w on e = absurd (cc)
record_read false x None u w on e = absurd (cc)
record_read false x (Some k) u w on e =
    let same : k ≡ u = cc in
    ap (λ c. if c then Gives (w.vars x) w else take_record x k (w.io.left k) w) on ∙ ap (λ n. take_record x n (w.io.left n) w) same

-- no variable
pub fetched_null : (x : Bytes) (h : WorldView) (v : Value) (o : Option Io) → variable_at x h.variables ≡ None → value_of v ≡ Str []
    → IfTold o o (λ io io'. fetch_op (Variable x) (world_of h io) ≡ Gives (value_of v) (world_of h io'))
fetched_null x h v o none null =
    told_same o _
    (λ io. ap (λ z. fetch_var x (input_in z) (world_of h io)) none
    ∙ ap (λ z. Gives (value_in z) (world_of h io)) none
    ∙ ap (λ z. Gives z (world_of h io)) (sym null))

pub null_some : (x : Bytes) (h : WorldView) (v : Value) → variable_at x h.variables ≡ None → value_of v ≡ Str [] → OfSome (λ io io'. fetch_op (Variable x) (world_of h io) ≡ Gives (value_of v) (world_of h io'))
null_some x h v none null = OfAny (λ io. fetched_null x h v (Some io) none null)

-- a variable's own value
pub fetched_value : (x : Bytes) (h : WorldView) (variable : var.Variable) (v : Value) (i : Option ℕ) (o : Option Io) → variable_at x h.variables ≡ Some variable → i ≡ (if is_zero h.keys.input then None else variable.input) → i ≡ None → v ≡ variable.value
    → IfTold o o (λ io io'. fetch_op (Variable x) (world_of h io) ≡ Gives (value_of v) (world_of h io'))
fetched_value x h variable v i o at reads none same =
    told_same o _
    (λ io. ap (λ z. fetch_var x (input_in z) (world_of h io)) at
    ∙ value_unread (is_zero h.keys.input) x variable.input (world_of h io) refl (sym reads ∙ none)
    ∙ ap (λ z. Gives (value_in z) (world_of h io)) at
    ∙ ap (λ z. Gives (value_of z) (world_of h io)) (sym same))

pub value_some : (x : Bytes) (h : WorldView) (variable : var.Variable) (v : Value) (i : Option ℕ) → variable_at x h.variables ≡ Some variable → i ≡ (if is_zero h.keys.input then None else variable.input) → i ≡ None → v ≡ variable.value
    → OfSome (λ io io'. fetch_op (Variable x) (world_of h io) ≡ Gives (value_of v) (world_of h io'))
value_some x h variable v i at reads none same = OfAny (λ io. fetched_value x h variable v i (Some io) at reads none same)

-- a record of the unit that a variable reads from
pub reads_unit : (x : Bytes) (u : ℕ) (h : WorldView) (variable : var.Variable) (i : Option ℕ) → variable_at x h.variables ≡ Some variable → i ≡ (if is_zero h.keys.input then None else variable.input) → i ≡ Some u
    → (io : Io) → fetch_op (Variable x) (world_of h io) ≡ take_record x u (io.left u) (world_of h io)
reads_unit x u h variable i at reads unit io =
    ap (λ z. fetch_var x (input_in z) (world_of h io)) at ∙ record_read (is_zero h.keys.input) x variable.input u (world_of h io) refl (sym reads ∙ unit)

pub fetched_unit : (x : Bytes) (u : ℕ) (h new : WorldView) (variable : var.Variable) (i : Option ℕ) (r : Result (Option MVal) Fault) (o m : Option Io) → variable_at x h.variables ≡ Some variable → i ≡ (if is_zero h.keys.input then None else variable.input) → i ≡ Some u
    → IfTold o m (λ io io'. AnswersOrFails r (world_of new io') (take_record x u (io.left u) (world_of h io)))
    → IfTold o m (λ io io'. AnswersOrFails r (world_of new io') (fetch_op (Variable x) (world_of h io)))
fetched_unit x u h new variable i r o m at reads unit records =
    told_on o m _ _
    (λ io io' a. subst (λ p. AnswersOrFails r (world_of new io') p) (sym (reads_unit x u h variable i at reads unit io)) a)
    records

pub unit_served : {U : Type 0} {units : Units U} {why : Option Stop} {a b : U} (x : Bytes) (u : ℕ) (h new : WorldView) (variable : var.Variable) (i : Option ℕ) (r : Result (Option MVal) Fault) → variable_at x h.variables ≡ Some variable → i ≡ (if is_zero h.keys.input then None else variable.input) → i ≡ Some u
    → Served units why a b (λ io io'. AnswersOrFails r (world_of new io') (take_record x u (io.left u) (world_of h io))) → Served units why a b (λ io io'. AnswersOrFails r (world_of new io') (fetch_op (Variable x) (world_of h io)))
unit_served x u h new variable i r at reads unit s = served_on s (λ io io' p. fetched_unit x u h new variable i r (Some io) (Some io') at reads unit p)

pub fetch_asks : (may : Way → ℕ → Bool) (x : Bytes) (u : ℕ) (h : WorldView) (variable : var.Variable) (i : Option ℕ) (why : Option Stop) → variable_at x h.variables ≡ Some variable → i ≡ (if is_zero h.keys.input then None else variable.input) → i ≡ Some u
    → Takes may why (λ io. io_after (take_record x u (io.left u) (world_of h io))) → Takes may why (λ io. io_after (fetch_op (Variable x) (world_of h io)))
fetch_asks may x u h variable i why at reads unit t = takes_on may why _ _ (λ io. ap io_after (reads_unit x u h variable i at reads unit io)) t

-- ---- assigning

abbrev pub write_if : Bool → ℕ → MVal → MW → Op MW (record {})
write_if off u v w = if off then Gives (record {}) w else print_text u (to_text v) w

written_text : (u : ℕ) (v v' : MVal) (h : WorldView) → v ≡ v' → is_zero h.keys.output ≡ false → (io : Io) → write_var (Some u) v' (world_of h io) ≡ print_text u (to_text v) (world_of h io)
written_text u v v' h same on io = sym (ap (λ z. print_text u (to_text z) (world_of h io)) same ∙ ap (λ b. write_if b u v' (world_of h io)) (sym on))

pub written : (u : ℕ) (v v' : MVal) (h : WorldView) (r : Result (record {}) Fault) (o n : Option Io) → v ≡ v' → is_zero h.keys.output ≡ false
    → IfTold o n (λ io io'. (k : WorldView) → AnswersAs r (world_of k io') (print_text u (to_text v) (world_of k io)))
    → IfTold o n (λ io io'. AnswersAs r (world_of h io') (write_var (Some u) v' (world_of h io)))
written u v v' h r o n same on prints =
    told_on o n _ _
    (λ io io' f. subst (λ p. AnswersAs r (world_of h io') p) (sym (written_text u v v' h same on io)) (f h))
    prints

pub written_served : {U : Type 0} {units : Units U} {why : Option Stop} {a b : U} (u : ℕ) (v v' : MVal) (h : WorldView) (r : Result (record {}) Fault) → v ≡ v' → is_zero h.keys.output ≡ false
    → Served units why a b (λ io io'. (k : WorldView) → AnswersAs r (world_of k io') (print_text u (to_text v) (world_of k io))) → Served units why a b (λ io io'. AnswersAs r (world_of h io') (write_var (Some u) v' (world_of h io)))
written_served u v v' h r same on s = served_on s (λ io io' f. written u v v' h r (Some io) (Some io') same on f)

pub write_asks : (may : Way → ℕ → Bool) (u : ℕ) (v v' : MVal) (h : WorldView) (why : Option Stop) → v ≡ v' → is_zero h.keys.output ≡ false
    → ((k : WorldView) → Prints may why (λ io. io_after (print_text u (to_text v) (world_of k io)))) → Prints may why (λ io. io_after (write_var (Some u) v' (world_of h io)))
write_asks may u v v' h why same on prints = prints_on may why _ _ (λ io. ap io_after (written_text u v v' h same on io)) (prints h)

if_same : (x : Bytes) (v w : MVal) → (if bytes_eq x x then v else w) ≡ v
if_same x v w = ap (λ b. if b then v else w) ((bytes_eq-Decides x x).1 refl)

writes_to : (x : Bytes) (u : ℕ) (v : MVal) (h new : WorldView) → Some u ≡ output_in (variable_at x h.variables) → ((io : Io) → world_of new io ≡ set_var x v (world_of h io))
    → (io : Io) → assign_op (Variable x) v (world_of h io) ≡ write_var (Some u) (value_in (variable_at x new.variables)) (world_of new io)
writes_to x u v h new out set io =
    sym (ap (λ z. write_var (Some u) z (world_of new io)) (ap (λ w. w.vars x) (set io) ∙ if_same x v ((world_of h io).vars x))
    ∙ ap (λ w. write_var (Some u) v w) (set io)
    ∙ ap (λ z. write_var z v (set_var x v (world_of h io))) out)

pub assigned_to_unit : (x : Bytes) (u : ℕ) (v : MVal) (h new : WorldView) (r : Result (record {}) Fault) (o m : Option Io) → Some u ≡ output_in (variable_at x h.variables)
    → ((io : Io) → world_of new io ≡ set_var x v (world_of h io))
    → IfTold o m (λ io io'. AnswersAs r (world_of new io') (write_var (Some u) (value_in (variable_at x new.variables)) (world_of new io)))
    → IfTold o m (λ io io'. AnswersAs r (world_of new io') (assign_op (Variable x) v (world_of h io)))
assigned_to_unit x u v h new r o m out set writes =
    told_on o m _ _
    (λ io io' a. subst (λ p. AnswersAs r (world_of new io') p) (sym (writes_to x u v h new out set io)) a)
    writes

pub assign_asks : (may : Way → ℕ → Bool) (x : Bytes) (u : ℕ) (v : MVal) (h new : WorldView) (why : Option Stop) → Some u ≡ output_in (variable_at x h.variables) → ((io : Io) → world_of new io ≡ set_var x v (world_of h io))
    → Prints may why (λ io. io_after (write_var (Some u) (value_in (variable_at x new.variables)) (world_of new io))) → Prints may why (λ io. io_after (assign_op (Variable x) v (world_of h io)))
assign_asks may x u v h new why out set writes = prints_on may why _ _ (λ io. ap io_after (writes_to x u v h new out set io)) writes

pub assigned_alone : (x : Bytes) (v : MVal) (h new : WorldView) (o : Option Io) → None ≡ output_in (variable_at x h.variables)
    → ((io : Io) → world_of new io ≡ set_var x v (world_of h io))
    → IfTold o o (λ io io'. assign_op (Variable x) v (world_of h io) ≡ Gives (record {}) (world_of new io'))
assigned_alone x v h new o out set =
    told_same o _
    (λ io. ap (λ z. write_var z v (set_var x v (world_of h io))) (sym out) ∙ ap (λ w. Gives (record {}) w) (sym (set io)))

-- ---- names of elements

pub fetched_there : (n m : Name) (h : WorldView) (r : Result (Option MVal) Fault) (o : Option Io) → n ≡ m
    → ((io : Io) → AnswersOrFails r (world_of h io) (fetch_op (name_of m) (world_of h io)))
    → IfTold o o (λ io io'. AnswersOrFails r (world_of h io') (fetch_op (name_of n) (world_of h io)))
fetched_there n m h r o is f = told_same o _ (λ io. subst (λ z. AnswersOrFails r (world_of h io) (fetch_op (name_of z) (world_of h io))) (sym is) (f io))

-- a key that went through 64 bits
pub fetched_key : (n : Name) (k : ℕ) (z z' : ℤ) (h : WorldView) (r : Result (Option MVal) Fault) (o : Option Io) → n ≡ name.IntegerKey k z → z' ≡ z
    → ((io : Io) → AnswersOrFails r (world_of h io) (fetch_op (IntegerKey k z') (world_of h io)))
    → IfTold o o (λ io io'. AnswersOrFails r (world_of h io') (fetch_op (name_of n) (world_of h io)))
fetched_key n k z z' h r o is same f = fetched_there n (name.IntegerKey k z') h r o (is ∙ ap (name.IntegerKey k) (sym same)) f

pub assigned_there : (n m : Name) (v : MVal) (h new : WorldView) (r : Result (record {}) Fault) (o : Option Io) → n ≡ m
    → ((io : Io) → AnswersAs r (world_of new io) (assign_op (name_of m) v (world_of h io)))
    → IfTold o o (λ io io'. AnswersAs r (world_of new io') (assign_op (name_of n) v (world_of h io)))
assigned_there n m v h new r o is f = told_same o _ (λ io. subst (λ z. AnswersAs r (world_of new io) (assign_op (name_of z) v (world_of h io))) (sym is) (f io))

-- a name that is set by an assignment is set by this one
pub set_there : (n m : Name) (v : MVal) (h new : WorldView) (r : Result (Unit {0}) Fault) → n ≡ m
    → (((io : Io) → assign_op (name_of m) v (world_of h io) ≡ Gives (record {}) (world_of new io)) → IsSet (name_of m) v h new)
    → ((io : Io) → AnswersAs (done r) (world_of new io) (assign_op (name_of m) v (world_of h io)))
    → OnOk r (IsSet (name_of n) v h new)
set_there n m v h new (Ok u) is f g = subst (λ z. IsSet (name_of z) v h new) (sym is) (f g)
set_there n m v h new (Err e) is f g = tt

module _ (n : Name) (k : ℕ) (z z' : ℤ) (v : MVal) (h new : WorldView) (r : Result (Unit {0}) Fault) (is : n ≡ name.IntegerKey k z) (same : z' ≡ z)
    (f : (io : Io) → AnswersAs (done r) (world_of new io) (assign_op (IntegerKey k z') v (world_of h io))) where
  pub assigned_key : (o : Option Io) → IfTold o o (λ io io'. AnswersAs (done r) (world_of new io') (assign_op (name_of n) v (world_of h io)))
  assigned_key o = assigned_there n (name.IntegerKey k z') v h new (done r) o (is ∙ ap (name.IntegerKey k) (sym same)) f

  pub set_key : OnOk r (IsSet (name_of n) v h new)
  set_key = set_there n (name.IntegerKey k z') v h new r (is ∙ ap (name.IntegerKey k) (sym same)) (λ g. g) f

-- ---- replacing

answers_by : (e : Fault) (w : MW) (k : MVal → Op MW (record {})) (o : Op MW (record {})) → LeadsTo (Err e) w k o → AnswersAs (Err e) w o
answers_by (fault.Error e) w k o h = h
answers_by (fault.Stop s) w k o h = tt

pub not_replaced : (e : Fault) (r : Result (Unit {0}) Fault) (h : WorldView) (k : MVal → MW → Op MW (record {})) (op : MW → Op MW (record {})) (o : Option Io) → IsErrAnd r (λ x. x ≡ e)
    → ((io : Io) → LeadsTo (Err e) (world_of h io) (λ v. k v (world_of h io)) (op (world_of h io)))
    → IfTold o o (λ io io'. AnswersAs (done r) (world_of h io') (op (world_of h io)))
not_replaced e r h k op o is f =
    let p = err_from_is_err_and r is in
    told_same o _ (λ io. subst (λ x. AnswersAs (done x) (world_of h io) (op (world_of h io))) (sym (p.1 ∙ ap Err p.2)) (answers_by e (world_of h io) (λ v. k v (world_of h io)) (op (world_of h io)) (f io)))

pub replaced_by : (h new : WorldView) (k op : MW → Op MW (record {})) (r : Result (record {}) Fault) (o n : Option Io)
    → ((io : Io) → op (world_of h io) ≡ k (world_of h io))
    → IfTold o n (λ io io'. AnswersAs r (world_of new io') (k (world_of h io)))
    → IfTold o n (λ io io'. AnswersAs r (world_of new io') (op (world_of h io)))
replaced_by h new k op r o n f a = told_on o n _ _ (λ io io' x. subst (λ p. AnswersAs r (world_of new io') p) (sym (f io)) x) a

-- whatever an assignment answers, it changes no more than the variable
pub no_more : {A E : Type 0} (r : Result A E) (n : target.Name) (v : MVal) (old new : WorldView) → OnOk r (IsSet n v old new) → OnErr r (IsSetOrKept n v old new) → (new ≡ old) ⊎ ((x : MVal) × IsSet n x old new)
no_more (Ok a) n v old new set kept = inr (v, set)
no_more (Err e) n v old new set kept = elim kept [ inl same ↦ inl same | inr is ↦ inr (v, is) ]
