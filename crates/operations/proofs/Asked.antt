-- Which unit a call asks that a unit stopped.
use Rattle.std.proofs.Common.{◌≡◌, ◌≢◌, ℕ, List, [], ◌∷◌, ◌++◌, append_assoc, length, pos, Bool, true, false, Option, Some, None, Result, Ok, Err, nat_eq, int_le, refl, sym, ap, ◌∙◌, subst, inl, inr}
use Rattle.std.specs.Prelude.{◌⊎◌, IsTrue, if◌then◌else◌}
use Rattle.std.specs.Result.{IsErrAnd}
use Rattle.std.proofs.lemmas.Bool.Decides.{Decides-eqb}
use Rattle.model.specs.declared.run.ErrorCode.TheVariants as error
use Rattle.model.specs.declared.run.Stop.{Stop}
use Rattle.model.specs.declared.run.Stop.TheVariants as stop
use Rattle.model.specs.declared.run.UnitFault.{UnitFault}
use Rattle.model.specs.declared.run.UnitFault.TheVariants as unit
use Rattle.model.specs.Deck.Trees.{Bytes}
use Rattle.model.specs.Language.Conversions.{Conv, Got, Op, Gives, Faults, to_text}
use Rattle.model.specs.Language.Io.{Io}
use Rattle.model.specs.Language.Operators.{as_read, print_text, take_record}
use Rattle.model.specs.Language.Values.{Str, keys_of, set_io, set_var}
use Rattle.model.specs.Laws.Agreement.{Records}
use Rattle.model.specs.Machine.Steps.{MVal, MW}
use Rattle.unit_io.specs.Ways.{Way, MayFail, Reading, Writing}
use Rattle.values.specs.Answers.{IfStopped, stop_of, stopped_by}
use Rattle.operations.specs.Asking.{IfUnit, IsNextOn, Prints, PrintsOn, Takes, TakesFrom, TakesOrPrints, io_after}
use Rattle.world.specs.Held.{WorldView, world_of}
use Rattle.values.specs.declared.fault.Fault.{Fault}
use Rattle.values.specs.declared.fault.Fault.TheVariants as fault

-- ---- the unit that stopped a call

pub if_unit : (why : Option Stop) (P Q : ℕ → Type 0) → ((u : ℕ) → P u → Q u) → IfUnit why P → IfUnit why Q
if_unit None P Q f h = tt
if_unit (Some stop.NoMemory) P Q f h = tt
if_unit (Some (stop.Unit u cause)) P Q f h = f u h

-- one that refused a call
pub refused_by : (u : ℕ) (cause : UnitFault) (s : Stop) (P : ℕ → Type 0) → s ≡ stop_of u cause → (cause ≢ unit.Memory → P u) → IfUnit (Some s) P
refused_by u cause s P e h = subst (λ x. IfUnit (Some x) P) (sym e) (by_cause cause h)
  where
    by_cause : (x : UnitFault) → (x ≢ unit.Memory → P u) → IfUnit (Some (stop_of u x)) P
    by_cause unit.NotOpen h = h (λ e. cc)
    by_cause unit.ReadFailed h = h (λ e. cc)
    by_cause unit.WriteFailed h = h (λ e. cc)
    by_cause unit.Memory h = tt

-- a call that stops for want of memory alone
pub no_unit : {A : Type 0} (result : Result A Fault) (P : ℕ → Type 0) → IfStopped result (λ s. s ≡ stop.NoMemory) → IfUnit (stopped_by result) P
no_unit (Ok a) P h = tt
no_unit (Err (fault.Error e)) P h = tt
no_unit (Err (fault.Stop s)) P h = rw h tt

-- what a `?` passes on
pub passed_on : {A : Type 0} (result : Result A Fault) (f : Fault) (P : ℕ → Type 0) → IsErrAnd result (λ x. x ≡ f) → IfUnit (stopped_by {A = Unit {0}} (Err f)) P → IfUnit (stopped_by result) P
passed_on (Ok a) f P e h = absurd e
passed_on (Err x) f P e h = subst (λ y. IfUnit (stopped_by {A = Unit {0}} (Err y)) P) (sym e) h

-- ---- operations that leave the same

pub takes_as : (u : ℕ) (f g : Io → Io) → ((io : Io) → f io ≡ g io) → TakesFrom u g → TakesFrom u f
takes_as u f g e h = (h.0, λ same. h.1 (ap (λ (x : Io). x.left u) (sym (e h.0)) ∙ same))

pub prints_as : (u : ℕ) (f g : Io → Io) → ((io : Io) → f io ≡ g io) → PrintsOn u g → PrintsOn u f
prints_as u f g e h = λ io. let next = h io in (next.0, next.1, ap (λ (x : Io). x.printed) (e io) ∙ next.2)

module _ (may : Way → ℕ → Bool) (why : Option Stop) (f g : Io → Io) (e : (io : Io) → f io ≡ g io) where
  pub takes_on : Takes may why g → Takes may why f
  takes_on h = if_unit why (λ u. MayFail may Reading u × TakesFrom u g) (λ u. MayFail may Reading u × TakesFrom u f) (λ u x. (x.0, takes_as u f g e x.1)) h

  pub prints_on : Prints may why g → Prints may why f
  prints_on h = if_unit why (λ u. MayFail may Writing u × PrintsOn u g) (λ u. MayFail may Writing u × PrintsOn u f) (λ u x. (x.0, prints_as u f g e x.1)) h

  pub asks_taking : Takes may why g → TakesOrPrints may why f
  asks_taking h =
      if_unit why (λ u. MayFail may Reading u × TakesFrom u g) (λ u. (MayFail may Reading u × TakesFrom u f) ⊎ (MayFail may Writing u × PrintsOn u f))
      (λ u x. inl (x.0, takes_as u f g e x.1)) h

  pub asks_printing : Prints may why g → TakesOrPrints may why f
  asks_printing h =
      if_unit why (λ u. MayFail may Writing u × PrintsOn u g) (λ u. (MayFail may Reading u × TakesFrom u f) ⊎ (MayFail may Writing u × PrintsOn u f))
      (λ u x. inr (x.0, prints_as u f g e x.1)) h

-- ---- the next record

-- where more is printed
pub next_more : (u : ℕ) (so_far whole all new : Records) → all ≡ whole ++ new → IsNextOn u so_far whole → IsNextOn u so_far all
next_more u so_far whole all new e h = (h.0, h.1 ++ new, e ∙ ap (λ l. l ++ new) h.2 ∙ append_assoc so_far (record { unit = u; bytes = h.0 } ∷ h.1) new)

-- where the same is printed so far
pub next_same : (u : ℕ) (before so_far whole : Records) → so_far ≡ before → IsNextOn u before whole → IsNextOn u so_far whole
next_same u before so_far whole e h = subst (λ l. IsNextOn u l whole) (sym e) h

-- ---- reading

-- one empty record on each unit
abbrev one_each : Io
one_each = record { left = λ unit. [] ∷ []; printed = [] }

no_row : (row : Bytes) (rows : List Bytes) → [] ≡ row ∷ rows → ⊥
no_row row rows e = cc

abbrev text_read : Bytes → Bytes → Bool → MW → Op MW MVal
text_read x s b w = if b then Gives (Str s) (set_var x (Str s) w) else Faults error.StringTooLong w

text_io : (x s : Bytes) (b : Bool) (w : MW) → io_after (text_read x s b w) ≡ w.io
text_io x s true w = refl
text_io x s false w = refl

-- a read takes it, whether or not the text is then too long
pub takes_record : (x : Bytes) (u : ℕ) (h : WorldView) → TakesFrom u (λ io. io_after (take_record x u (io.left u) (world_of h io)))
takes_record x u h =
    let w : MW = world_of h one_each in
    let s : Bytes = as_read [] w in
    let w1 : MW = set_io (record one_each { left = λ v. if nat_eq u v then [] else [] ∷ [] }) w in
    let taken : (io_after (take_record x u ([] ∷ []) w)).left u ≡ [] =
    ap (λ (io : Io). io.left u) (text_io x s (int_le (pos (length s)) (keys_of w1).maxlngth) w1)
    ∙ ap (λ b. if b then [] else [] ∷ []) ((Decides-eqb u u).1 refl) in
    (one_each, λ same. no_row [] [] (sym taken ∙ same))

-- ---- writing

pub prints_text : (u : ℕ) (v : MVal) (s : Bytes) (h : WorldView) → to_text v ≡ Got s → PrintsOn u (λ io. io_after (print_text u (to_text v) (world_of h io)))
prints_text u v s h e = λ io. (s, [], ap (λ (t : Conv Bytes). (io_after (print_text u t (world_of h io))).printed) e)

-- ---- calls that a unit refused

pub refused_read : (may : Way → ℕ → Bool) (u : ℕ) (cause : UnitFault) (s : Stop) (x : Bytes) (h : WorldView) → s ≡ stop_of u cause → (cause ≢ unit.Memory → IsTrue (may Reading u)) → Takes may (Some s) (λ io. io_after (take_record x u (io.left u) (world_of h io)))
refused_read may u cause s x h is failed =
    refused_by u cause s (λ v. MayFail may Reading v × TakesFrom v (λ io. io_after (take_record x u (io.left u) (world_of h io)))) is (λ e. (record { so = failed e }, takes_record x u h))

pub refused_print : (may : Way → ℕ → Bool) (u : ℕ) (cause : UnitFault) (s : Stop) (v : MVal) (text : Bytes) (h : WorldView) → s ≡ stop_of u cause → (cause ≢ unit.Memory → IsTrue (may Writing u)) → to_text v ≡ Got text → Prints may (Some s) (λ io. io_after (print_text u (to_text v) (world_of h io)))
refused_print may u cause s v text h is failed got =
    refused_by u cause s (λ w. MayFail may Writing w × PrintsOn w (λ io. io_after (print_text u (to_text v) (world_of h io)))) is (λ e. (record { so = failed e }, prints_text u v text h got))
