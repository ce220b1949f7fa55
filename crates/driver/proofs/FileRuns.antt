-- From what units on files expose to their bytes.
use Rattle.std.proofs.Common.{◌≡◌, ◌∙◌, refl, sym, ap, subst, ℕ, List, [], ◌++◌, Bool, true, false, Option, Some, None, Result, Ok, Err}
use Rattle.std.specs.Prelude.{IfErr, IsTrue, OnOk}
use Rattle.std.proofs.lemmas.List.{append-nil}
use Rattle.model.specs.declared.run.Ending.{Ending}
use Rattle.model.specs.declared.run.Status.{Status}
use Rattle.model.specs.declared.run.Status.TheVariants as status
use Rattle.model.specs.declared.run.Stop.{Stop}
use Rattle.model.specs.declared.run.Stop.TheVariants as stop
use Rattle.model.specs.declared.run.UnitFault.TheVariants as fault
use Rattle.model.specs.Deck.Trees.{Stmt}
use Rattle.model.specs.Language.Io.{Io}
use Rattle.model.specs.Language.Told.{IfTold}
use Rattle.model.specs.Language.Units.{IsCounted}
use Rattle.model.specs.Laws.Agreement.{Inputs, Records, Behaviour}
use Rattle.statement_machine.proofs.Seeing.{if_ran}
use Rattle.statement_machine.specs.Stopped.{IfRan, ending_of, stop_of_run}
use Rattle.unit_io.specs.Counts.{Same, SameBut, failures_at}
use Rattle.unit_io.specs.Files.{FilesView, IsKept, back_on, io_of, told_if, told_of}
use Rattle.unit_io.specs.Service.{KeepsCounts}
use Rattle.unit_io.proofs.Serving.{told_on}
use Rattle.driver.specs.Cards.{card_told}
use Rattle.driver.specs.Finished.{IsFinished}
use Rattle.driver.specs.OnFiles.{HasBytes, HasCounted, IsRunOnFiles, OfBytes, WritesMeaning}
use Rattle.driver.specs.Whole.{HasPrinted, HasReached, IsMeant, OfRun, RefinesMeaning}

not_true : false ≡ true → ⊥
not_true e = cc

both_told : (b b' : Bool) (io io' : Io) (P : Io → Io → Type 0) → IfTold (told_if b io) (told_if b' io') P → IsTrue b → IsTrue b' × P io io'
both_told false b' io io' P h e = absurd (not_true e)
both_told true false io io' P h e = absurd h
both_told true true io io' P h e = (refl, h)

module _ {S : Type 0} (exposes : S → Bool) (state : Status) (before after : FilesView S) (kept : IsKept exposes after) where
  pub of_bytes : (P : Inputs → Behaviour → Type 0) → OfRun state (told_of exposes before) (told_of exposes after) P → OfBytes exposes state before after P
  of_bytes P run e =
      let (e', (new, printed, p)) = both_told (exposes before.system) (exposes after.system) (io_of before) (io_of after) _ run e in
      (new, subst (λ (rs : Records). HasBytes after rs) printed (record { exact = kept.exact e'; begun = kept.begun e' }), p)

  pub writes : (deck : List ℕ) (bound : ℕ) → RefinesMeaning deck bound state (told_of exposes before) (told_of exposes after) → WritesMeaning exposes deck bound state before after
  writes deck bound r = record {
    statements = r.statements;
    accepted = r.accepted;
    sound = of_bytes (IsMeant r.statements) r.sound;
    reaches = if_ran state _ _ r.reaches (of_bytes (HasReached bound r.statements));
    prints = if_ran state _ _ r.prints (of_bytes (HasPrinted bound r.statements));
  }

-- ---- a run whose last bytes could not be written was stopped

stopped_seen : (ss : List Stmt) (inputs : Inputs) (ending : Option Ending) (printed : Records) → IsMeant ss inputs (record { ending = ending; printed = printed }) → IsMeant ss inputs (record { ending = None; printed = printed })
stopped_seen ss inputs None printed h = h
stopped_seen ss inputs (Some e) printed (n, is) = (n, ([], ap (λ (x : Behaviour). x.printed) is ∙ sym (append-nil printed)))

pub stopped : (deck : List ℕ) (bound : ℕ) (state : Status) (why : Stop) (before after : Option Io) → RefinesMeaning deck bound state before after → RefinesMeaning deck bound (status.Stopped why) before after
stopped deck bound state why before after r =
    let ss = r.statements in
    let P : Io → Io → Type 0 = λ io io'. (new : Records) × (io'.printed ≡ io.printed ++ new) × IsMeant ss io.left (record { ending = ending_of state; printed = new }) in
    let Q : Io → Io → Type 0 = λ io io'. (new : Records) × (io'.printed ≡ io.printed ++ new) × IsMeant ss io.left (record { ending = None; printed = new }) in
    record {
      statements = ss;
      accepted = r.accepted;
      sound = told_on before after P Q (λ io io' (new, printed, p). (new, printed, stopped_seen ss io.left (ending_of state) new p)) r.sound;
      reaches = tt;
      prints = tt;
    }

-- ---- what holds once the bytes that were kept back are written, or a unit could not be written

pub finished_meaning : (deck : List ℕ) (bound : ℕ) (s s' : Status) (written : Result (Unit {0}) ℕ) (before after : Option Io) → IsFinished s written s' → RefinesMeaning deck bound s before after → RefinesMeaning deck bound s' before after
finished_meaning deck bound (status.Stopped why) s' written before after is r = subst (λ (x : Status). RefinesMeaning deck bound x before after) (sym is) r
finished_meaning deck bound status.Running s' (Ok done) before after is r = subst (λ (x : Status). RefinesMeaning deck bound x before after) (sym is) r
finished_meaning deck bound (status.Ended e) s' (Ok done) before after is r = subst (λ (x : Status). RefinesMeaning deck bound x before after) (sym is) r
finished_meaning deck bound status.Running s' (Err unit) before after is r =
    subst (λ (x : Status). RefinesMeaning deck bound x before after) (sym is) (stopped deck bound status.Running (stop.Unit unit fault.WriteFailed) before after r)
finished_meaning deck bound (status.Ended e) s' (Err unit) before after is r =
    subst (λ (x : Status). RefinesMeaning deck bound x before after) (sym is) (stopped deck bound (status.Ended e) (stop.Unit unit fault.WriteFailed) before after r)

-- of a run that nothing stopped, the last bytes are written
pub handed_on : (s s' : Status) (written : Result (Unit {0}) ℕ) (P : Type 0) → IsFinished s written s' → OnOk written P → IfRan s' P
handed_on (status.Stopped why) s' written P is h = subst (λ (x : Status). IfRan x P) (sym is) tt
handed_on status.Running s' (Ok done) P is h = subst (λ (x : Status). IfRan x P) (sym is) h
handed_on (status.Ended e) s' (Ok done) P is h = subst (λ (x : Status). IfRan x P) (sym is) h
handed_on status.Running s' (Err unit) P is h = subst (λ (x : Status). IfRan x P) (sym is) tt
handed_on (status.Ended e) s' (Err unit) P is h = subst (λ (x : Status). IfRan x P) (sym is) tt

-- and no unit has failed
pub sound_units : (s s' : Status) (written : Result (Unit {0}) ℕ) (a b c : List ℕ) → IsFinished s written s' → KeepsCounts (stop_of_run s) (failures_at a) (failures_at b) → OnOk written (c ≡ b) → IfRan s' (Same (failures_at a) (failures_at c))
sound_units (status.Stopped why) s' written a b c is k h = subst (λ (x : Status). IfRan x (Same (failures_at a) (failures_at c))) (sym is) tt
sound_units status.Running s' (Ok done) a b c is k h = subst (λ (x : Status). IfRan x (Same (failures_at a) (failures_at c))) (sym is) (λ u. ap (λ (cs : List ℕ). failures_at cs u) h ∙ k u)
sound_units (status.Ended e) s' (Ok done) a b c is k h = subst (λ (x : Status). IfRan x (Same (failures_at a) (failures_at c))) (sym is) (λ u. ap (λ (cs : List ℕ). failures_at cs u) h ∙ k u)
sound_units status.Running s' (Err unit) a b c is k h = subst (λ (x : Status). IfRan x (Same (failures_at a) (failures_at c))) (sym is) tt
sound_units (status.Ended e) s' (Err unit) a b c is k h = subst (λ (x : Status). IfRan x (Same (failures_at a) (failures_at c))) (sym is) tt

-- the card that is reported
pub card_kept : (cards : List ℕ) (s s' : Status) (written : Result (Unit {0}) ℕ) (c c' : ℕ) → IsFinished s written s' → c' ≡ c → c ≡ card_told cards s → IfRan s' (c' ≡ card_told cards s')
card_kept cards (status.Stopped why) s' written c c' is e h = subst (λ (x : Status). IfRan x (c' ≡ card_told cards x)) (sym is) tt
card_kept cards status.Running s' (Ok done) c c' is e h = subst (λ (x : Status). IfRan x (c' ≡ card_told cards x)) (sym is) (e ∙ h)
card_kept cards (status.Ended k) s' (Ok done) c c' is e h = subst (λ (x : Status). IfRan x (c' ≡ card_told cards x)) (sym is) (e ∙ h)
card_kept cards status.Running s' (Err unit) c c' is e h = subst (λ (x : Status). IfRan x (c' ≡ card_told cards x)) (sym is) tt
card_kept cards (status.Ended k) s' (Err unit) c c' is e h = subst (λ (x : Status). IfRan x (c' ≡ card_told cards x)) (sym is) tt

-- ---- the run itself, and the write of what its units kept back

counted_out : (written : Result (Unit {0}) ℕ) (a b : List ℕ) → OnOk written (b ≡ a) → IfErr written (λ (u : ℕ). IsCounted fault.WriteFailed (failures_at a u) (failures_at b u))
    → IfErr written (λ (u : ℕ). SameBut u (failures_at a) (failures_at b)) → HasCounted written a b
counted_out (Ok done) a b same counted others = same
counted_out (Err unit) a b same counted others = (counted, others)

pub run_on_files : {S : Type 0} (exposes : S → Bool) (P : Status → Option Io → Option Io → Type 0) (s s' : Status) (written : Result (Unit {0}) ℕ) (before between after : FilesView S)
    → P s (told_of exposes before) (told_of exposes between) → KeepsCounts (stop_of_run s) (failures_at before.counts) (failures_at between.counts) → IsFinished s written s' → told_of exposes after ≡ told_of exposes between
    → OnOk written ((unit : ℕ) → back_on unit after.given after.back ≡ []) → OnOk written (after.counts ≡ between.counts)
    → IfErr written (λ (u : ℕ). IsCounted fault.WriteFailed (failures_at between.counts u) (failures_at after.counts u)) → IfErr written (λ (u : ℕ). SameBut u (failures_at between.counts) (failures_at after.counts))
    → IsRunOnFiles exposes P s' before after
run_on_files exposes P s s' written before between after run counts finished told all same counted others = record {
  ran = s;
  between = between;
  run = run;
  counts = counts;
  written = written;
  written_out = record { told = told; all = all; counts = counted_out written between.counts after.counts same counted others };
  finished = finished;
}
