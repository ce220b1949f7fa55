-- From the module of a deck to its run.
use Rattle.std.proofs.Common.{◌≡◌, ◌∙◌, refl, sym, ap, subst, ℕ, Bool, List, ◌++◌, Option, Some, None, Ok, Err, append_assoc, inl, inr}
use Rattle.model.specs.declared.format.LoadFault.{LoadFault}
use Rattle.model.specs.declared.format.Version.TheVariants as versions
use Rattle.model.specs.declared.image.Image.{Image}
use Rattle.model.specs.declared.run.Status.{Status}
use Rattle.model.specs.declared.run.Status.TheVariants as status
use Rattle.model.specs.declared.run.Ending.{Ending}
use Rattle.model.specs.Deck.Cards.{first_cards}
use Rattle.model.specs.Laws.Agreement.{Agrees, Inputs, IsPrefix, Records, Behaviour, machine_at, meaning_at}
use Rattle.model.specs.Language.Io.{Io}
use Rattle.model.specs.Module.Reading as reading
use Rattle.model.specs.Language.Told.{IfTold}
use Rattle.model.specs.Deck.Trees.{Stmt}
use Rattle.model.proofs.Module.SpeltImages.{spelt_is_read}
use Rattle.model.proofs.Module.SpeltNumbers.{ok_is}
use Rattle.loader.specs.Answers.{IsAnswer, no_memory}
use Rattle.loader.proofs.Judging.{sound_is_taken}
use Rattle.statement_machine.specs.Asking.{StopsWhereAsked}
use Rattle.statement_machine.specs.Runs.{IsRun, IsStoppedRun}
use Rattle.statement_machine.specs.Stopped.{IfRan, IfStop, ending_of, stop_of_run}
use Rattle.unit_io.specs.Ways.{Way}
use Rattle.driver.specs.Cards.{card_told}
use Rattle.driver.specs.Compiled.{IsModuleOf}
use Rattle.statement_machine.proofs.Seeing.{if_ran}
use Rattle.unit_io.proofs.Serving.{told_on}
use Rattle.driver.specs.Whole.{HasPrinted, HasReached, IsMeant, IsModuleRun, IsRunOf, IsSeenOf, OfRun, RefinesMeaning, StandsWithin}

read : (deck bytes : List ℕ) (m : IsModuleOf deck bytes) → reading.read_image bytes ≡ Ok m.image
read deck bytes m = ap reading.read_image m.spelt ∙ spelt_is_read versions.Two m.image (record { image = m.has_spelling; level = tt })

read_same : (deck given bytes : List ℕ) → given ≡ bytes → (m : IsModuleOf deck bytes) → reading.read_image given ≡ Ok m.image
read_same deck given bytes same m = ap reading.read_image same ∙ read deck bytes m

pub is_run : {may : Way → ℕ → Bool} (deck given bytes : List ℕ) (bound : ℕ) (status : Status) (before after : Option Io) → given ≡ bytes → IsModuleOf deck bytes → IsModuleRun given bound may status before after → IsRunOf deck bound may status before after
is_run {may} deck given bytes bound status before after same m r =
    let one : r.image ≡ m.image = ok_is r.image m.image (sym r.read ∙ read_same deck given bytes same m) in
    record {
      statements = m.statements;
      trees = m.trees;
      image = m.image;
      generated = m.generated;
      agrees = m.agrees;
      in_time = m.in_time;
      prints = m.prints;
      run = subst (λ (im : Image). IfRan status (IfTold before after (IsRun im bound (ending_of status)))) one r.run;
      stopped = subst (λ (im : Image). IfStop status (IfTold before after (IsStoppedRun im bound))) one r.stopped;
      stands = subst (λ (im : Image). IfStop status (IfTold before after (StandsWithin im bound))) one r.stands;
      asked = subst (λ (im : Image). StopsWhereAsked im bound may (stop_of_run status) before after) one r.asked;
    }

-- the cards of a deck's module are those of the deck
pub card_is : (deck given bytes : List ℕ) (status : Status) (card : ℕ) → given ≡ bytes → IsModuleOf deck bytes
    → (im : Image) × (reading.read_image given ≡ Ok im) × (card ≡ card_told im.cards status) → card ≡ card_told (first_cards deck) status
card_is deck given bytes status card same m (im, read, told) = told ∙ ap (λ (x : Image). card_told x.cards status) (ok_is im m.image (sym read ∙ read_same deck given bytes same m) ∙ m.generated)

-- ---- in the deck's own words

seen_of : (ss : List Stmt) (image : Image) (inputs : Inputs) (bound : ℕ) (ending : Option Ending) (seen : Behaviour) → Agrees ss image → seen ≡ machine_at image inputs bound → seen.ending ≡ ending → (n : ℕ) × IsSeenOf ending seen.printed (meaning_at n ss inputs)
seen_of ss image inputs bound None seen a s e = let p = a.prints_only inputs bound in (p.0, (p.1.0, p.1.1 ∙ ap (λ (x : Behaviour). x.printed ++ p.1.0) (sym s)))
seen_of ss image inputs bound (Some x) seen a s e = let m = a.ends_only inputs bound x (ap (λ y. y.ending) (sym s) ∙ e) in (m.0, m.1 ∙ sym s ∙ ap (λ o. record { ending = o; printed = seen.printed }) e)

-- what holds of what the machine shows holds of a run that nothing stopped
of_run : (bound : ℕ) (status : Status) (before after : Option Io) (image : Image) (P : Inputs → Behaviour → Type 0) → IfRan status (IfTold before after (IsRun image bound (ending_of status)))
    → ((inputs : Inputs) (seen : Behaviour) → seen ≡ machine_at image inputs bound → P inputs seen) → IfRan status (OfRun status before after P)
of_run bound status before after image P run h = if_ran status _ _ run (λ t. told_on before after _ _
    (λ io io' r.
    let there : Behaviour = machine_at image io.left bound in
    (there.printed, ap (λ (x : Behaviour). x.printed) r.seen, h io.left (record { ending = ending_of status; printed = there.printed }) (ap (λ (x : Behaviour). record { ending = x.ending; printed = there.printed }) r.seen))) t)

sound_if_ran : {may : Way → ℕ → Bool} (deck : List ℕ) (bound : ℕ) (status : Status) (before after : Option Io) (r : IsRunOf deck bound may status before after) → IfRan status (OfRun status before after (IsMeant r.statements))
sound_if_ran deck bound status before after r = of_run bound status before after r.image (IsMeant r.statements) r.run (λ inputs seen s. seen_of r.statements r.image inputs bound seen.ending seen r.agrees s refl)

-- what a run printed that stopped is a prefix of what is meant
stopped_so : (ss : List Stmt) (image : Image) (bound : ℕ) (io io' : Io) → Agrees ss image → IsStoppedRun image bound io io'
    → (new : Records) × (io'.printed ≡ io.printed ++ new) × IsMeant ss io.left (record { ending = None; printed = new })
stopped_so ss image bound io io' agrees h =
    let p = agrees.prints_only io.left bound in
    let more : Records = h.2.0 in
    (h.0, h.1, (p.0, (more ++ p.1.0, p.1.1 ∙ ap (λ x. x ++ p.1.0) h.2.1 ∙ append_assoc h.0 more p.1.0)))

is_sound : {may : Way → ℕ → Bool} (deck : List ℕ) (bound : ℕ) (status : Status) (before after : Option Io) (r : IsRunOf deck bound may status before after) → OfRun status before after (IsMeant r.statements)
is_sound deck bound (status.Stopped why) before after r = told_on before after _ _ (λ io io' h. stopped_so r.statements r.image bound io io' r.agrees h) r.stopped
is_sound deck bound status.Running before after r = sound_if_ran deck bound status.Running before after r
is_sound deck bound (status.Ended e) before after r = sound_if_ran deck bound (status.Ended e) before after r

pub refines : {may : Way → ℕ → Bool} (deck : List ℕ) (bound : ℕ) (status : Status) (before after : Option Io) → IsRunOf deck bound may status before after → RefinesMeaning deck bound status before after
refines deck bound status before after r = record {
  statements = r.statements;
  accepted = r.trees;
  sound = is_sound deck bound status before after r;
  reaches = of_run bound status before after r.image (HasReached bound r.statements) r.run (λ inputs seen s n e ends enough. s ∙ r.in_time inputs n e ends bound enough);
  prints = of_run bound status before after r.image (HasPrinted bound r.statements) r.run (λ inputs seen s n enough. subst (λ (x : Behaviour). IsPrefix (meaning_at n r.statements inputs).printed x.printed) (sym s) (r.prints inputs n bound enough));
}

-- ---- the loader takes what was compiled, unless it lacks memory

pub only_memory : (deck given bytes : List ℕ) (fault : LoadFault) → given ≡ bytes → IsModuleOf deck bytes → IsAnswer given (Err fault) → fault ≡ no_memory
only_memory deck given bytes fault same m (inl memory) = cc
only_memory deck given bytes fault same m (inr h) = absurd (sound_is_taken versions.Two given m.image fault (read_same deck given bytes same m) m.sound h)
