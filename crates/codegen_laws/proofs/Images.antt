-- The image of each accepted deck.
use Rattle.std.proofs.Common.{slice_get, refl, sym, ◌∙◌}
use Rattle.model.specs.Deck.Cards.{first_cards}
use Rattle.model.proofs.Machine.Agreement.{agrees_where_placed}
use Rattle.model.proofs.Decks.FirstCards.{first_cards_law}
use Rattle.model.proofs.Machine.RunsBounded.{run_steps_law, run_prints_law}
use Rattle.codegen.specs.Layout.{generated_image}
use Rattle.codegen_laws.specs.CodegenLaws.{AreFit, AreCountable, IsPlaced, IsSpelt, IsSound, IsSmall, DoesAsMeant, IsInTime, IsPrintedInTime}
use Rattle.codegen_laws.proofs.Accepted.{accepted_is_fit}
use Rattle.codegen_laws.proofs.Counting.{all_statements}
use Rattle.codegen_laws.proofs.Limits as Limits
use Rattle.codegen_laws.proofs.Parts.{parts}
use Rattle.codegen_laws.proofs.Placing as Placing
use Rattle.codegen_laws.proofs.Sounding.{flows}

pub are_fit : AreFit
are_fit text ss h = accepted_is_fit text ss h

pub are_countable : AreCountable
are_countable text ss h = all_statements ss (are_fit text ss h).statements

pub placed : IsPlaced
placed text cards ss h = let f = are_fit text ss h in (slice_get (Placing.later_of ss f.ends f.statements), Placing.placed ss f.ends f.statements)

pub spelt : IsSpelt
spelt text ss h =
    let f = are_fit text ss h in
    let c = first_cards_law text ss h in
    Limits.spelt ss f (first_cards text) (record { count = c.0 ∙ sym (Placing.offsets_count ss f.ends f.statements); entries = c.1 })

pub sound : IsSound
sound text cards ss h = let f = are_fit text ss h in record { parts = parts ss f; flow = flows ss f.ends f.statements }

pub small : IsSmall
small text cards ss h = Limits.code_small ss (are_fit text ss h)

pub agrees : DoesAsMeant
agrees text cards ss h = let p = placed text cards ss h in agrees_where_placed ss (generated_image cards ss) p.0 refl p.1

pub in_time : IsInTime
in_time text cards ss h = let p = placed text cards ss h in run_steps_law ss (generated_image cards ss) p.0 refl p.1

pub prints : IsPrintedInTime
prints text cards ss h = let p = placed text cards ss h in run_prints_law ss (generated_image cards ss) p.0 refl p.1
