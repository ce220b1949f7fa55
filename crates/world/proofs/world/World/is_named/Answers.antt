use Rattle.std.proofs.Common.{Some, ap, slice_get, sym, ◌∙◌}
use Rattle.std.proofs.lemmas.Option.{slice_get-get_or}
use Rattle.std.proofs.lemmas.Slice.Eq.{bytes_eq-Decides}
use Rattle.world.specs.Held.{WorldView}
use Rattle.world.proofs.world.World.is_named.Goals as goal

pub returns-in-Some : goal.returns-in-Some
returns-in-Some c e =
    let found = c.in-Some.ensures.lookup.3 in
    let name = c.in-Some.named.now in
    ap (λ (h : WorldView). slice_get h.names c.args.slot) (sym c.self.view_is)
    ∙ ap (λ l. slice_get l c.args.slot) (sym c.deref.ensures.value)
    ∙ slice_get-get_or c.deref.result.now c.args.slot name found.0
    ∙ ap Some (sym (found.1 name))
    ∙ ap Some ((bytes_eq-Decides name c.args.name.now).0 (sym c.eq.ensures ∙ e))
