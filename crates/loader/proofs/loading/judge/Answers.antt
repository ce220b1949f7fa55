use Rattle.std.proofs.Common.{◌∙◌, ap, map, subst}
use Rattle.model.specs.declared.format.Version.TheVariants as versions
use Rattle.model.specs.Module.WellFormed.{IsTold}
use Rattle.loader.specs.Places.{place_by_offset, place_of}
use Rattle.loader.proofs.Judging.{loaded}
use Rattle.loader.proofs.Spelt.{short_as}
use Rattle.loader.proofs.loading.judge.Goals as goal

pub places_of-requires : goal.places_of-requires
places_of-requires c = short_as c.in_ok-placed.placed c.args.image c.requires c.in_ok-placed.ensures

pub fault_of-requires-clause-places : goal.fault_of-requires-clause-places
fault_of-requires-clause-places c =
    c.as_slice.ensures.value ∙ c.in_ok-statements.ensures ∙ ap (λ code. map (place_by_offset 0 code) c.statements.result.now) c.in_ok-placed.ensures ∙ ap (map (place_of c.args.image)) c.statements.ensures

pub new-requires-clause-loaded : goal.new-requires-clause-loaded
new-requires-clause-loaded c = loaded c.args.image c.requires (subst (IsTold versions.Two c.args.image) c.in-None.is c.in_ok-fault.ensures)

pub new-requires-clause-places : goal.new-requires-clause-places
new-requires-clause-places c =
    c.in_ok-statements.ensures ∙ ap (λ code. map (place_by_offset 0 code) c.statements.result.now) c.in_ok-placed.ensures ∙ ap (map (place_of c.args.image)) c.statements.ensures
