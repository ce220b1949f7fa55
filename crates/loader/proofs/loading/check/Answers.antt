use Rattle.std.proofs.Common.{◌∙◌, ap, map}
use Rattle.loader.specs.Places.{place_by_offset, place_of}
use Rattle.loader.proofs.Spelt.{short_as}
use Rattle.loader.proofs.loading.check.Goals as goal

pub places_of-requires : goal.places_of-requires
places_of-requires c = short_as c.in_ok-placed.placed c.args.image c.requires c.in_ok-placed.ensures

pub fault_of-requires-clause-places : goal.fault_of-requires-clause-places
fault_of-requires-clause-places c =
    c.as_slice.ensures.value ∙ c.in_ok-statements.ensures ∙ ap (λ code. map (place_by_offset 0 code) c.statements.result.now) c.in_ok-placed.ensures ∙ ap (map (place_of c.args.image)) c.statements.ensures
