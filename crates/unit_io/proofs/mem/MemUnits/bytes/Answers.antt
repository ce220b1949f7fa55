use Rattle.std.proofs.Common.{◌≡◌, ◌<◌, ◌∙◌, sym, ap, subst, Some}
use Rattle.model.specs.Language.Units.{bytes_on}
use Rattle.unit_io.specs.Held.{UnitsView, IsKept, place_of, side_at, written_by, records_printed, output_of}
use Rattle.unit_io.proofs.OpenSides.{within, nowhere}
use Rattle.unit_io.proofs.Calls.{side_is}
use Rattle.unit_io.proofs.mem.MemUnits.bytes.Goals as goal

pub returns-in_default : goal.returns-in_default
returns-in_default c =
    let absent = nowhere 0 c.args.unit c.deref.result.now (sym c.place.ensures ∙ c.in_default.is) in
    let same = c.deref.ensures.value ∙ ap (λ (h : UnitsView). h.opened) c.self.view_is in
    let written = bytes_on c.args.unit (records_printed c.args.self.now.printed) in
    sym (ap (λ s. written_by s written) (ap (side_at c.args.unit) (sym same) ∙ absent))

pub index-requires : goal.index-requires
index-requires c = subst (λ n. c.in-Some.k < n) c.deref.ensures.len (within c.in-Some.k c.args.unit c.deref.result.now (sym c.place.ensures ∙ c.in-Some.is))

pub returns-in-Input : goal.returns-in-Input
returns-in-Input c =
    let i = c.self.inside in
    let held : UnitsView = record { opened = i.opened.items; printed = i.printed.items; failures = i.failures } in
    let found = ap (place_of 0 c.args.unit) (sym c.deref.ensures.value) ∙ sym c.place.ensures ∙ c.in-Some.is in
    let side = side_is c.args.self.now held c.self.view_is c.args.unit c.in-Some.k found c.index.result.now c.index.ensures in
    let written = bytes_on c.args.unit (records_printed c.args.self.now.printed) in
    sym (ap (λ s. written_by s written) (side ∙ ap Some c.in-Input.is))

pub returns-in-Output : goal.returns-in-Output
returns-in-Output c =
    let i = c.self.inside in
    let held : UnitsView = record { opened = i.opened.items; printed = i.printed.items; failures = i.failures } in
    let found = ap (place_of 0 c.args.unit) (sym c.deref.ensures.value) ∙ sym c.place.ensures ∙ c.in-Some.is in
    let side = side_is c.args.self.now held c.self.view_is c.args.unit c.in-Some.k found c.index.result.now c.index.ensures in
    let written = bytes_on c.args.unit (records_printed c.args.self.now.printed) in
    let at = side ∙ ap Some c.in-Output.is in
    let kept = subst IsKept c.self.view_is c.self.invariant in
    let same : c.as_slice.result.now ≡ written = c.as_slice.ensures ∙ ap output_of (sym at) ∙ kept.kept c.args.unit in
    ap Some same ∙ sym (ap (λ s. written_by s written) at)
