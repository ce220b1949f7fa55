use Rattle.std.proofs.Common.{◌<◌, ◌∙◌, sym, ap, subst, Some, Err, refl, arith}
use Rattle.unit_io.specs.Held.{UnitsView, IsKept, IsWritable, is_shut, place_of, side_at}
use Rattle.std.specs.Prelude.{IsTrue}
use Rattle.unit_io.specs.Ways.{Writing}
use Rattle.unit_io.proofs.OpenSides.{within, nowhere}
use Rattle.unit_io.proofs.Calls.{as_open, written_open, side_is, written_is, written_told, written_kept}
use Rattle.unit_io.proofs.mem.MemUnitsUnits.write_record.Goals as goal

pub index_mut-open-requires : goal.index_mut-open-requires
index_mut-open-requires c = subst (λ n. c.in-Some.k < n) c.deref.ensures.len (within c.in-Some.k c.args.unit c.deref.result.now (sym c.place.ensures ∙ c.in-Some.is))

pub returns-in_default-clause-unopened : goal.returns-in_default-clause-unopened
returns-in_default-clause-unopened c =
    let absent = nowhere 0 c.args.unit c.deref.result.now (sym c.place.ensures ∙ c.in_default.is) in
    let same = c.deref.ensures.value ∙ ap (λ (h : UnitsView). h.opened) c.self.view_is in
    (λ is writable. subst IsWritable (ap (side_at c.args.unit) (sym same) ∙ absent) writable, λ not. ap Err c.refuse.ensures.answer)

pub returns-in_default-side-clause-unopened : goal.returns-in_default-side-clause-unopened
returns-in_default-side-clause-unopened c =
    let i = c.self.inside in
    let held : UnitsView = record { opened = i.opened.items; printed = i.printed.items; failures = i.failures } in
    let found = ap (place_of 0 c.args.unit) (sym c.deref.ensures.value) ∙ sym c.place.ensures ∙ c.in-Some.is in
    let side = side_is c.args.self.now held c.self.view_is c.args.unit c.in-Some.k found c.index_mut-open.result.now c.index_mut-open.ensures.value in
    (λ is writable. subst IsWritable (side ∙ ap Some c.in_default-side.is) writable, λ not. ap Err c.refuse-in_default-side.ensures.answer)

pub returns-clause-written : goal.returns-clause-written
returns-clause-written c =
    let i = c.self.inside in
    let held : UnitsView = record { opened = i.opened.items; printed = i.printed.items; failures = i.failures } in
    let found = ap (place_of 0 c.args.unit) (sym c.deref.ensures.value) ∙ sym c.place.ensures ∙ c.in-Some.is in
    written_is c.args.self.now held c.self.view_is c.args.unit c.in-Some.k found c.index_mut-open.result.now c.index_mut-open.ensures.value c.in-Output.lines c.put.new.lines c.args.bytes.now c.put.new.printed.items c.in-Output.is c.in-Ok.ensures.lines c.in-Ok.ensures.printed

pub returns-clause-ok : goal.returns-clause-ok
returns-clause-ok c = written_told c.args.unit c.args.bytes.now c.args.self.now _ (returns-clause-written c)

pub invariant_of-self-2 : goal.invariant_of-self-2
invariant_of-self-2 c =
    let i = c.self.inside in
    let held : UnitsView = record { opened = i.opened.items; printed = i.printed.items; failures = i.failures } in
    let found = ap (place_of 0 c.args.unit) (sym c.deref.ensures.value) ∙ sym c.place.ensures ∙ c.in-Some.is in
    let kept = subst IsKept c.self.view_is c.self.invariant in
    written_kept c.args.unit c.args.bytes.now c.args.self.now _ (returns-clause-written c) kept

pub returns-clause-unopened : goal.returns-clause-unopened
returns-clause-unopened c =
    (λ is. absurd (grind (arith, is)), λ not. absurd (not (subst IsWritable (sym (returns-clause-written c).1) tt)))

pub returns-in_default-put-clause-unopened : goal.returns-in_default-put-clause-unopened
returns-in_default-put-clause-unopened c =
    let i = c.self.inside in
    let held : UnitsView = record { opened = i.opened.items; printed = i.printed.items; failures = i.failures } in
    let found = ap (place_of 0 c.args.unit) (sym c.deref.ensures.value) ∙ sym c.place.ensures ∙ c.in-Some.is in
    let side = side_is c.args.self.now held c.self.view_is c.args.unit c.in-Some.k found c.index_mut-open.result.now c.index_mut-open.ensures.value in
    (λ is. absurd (grind (arith, is)), λ not. absurd (not (subst IsWritable (sym (side ∙ ap Some c.in-Output.is)) tt)))

pub returns-in_default-clause-may : goal.returns-in_default-clause-may
returns-in_default-clause-may c =
    let absent = nowhere 0 c.args.unit c.deref.result.now (sym c.place.ensures ∙ c.in_default.is) in
    let same = c.deref.ensures.value ∙ ap (λ (h : UnitsView). h.opened) c.self.view_is in
    λ failed. subst (λ s. IsTrue (is_shut Writing s)) (sym (ap (side_at c.args.unit) (sym same) ∙ absent)) refl

pub returns-in_default-side-clause-may : goal.returns-in_default-side-clause-may
returns-in_default-side-clause-may c =
    let i = c.self.inside in
    let held : UnitsView = record { opened = i.opened.items; printed = i.printed.items; failures = i.failures } in
    let found = ap (place_of 0 c.args.unit) (sym c.deref.ensures.value) ∙ sym c.place.ensures ∙ c.in-Some.is in
    let side = side_is c.args.self.now held c.self.view_is c.args.unit c.in-Some.k found c.index_mut-open.result.now c.index_mut-open.ensures.value in
    λ failed. subst (λ s. IsTrue (is_shut Writing s)) (sym (side ∙ ap Some c.in_default-side.is)) refl

pub returns-clause-no_more : goal.returns-clause-no_more
returns-clause-no_more c = written_open c.args.unit c.args.bytes.now c.args.self.now _ (returns-clause-written c)

pub returns-in_default-clause-no_more : goal.returns-in_default-clause-no_more
returns-in_default-clause-no_more c = as_open c.args.self.now c.refuse.new.self (ap (λ (h : UnitsView). h.opened) c.refuse.ensures.counted)

pub returns-in_default-put-clause-may : goal.returns-in_default-put-clause-may
returns-in_default-put-clause-may c = λ failed. absurd (failed refl)
