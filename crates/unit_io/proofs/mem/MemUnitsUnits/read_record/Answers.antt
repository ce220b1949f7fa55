use Rattle.std.proofs.Common.{◌<◌, ◌∙◌, sym, ap, subst, Some, Err, refl, arith}
use Rattle.unit_io.specs.Held.{UnitsView, IsReadable, is_shut, place_of, side_at}
use Rattle.std.specs.Prelude.{IsTrue}
use Rattle.unit_io.specs.Ways.{Reading}
use Rattle.unit_io.proofs.OpenSides.{within, nowhere}
use Rattle.unit_io.proofs.Calls.{as_open, read_open, side_is, read_is, read_told, input_kept}
use Rattle.unit_io.proofs.mem.MemUnitsUnits.read_record.Goals as goal

pub index_mut-open-requires : goal.index_mut-open-requires
index_mut-open-requires c = subst (λ n. c.in-Some.k < n) c.deref.ensures.len (within c.in-Some.k c.args.unit c.deref.result.now (sym c.place.ensures ∙ c.in-Some.is))

pub returns-in_default-clause-unopened : goal.returns-in_default-clause-unopened
returns-in_default-clause-unopened c =
    let absent = nowhere 0 c.args.unit c.deref.result.now (sym c.place.ensures ∙ c.in_default.is) in
    let same = c.deref.ensures.value ∙ ap (λ (h : UnitsView). h.opened) c.self.view_is in
    (λ is readable. subst IsReadable (ap (side_at c.args.unit) (sym same) ∙ absent) readable, λ not. ap Err c.refuse.ensures.answer)

pub returns-in_default-side-clause-unopened : goal.returns-in_default-side-clause-unopened
returns-in_default-side-clause-unopened c =
    let i = c.self.inside in
    let held : UnitsView = record { opened = i.opened.items; printed = i.printed.items; failures = i.failures } in
    let found = ap (place_of 0 c.args.unit) (sym c.deref.ensures.value) ∙ sym c.place.ensures ∙ c.in-Some.is in
    let side = side_is c.args.self.now held c.self.view_is c.args.unit c.in-Some.k found c.index_mut-open.result.now c.index_mut-open.ensures.value in
    (λ is readable. subst IsReadable (side ∙ ap Some c.in_default-side.is) readable, λ not. ap Err c.refuse-in_default-side.ensures.answer)

pub returns-clause-read : goal.returns-clause-read
returns-clause-read c =
    let i = c.self.inside in
    let held : UnitsView = record { opened = i.opened.items; printed = i.printed.items; failures = i.failures } in
    let found = ap (place_of 0 c.args.unit) (sym c.deref.ensures.value) ∙ sym c.place.ensures ∙ c.in-Some.is in
    read_is c.args.self.now held c.self.view_is c.args.unit c.in-Some.k found c.index_mut-open.result.now c.index_mut-open.ensures.value c.in-Input.records c.take_first.new.self c.in-Ok.got c.in-Input.is c.in-Ok.ensures.ok

pub returns-clause-ok : goal.returns-clause-ok
returns-clause-ok c = read_told c.args.unit c.in-Ok.got c.args.self.now _ (returns-clause-read c)

pub invariant_of-self-2 : goal.invariant_of-self-2
invariant_of-self-2 c =
    let i = c.self.inside in
    let held : UnitsView = record { opened = i.opened.items; printed = i.printed.items; failures = i.failures } in
    let found = ap (place_of 0 c.args.unit) (sym c.deref.ensures.value) ∙ sym c.place.ensures ∙ c.in-Some.is in
    input_kept held held refl c.args.unit c.in-Some.k found c.index_mut-open.result.now c.index_mut-open.ensures.value c.in-Input.records c.take_first.new.self c.in-Input.is c.self.invariant

pub returns-in_default-take_first-clause-unopened : goal.returns-in_default-take_first-clause-unopened
returns-in_default-take_first-clause-unopened c =
    let i = c.self.inside in
    let held : UnitsView = record { opened = i.opened.items; printed = i.printed.items; failures = i.failures } in
    let found = ap (place_of 0 c.args.unit) (sym c.deref.ensures.value) ∙ sym c.place.ensures ∙ c.in-Some.is in
    let side = side_is c.args.self.now held c.self.view_is c.args.unit c.in-Some.k found c.index_mut-open.result.now c.index_mut-open.ensures.value in
    (λ is. absurd (grind (arith, is)), λ not. absurd (not (subst IsReadable (sym (side ∙ ap Some c.in-Input.is)) tt)))

pub returns-clause-unopened : goal.returns-clause-unopened
returns-clause-unopened c =
    (λ is. absurd (grind (arith, is)), λ not. absurd (not (subst IsReadable (sym (returns-clause-read c).1) tt)))

pub returns-in_default-clause-may : goal.returns-in_default-clause-may
returns-in_default-clause-may c =
    let absent = nowhere 0 c.args.unit c.deref.result.now (sym c.place.ensures ∙ c.in_default.is) in
    let same = c.deref.ensures.value ∙ ap (λ (h : UnitsView). h.opened) c.self.view_is in
    λ failed. subst (λ s. IsTrue (is_shut Reading s)) (sym (ap (side_at c.args.unit) (sym same) ∙ absent)) refl

pub returns-in_default-side-clause-may : goal.returns-in_default-side-clause-may
returns-in_default-side-clause-may c =
    let i = c.self.inside in
    let held : UnitsView = record { opened = i.opened.items; printed = i.printed.items; failures = i.failures } in
    let found = ap (place_of 0 c.args.unit) (sym c.deref.ensures.value) ∙ sym c.place.ensures ∙ c.in-Some.is in
    let side = side_is c.args.self.now held c.self.view_is c.args.unit c.in-Some.k found c.index_mut-open.result.now c.index_mut-open.ensures.value in
    λ failed. subst (λ s. IsTrue (is_shut Reading s)) (sym (side ∙ ap Some c.in_default-side.is)) refl

pub returns-clause-no_more : goal.returns-clause-no_more
returns-clause-no_more c = read_open c.args.unit c.in-Ok.got c.args.self.now _ (returns-clause-read c)

pub returns-in_default-clause-no_more : goal.returns-in_default-clause-no_more
returns-in_default-clause-no_more c = as_open c.args.self.now c.refuse.new.self (ap (λ (h : UnitsView). h.opened) c.refuse.ensures.counted)

pub returns-in_default-take_first-clause-may : goal.returns-in_default-take_first-clause-may
returns-in_default-take_first-clause-may c = λ failed. absurd (failed refl)
