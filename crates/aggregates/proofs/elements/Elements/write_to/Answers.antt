use Rattle.std.proofs.Common.{◌++◌, ◌-◌, ◌∙◌, ap, arith}
use Rattle.aggregates.specs.Elements.{rest_of}
use Rattle.aggregates.proofs.Lists.{rest_written}
use Rattle.aggregates.proofs.elements.Elements.write_to.Goals as goal

pub returns-clause-same : goal.returns-clause-same
returns-clause-same g c =
    let e = c.args.self.now in
    let room = c.reserve_first.new.items in
    let count = c.min-count.result in
    ap (λ l. l ++ rest_of e.rest (e.unwritten - count)) c.in_ok-append.ensures.appended
    ∙ rest_written room.items c.in-Some.value count e.unwritten e.rest c.in-Some.is (omega (arith, c.min-count.ensures))
    ∙ ap (λ l. l ++ rest_of e.rest e.unwritten) c.reserve_first.ensures
