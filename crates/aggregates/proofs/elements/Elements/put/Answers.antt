use Rattle.std.proofs.Common.{◌≡◌, ◌++◌, ap, subst}
use Rattle.aggregates.specs.Elements.{rest_of}
use Rattle.aggregates.specs.Objects.{if_stored}
use Rattle.model.specs.Language.Operators.{with_item}
use Rattle.aggregates.proofs.Lists.{stored_front}
use Rattle.aggregates.proofs.elements.Elements.put.Goals as goal

pub returns-clause-stored : goal.returns-clause-stored
returns-clause-stored g c is =
    let e = c.args.self.now in
    stored_front c.args.place c.args.value e.written.items c.put.new.items.items (rest_of e.rest e.unwritten) (c.put.ensures.within is) (subst (λ b. if_stored b c.put.new.items.items ≡ with_item c.args.place c.args.value e.written.items) is c.put.ensures.stored)

pub returns-clause-nowhere : goal.returns-clause-nowhere
returns-clause-nowhere g c is =
    ap (λ l. l ++ rest_of c.args.self.now.rest c.args.self.now.unwritten) (c.put.ensures.nowhere is)
