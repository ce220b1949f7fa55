use Rattle.std.proofs.Common.{◌≡◌, ◌+◌, arith, length, subst}
use Rattle.aggregates.specs.Elements.{all_of}
use Rattle.aggregates.specs.Made.{StandBelow}
use Rattle.aggregates.proofs.Lists.{unwritten_stand, written_stand}
use Rattle.aggregates.proofs.elements.Elements.held.Goals as goal

pub returns-then-self-eq0 : goal.returns-then-self-eq0
returns-then-self-eq0 g c =
    let it = c.args.self.now in
    let long : length it.written.items ≡ c.len.result = omega (arith, c.len.ensures, it.written.ok.0) in
    subst (λ n. StandBelow n (all_of it)) long (written_stand it.written.items it.rest it.unwritten (omega (arith, c.if-self-eq0.true)))

pub returns-else-self-eq0 : goal.returns-else-self-eq0
returns-else-self-eq0 g c =
    let it = c.args.self.now in
    let long : length it.written.items ≡ c.len-else-self-eq0.result = omega (arith, c.len-else-self-eq0.ensures, it.written.ok.0) in
    subst (λ n. StandBelow (n + 1) (all_of it)) long (unwritten_stand it.written.items it.rest it.unwritten)
