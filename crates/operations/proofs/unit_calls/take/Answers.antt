use Rattle.std.proofs.Common.{ap, sym}
use Rattle.model.specs.Language.Keywords.{IsInteger}
use Rattle.world.specs.Held.{world_of}
use Rattle.operations.proofs.UnitCalls.{too_long, taken_as}
use Rattle.operations.proofs.unit_calls.take.Goals as goal

pub returns-then-len-longest-clause-taken : goal.returns-then-len-longest-clause-taken
returns-then-len-longest-clause-taken c io = too_long c.args.name.now c.args.line c.in_ok-text.text (world_of c.args.world.now io) _ _ (c.in_ok-text.ensures.ok io) c.len.ensures (ap IsInteger (sym c.longest.ensures)) c.if-len-longest.true

pub returns-clause-taken : goal.returns-clause-taken
returns-clause-taken c io = taken_as c.args.name.now c.args.line c.in_ok-text.text _ (world_of c.args.world.now io) _ c.len.result c.longest.result (c.in_ok-text.ensures.ok io) c.in_ok-copy.ensures.cases c.len.ensures (ap IsInteger (sym c.longest.ensures)) c.if-len-longest.false (c.in_ok-_unit.ensures.set io)
