use Rattle.std.proofs.Common.{◌≤◌, ◌/◌, length, nat_eq, arith}
use Rattle.std.proofs.lemmas.Bool.Decides.{nat_tests}
use Rattle.indexmap.specs.IndexMap.{get}
use Rattle.flow_check.proofs.Packing.{put_past}
use Rattle.flow_check.proofs.marks.Marks.put.Goals as goal

pub returns-then-not-has : goal.returns-then-not-has
returns-then-not-has c =
    let far : length c.args.self.now.slots.bytes.items ≤ c.args.target / 4 = grind (arith, nat_tests, c.has.ensures, c.if-not-has.true) in
    put_past c.args.self.now.slots.bytes.items c.args.target c.args.mark (get nat_eq c.args.self.now.map) (get nat_eq c.insert.new.self) far c.in_ok-insert.ensures.updates.0
