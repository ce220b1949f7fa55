use Rattle.std.proofs.Common.{sym}
use Rattle.prototypes.proofs.Distinct.{more_seen, seen_before}
use Rattle.prototypes.proofs.names.are_distinct.Goals as goal

pub loop-name-preserved : goal.loop-name-preserved
loop-name-preserved c =
    let put = c.in_ok-insert.ensures in
    more_seen c.args.names.now c.loop-name.seen.keys c.loop-name.name-index c.name-item.result c.in_ok-clone.field-0 c.in_ok-insert.field-0 c.loop-name-test.true c.name-item.is c.in_ok-clone.ensures.cases c.loop-name.invariant put.added
    c.insert.new.self.keys c.if-not-branch.false put.keys

pub returns-then-not-branch : goal.returns-then-not-branch
returns-then-not-branch c =
    let put = c.in_ok-insert.ensures in
    sym (seen_before c.args.names.now c.loop-name.seen.keys c.loop-name.name-index c.name-item.result c.in_ok-clone.field-0 c.in_ok-insert.field-0 c.loop-name-test.true c.name-item.is c.in_ok-clone.ensures.cases c.loop-name.invariant put.added c.if-not-branch.true)
