use Rattle.match_machine.proofs.WaysBack.{next_arb, next_last}
use Rattle.match_machine.proofs.BalEnds.{next_bal, next_last_bal}
use Rattle.match_machine.proofs.falls.next_end.Goals as goal

pub returns-then-at-bytes-clause-next : goal.returns-then-at-bytes-clause-next
returns-then-at-bytes-clause-next c =
    rw c.in-Arb.is (next_arb c.args.bytes.now c.args.trail.now c.args.place c.in-Arb.end c.lost_ends-passed.result.0 c.lost_ends-passed.result.1 c.lost_ends-passed.ensures.passed c.if-at-bytes.true)

pub returns-else-at-bytes-clause-next : goal.returns-else-at-bytes-clause-next
returns-else-at-bytes-clause-next c =
    rw c.in-Arb.is (next_last c.args.bytes.now c.args.trail.now c.args.place c.in-Arb.end c.lost_ends-passed.result.0 c.lost_ends-passed.result.1 c.lost_ends-passed.ensures.passed c.if-at-bytes.false)

pub returns-in-Some-clause-next : goal.returns-in-Some-clause-next
returns-in-Some-clause-next c =
    rw c.in-Bal.is (next_bal c.args.bytes.now c.args.trail.now c.args.place c.in-Bal.end c.lost_bals-at.result.0 c.lost_bals-at.result.1 c.in-Some.further c.lost_bals-at.ensures.passed c.in-Some.ensures.ends)

pub returns-in-None-clause-next : goal.returns-in-None-clause-next
returns-in-None-clause-next c =
    rw c.in-Bal.is (next_last_bal c.args.bytes.now c.args.trail.now c.args.place c.in-Bal.end c.lost_bals-at.result.0 c.lost_bals-at.result.1 c.lost_bals-at.ensures.passed c.in-None.ensures.ends)
