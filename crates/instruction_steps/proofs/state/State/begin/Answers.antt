use Rattle.std.proofs.Common.{refl}
use Rattle.instruction_steps.proofs.Beginning.{limit_ends, entered}
use Rattle.instruction_steps.proofs.state.State.begin.Goals as goal

pub returns-then-is_over_limit-clause-left : goal.returns-then-is_over_limit-clause-left
returns-then-is_over_limit-clause-left c im fs io number =
    limit_ends im fs c.args.target c.args.next c.args.entered c.args.self.now io number c.is_over_limit.result (c.is_over_limit.ensures io) c.if-is_over_limit.true

pub returns-clause-left : goal.returns-clause-left
returns-clause-left c im fs io number =
    entered im fs c.args.target c.args.next c.args.entered c.args.self.now io number (record c.args.self.now { place = c.args.next; handlers = c.push.new.self; world = c.enter_statement.new.self }) c.is_over_limit.result (c.is_over_limit.ensures io) c.if-is_over_limit.false
    refl refl c.in_ok-push.ensures.ok refl (c.enter_statement.ensures.entered io)
