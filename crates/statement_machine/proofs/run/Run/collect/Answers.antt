use Rattle.std.proofs.Common.{IfSome, refl, subst}
use Rattle.statement_machine.proofs.GivingBack.{as_it_was, given_world}
use Rattle.statement_machine.specs.Collecting.{StateLives}
use Rattle.statement_machine.proofs.run.Run.collect.Goals as goal

pub returns-then-not-is_in_calls : goal.returns-then-not-is_in_calls
returns-then-not-is_in_calls c = as_it_was c.args.self.now (record c.args.self.now { pace = c.begin.new.self }) refl

pub returns-in_default : goal.returns-in_default
returns-in_default c = as_it_was c.args.self.now (record c.args.self.now { pace = c.begin.new.self }) refl

pub returns-in_default-2 : goal.returns-in_default-2
returns-in_default-2 c = as_it_was c.args.self.now (record c.args.self.now { pace = c.begin.new.self }) refl

pub returns : goal.returns
returns c =
    let lives = subst (λ o. IfSome o (λ marks. StateLives c.args.self.now.state marks)) c.in-Ok-Some.field-0-is c.in-Ok-Some.ensures in
    given_world c.args.self.now c.begin-2.new.self c.drop_unmarked.new.world c.in-Ok-Some.marks (c.is_in_calls.ensures c.if-not-is_in_calls.false) lives c.drop_unmarked.ensures
