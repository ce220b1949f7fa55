use Rattle.std.proofs.Common.{ap, sym, ◌∙◌, arith}
use Rattle.frames.specs.Kinds.{kinds_of}
use Rattle.frames.specs.Stacked.{Stacked}
use Rattle.frames.specs.declared.operand.Operand.{Operand}
use Rattle.frames.proofs.Stacks.{pops, top_is}
use Rattle.frames.proofs.operand.pop_values.Goals as goal

pub pop_value-requires : goal.pop_value-requires
pop_value-requires c =
    top_is c.loop-turn.values.items c.args.count c.loop-turn.operands.top c.requires.0 (ap (λ (s : Stacked Operand). kinds_of s.top) (sym c.loop-turn.invariant.taken) ∙ c.requires.1)
    (omega (arith, c.loop-turn.invariant.count, c.loop-turn-test.true))

pub returns-clause-pops : goal.returns-clause-pops
returns-clause-pops c w k =
    pops c.args.count c.loop-turn.values.items c.reverse.new.self.items c.args.operands.now.top c.loop-turn.operands.top w k
    (omega (arith, c.loop-turn.invariant.count, c.loop-turn-test.false)) c.reverse.ensures.items (ap (λ (s : Stacked Operand). s.top) c.loop-turn.invariant.taken)
