use Rattle.std.proofs.Common.{◌≡◌, ◌++◌, ◌≤◌, map, length, vec_capacity}
use Rattle.frames.specs.declared.operand.Operand.TheVariants.{Value}
use Rattle.frames.proofs.operand.pop_values.Given as goal

abbrev pub invariant-loop-turn : goal.invariant-loop-turn
invariant-loop-turn l = record {
  taken : l.fn.operands ≡ record { top = map Value l.values.items ++ l.operands.top; under = l.operands.under };
  count : length l.values.items ≡ l._turn;
  room : l.count ≤ vec_capacity l.values;
}
