use Rattle.std.proofs.Common.{rules, sym, arith}
use Rattle.operations.proofs.Naming.{integer_put}
use Rattle.operations.proofs.items.put_integers.Goals as goal

pub loop-k-preserved : goal.loop-k-preserved
loop-k-preserved c =
    integer_put c.args.values.now c.loop-k.integers c.loop-k.k c.in_ok-integers.field-0 _ c.index-values-k.result _ (omega arith) (omega arith) c.index-values-k.is (search rules) (sym c.in_ok-integers.ensures) c.loop-k.invariant
