use Rattle.prototypes.proofs.Bounds.{is_written}
use Rattle.prototypes.proofs.array.written_integer.Goals as goal

pub returns : goal.returns
returns c = is_written c.args.text.now c.read_int.result c.if-is_empty.ensures c.read_int.ensures
