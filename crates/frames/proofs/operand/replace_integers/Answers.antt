use Rattle.std.proofs.Common.{◌∷◌, drop, ap}
use Rattle.frames.specs.Kinds.{kinds_of}
use Rattle.frames.specs.declared.operand.Operand.TheVariants as operand
use Rattle.values.specs.declared.value.Value.TheVariants as value
use Rattle.frames.proofs.operand.replace_integers.Goals as goal

pub pop_value-requires : goal.pop_value-requires
pop_value-requires c = (kinds_of (operand.Value (value.Integer c.requires.0) ∷ drop 2 c.args.operands.now.top), ap kinds_of c.requires.2)
