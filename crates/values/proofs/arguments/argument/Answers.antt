use Rattle.std.proofs.Common.{ap, ◌∙◌}
use Rattle.values.specs.Values.{value_of}
use Rattle.values.proofs.Passing.{arg_there, arg_absent}
use Rattle.values.proofs.arguments.argument.Goals as goal

pub returns-in-Some : goal.returns-in-Some
returns-in-Some c = ap value_of c.in-Some.ensures.lookup.1 ∙ arg_there c.args.arguments.now c.args.number _ c.in-Some.ensures.lookup.0

pub returns-in-None : goal.returns-in-None
returns-in-None c = c.requires ∙ arg_absent c.args.arguments.now c.args.number c.in-None.ensures.lookup.0
