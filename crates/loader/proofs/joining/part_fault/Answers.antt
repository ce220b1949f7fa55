use Rattle.std.proofs.Common.{arith}
use Rattle.loader.proofs.Sizes.{places_short}
use Rattle.loader.proofs.joining.part_fault.Goals as goal

pub label_fault-requires : goal.label_fault-requires
label_fault-requires c = omega (arith, (places_short c.args.version c.args.image.now c.requires.spelt).labels, c.places_of-places.ensures.labels)

pub statement_fault-requires-clause-there : goal.statement_fault-requires-clause-there
statement_fault-requires-clause-there c = omega (arith, (places_short c.args.version c.args.image.now c.requires.spelt).statements, c.places_of-places.ensures.statements)

pub expression_fault-requires-clause-there : goal.expression_fault-requires-clause-there
expression_fault-requires-clause-there c = omega (arith, (places_short c.args.version c.args.image.now c.requires.spelt).expressions, c.places_of-places.ensures.expressions)

pub patterns_fault-requires-clause-there : goal.patterns_fault-requires-clause-there
patterns_fault-requires-clause-there c = omega (arith, (places_short c.args.version c.args.image.now c.requires.spelt).patterns, c.places_of-places.ensures.patterns)

pub code_fault-requires-clause-there : goal.code_fault-requires-clause-there
code_fault-requires-clause-there c = omega (arith, (places_short c.args.version c.args.image.now c.requires.spelt).code, c.places_of-places.ensures.code)
