use Rattle.std.proofs.Common.{◌<◌, ◌≤◌, length, map, sym, ap, ◌∙◌, arith}
use Rattle.std.proofs.lemmas.List.{length-map}
use Rattle.model.specs.Language.Names.{prim_at, most_args}
use Rattle.values.specs.Values.{value_of}
use Rattle.primitives.proofs.Called.{calls_function, calls_primitive, too_many}
use Rattle.primitives.proofs.applying.applied_to.Goals as goal

pub returns-in_default-clause-applied : goal.returns-in_default-clause-applied
returns-in_default-clause-applied c w at =
    calls_function (value_of c.args.name.now) (map value_of c.args.others.now) c.in_ok-name.name c.args.level w at c.in_ok-name.ensures.variable
    (sym (ap (prim_at c.args.level) c.as_slice.ensures) ∙ sym c.named_at.ensures ∙ c.in_default.is)

pub returns-then-most_arguments-others-clause-applied : goal.returns-then-most_arguments-others-clause-applied
returns-then-most_arguments-others-clause-applied c w at =
    let size = length-map c.args.others.now value_of in
    let many : most_args c.in-Some.id < length (map value_of c.args.others.now) = omega (arith, size, c.most_arguments.ensures, c.if-most_arguments-others.true) in
    too_many (value_of c.args.name.now) (map value_of c.args.others.now) c.in_ok-name.name c.args.level w at c.in_ok-name.ensures.variable c.in-Some.id
    (sym (ap (prim_at c.args.level) c.as_slice.ensures) ∙ sym c.named_at.ensures ∙ c.in-Some.is) many

pub returns-clause-applied : goal.returns-clause-applied
returns-clause-applied c w at =
    let size = length-map c.args.others.now value_of in
    let few : length (map value_of c.args.others.now) ≤ most_args c.in-Some.id = omega (arith, size, c.most_arguments.ensures, c.if-most_arguments-others.false) in
    calls_primitive (value_of c.args.name.now) (map value_of c.args.others.now) c.in_ok-name.name c.args.level w at c.in_ok-name.ensures.variable c.in-Some.id
    (sym (ap (prim_at c.args.level) c.as_slice.ensures) ∙ sym c.named_at.ensures ∙ c.in-Some.is) few
