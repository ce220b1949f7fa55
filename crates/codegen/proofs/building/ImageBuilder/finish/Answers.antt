use Rattle.std.proofs.Common.{map, refl, arith}
use Rattle.expr_codegen.specs.Views.{gen_of}
use Rattle.codegen.specs.Labels.{name_of}
use Rattle.codegen.proofs.BuiltImages.{countable_left, finished, room_left}
use Rattle.codegen.proofs.building.ImageBuilder.finish.Goals as goal

pub put_expressions-requires-clause-countable : goal.put_expressions-requires-clause-countable
put_expressions-requires-clause-countable c = let r = c.requires.put in countable_left (map name_of c.args.names.now) r.0 c.args.self r.1 r.2

pub put_expressions-requires-clause-room : goal.put_expressions-requires-clause-room
put_expressions-requires-clause-room c =
    let r = c.requires.put in
    let s = room_left (map name_of c.args.names.now) r.0 c.args.self r.1 r.2 in
    omega (arith, s)

pub put_labels-requires-clause-room : goal.put_labels-requires-clause-room
put_labels-requires-clause-room c =
    let r = c.requires.put in
    let s = room_left (map name_of c.args.names.now) r.0 c.args.self r.1 r.2 in
    let more = c.in_ok-expressions.ensures.size in
    let few = c.requires.few in
    omega (arith, s, more, few)

pub returns : goal.returns
returns c = λ ss h fits are.
    finished c.args.cards (map name_of c.args.names.now) ss c.args.self c.in_ok-expressions.expressions.items c.in_ok-named.named.items c.entry_or_first.result (gen_of c.put_expressions.new.g) (gen_of c.put_labels.new.g) _ h fits are
    c.in_ok-expressions.ensures.laid c.in_ok-named.ensures.texts c.in_ok-named.ensures.code c.in_ok-named.ensures.labels c.entry_or_first.ensures
    (record { entry = refl; strings = c.into_parts-code.ensures.strings; labels = refl; statements = refl; cards = refl; expressions = refl; patterns = c.new.ensures; code = c.into_parts-code.ensures.code })
