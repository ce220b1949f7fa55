use Rattle.std.proofs.Common.{ap, arith, length}
use Rattle.loader.proofs.Sizes.{places_short}
use Rattle.loader.proofs.places.places_of.Goals as goal

pub overflow_add-labels-3 : goal.overflow_add-labels-3
overflow_add-labels-3 c =
    let short = places_short c.args.version c.args.image.now c.requires in
    omega (arith, short.labels, c.entry_at.ensures, c.strings_size.ensures)

pub overflow_add-labels-4 : goal.overflow_add-labels-4
overflow_add-labels-4 c =
    let short = places_short c.args.version c.args.image.now c.requires in
    omega (arith, short.labels, c.entry_at.ensures, c.strings_size.ensures)

pub overflow_add-statements : goal.overflow_add-statements
overflow_add-statements c =
    let short = places_short c.args.version c.args.image.now c.requires in
    omega (arith, short.statements, c.entry_at.ensures, c.strings_size.ensures, ap length c.labels.ensures)

pub overflow_add-statements-2 : goal.overflow_add-statements-2
overflow_add-statements-2 c =
    let short = places_short c.args.version c.args.image.now c.requires in
    omega (arith, short.statements, c.entry_at.ensures, c.strings_size.ensures, ap length c.labels.ensures)
