use Rattle.std.proofs.Common.{arith}
use Rattle.loader.proofs.Sizes.{places_short}
use Rattle.loader.proofs.places.code_offset.Goals as goal

pub overflow_add-result : goal.overflow_add-result
overflow_add-result c = omega (arith, (places_short c.args.version c.args.image.now c.requires).code, c.ranges.at.fits, c.places_of.ensures.code)
