use Rattle.std.proofs.Common.{◌∙◌, ap}
use Rattle.unit_io.specs.Files.{file_on}
use Rattle.unit_io.proofs.Holding.{none_more}
use Rattle.unit_io.proofs.file.make_room.Goals as goal

pub room-preserved : goal.room-preserved
room-preserved g c = λ u.
    ap (file_on u) c.in_ok-push.ensures.items ∙ none_more u c.room.given.items ∙ c.room.invariant u
