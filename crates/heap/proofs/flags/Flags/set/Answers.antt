use Rattle.std.proofs.Common.{◌<◌, false, true, length, ap, arith, ◌∙◌}
use Rattle.std.specs.Prelude.{slice_set}
use Rattle.heap.specs.Paged.{padded}
use Rattle.heap.proofs.Paging.{padded_set}
use Rattle.heap.proofs.flags.Flags.set.Goals as goal

pub returns : goal.returns
returns c =
    let xs = c.self.inside.flags.items in
    let is = ap length c.self.view_is in
    let lt : c.args.index < length xs = omega (arith, is, c.in_ok-fill.ensures.all) in
    padded_set false 512 c.args.index xs true lt ∙ ap (λ ms. slice_set ms c.args.index true) (ap (padded false 512) c.self.view_is ∙ c.in_ok-fill.ensures.same)
