use Rattle.std.proofs.Common.{length, ap, sym, ◌∙◌}
use Rattle.model.specs.Machine.Living.{no_object}
use Rattle.heap.proofs.Paging.{taken_long}
use Rattle.heap.proofs.pages.Pages.count.Goals as goal

pub returns : goal.returns
returns g c = sym (taken_long no_object c.self.inside.count c.self.inside.pages.items c.self.invariant.1) ∙ ap length c.self.view_is
