use Rattle.std.proofs.Common.{◌≡◌, ◌++◌, ◌∷◌, [], ap, arith, ◌∙◌}
use Rattle.std.specs.Prelude.{take}
use Rattle.model.specs.Machine.Living.{no_object}
use Rattle.heap.specs.Paged.{paged}
use Rattle.heap.proofs.Paging.{taken_same}
use Rattle.heap.proofs.pages.make_room.Goals as goal

pub returns-in_ok-push-clause-kept : goal.returns-in_ok-push-clause-kept
returns-in_ok-push-clause-kept g c =
    let ps = c.args.pages.now.items in
    let n = c.args.count in
    let pushed : c.push.new.self.items ≡ ps ++ [] ∷ [] = c.in_ok-push.ensures.items ∙ ap (λ p. ps ++ p ∷ []) c.in_ok-page.ensures in
    ap (λ xs. take n (paged no_object 512 xs)) pushed ∙ taken_same no_object n ps (omega (arith, c.requires.counted))
