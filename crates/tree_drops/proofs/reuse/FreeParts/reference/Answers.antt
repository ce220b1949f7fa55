use Rattle.std.proofs.Common.{◌≡◌, ◌∙◌, refl}
use Rattle.model.proofs.Decks.ArgumentLists.{reference_is}
use Rattle.tree_drops.proofs.reuse.FreeParts.reference.Goals as goal

pub returns-in-Reference : goal.returns-in-Reference
returns-in-Reference c =
    reference_is c.extend_from_slice.new.self c.replace-gone.new.dest
    ∙ rw (c.in_ok-extend_from_slice.ensures.items, c.clear.ensures.items, c.replace-gone.ensures.after) refl

pub returns : goal.returns
returns c = rw (c.in_ok-new.ensures.ok, reference_is c.in_ok-name.name c.args.subscripts, c.in_ok-name.ensures.items) refl
