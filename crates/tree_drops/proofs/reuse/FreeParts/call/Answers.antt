use Rattle.std.proofs.Common.{◌≡◌, ◌∙◌, refl}
use Rattle.model.proofs.Decks.ArgumentLists.{call_is}
use Rattle.tree_drops.proofs.reuse.FreeParts.call.Goals as goal

pub returns-in-Call : goal.returns-in-Call
returns-in-Call c =
    call_is c.extend_from_slice.new.self c.replace-gone.new.dest
    ∙ rw (c.in_ok-extend_from_slice.ensures.items, c.clear.ensures.items, c.replace-gone.ensures.after) refl

pub returns : goal.returns
returns c = rw (c.in_ok-new.ensures.ok, call_is c.in_ok-name.name c.args.arguments, c.in_ok-name.ensures.items) refl
