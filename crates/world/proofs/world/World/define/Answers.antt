use Rattle.std.proofs.Common.{Some, subst, sym, ◌∙◌}
use Rattle.std.proofs.lemmas.Result.{on_ok_weaker}
use Rattle.model.specs.Language.Primitives.{define_op}
use Rattle.world.specs.Held.{WorldView, world_of}
use Rattle.world.specs.Slots.{HasSlots}
use Rattle.world.proofs.Slots.{given_slots, same_prototype}
use Rattle.world.proofs.world.World.define.Goals as goal

pub define_here-requires : goal.define_here-requires
define_here-requires c =
    subst (λ (h : WorldView). HasSlots h.names c.in_ok-prototype.prototype) (sym c.note_function.ensures)
    (given_slots c.args.prototype c.in_ok-prototype.prototype c.in_ok-slots.slots.items c.names.result.now c.args.self.now.names c.names.ensures.names c.requires c.in_ok-slots.ensures c.in_ok-prototype.ensures)

pub returns-clause-ok : goal.returns-clause-ok
returns-clause-ok c =
    on_ok_weaker c.define_here.result
    (λ defined io. (λ i. define_op c.args.entry (Some (sym (same_prototype c.args.prototype c.in_ok-prototype.prototype c.in_ok-slots.slots.items c.in_ok-prototype.ensures) i)) (world_of (sym c.note_function.ensures i) io)) ∙ defined io)
    c.define_here.ensures.ok
