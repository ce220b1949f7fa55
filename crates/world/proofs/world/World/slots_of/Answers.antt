use Rattle.std.proofs.Common.{◌∷◌, [], ◌++◌, ap, length, subst, sym, ◌∙◌, arith}
use Rattle.std.proofs.lemmas.List.{length-append}
use Rattle.world.specs.Slots.{AreSlotsOf}
use Rattle.world.proofs.Slots.{no_slots, slot_turn}
use Rattle.world.proofs.world.World.slots_of.Goals as goal

pub loop-name-init : goal.loop-name-init
loop-name-init c = record {
  count = ap length c.new-slots.ensures.items;
  slots = subst (λ l. AreSlotsOf c.args.names.now l c.args.self.now.names) (sym c.new-slots.ensures.items) (no_slots c.args.names.now c.args.self.now.names);
}

pub loop-name-preserved : goal.loop-name-preserved
loop-name-preserved c =
    let slots = c.loop-name.slots.items in record {
      count = omega (arith, ap length c.in_ok-push.ensures.items, length-append slots (c.kept_slot.result ∷ []), c.loop-name.invariant.count);
      slots = slot_turn c.args.names.now c.args.self.now.names slots c.push.new.self.items c.loop-name.name-index c.kept_slot.result c.name-item.result c.loop-name.invariant.count c.loop-name-test.true c.name-item.is
          c.in_ok-push.ensures.items c.kept_slot.ensures c.loop-name.invariant.slots;
    }
