use Rattle.flow_check.proofs.Packing.{new_slots}
use Rattle.flow_check.proofs.slots.Slots.new.Goals as goal

pub returns : goal.returns
returns c = λ y. new_slots c.in_ok-vec.field-0.items _ y (c.in_ok-vec.ensures.items_if_clones_equal (λ z same. same))
