use Rattle.std.proofs.Common.{◌≡◌, Some, sym, ◌∙◌}
use Rattle.std.specs.Prelude.{option_map}
use Rattle.model.specs.Language.Prototypes.{function_prototype}
use Rattle.prototypes.specs.Views.{without_slots}
use Rattle.world.specs.Held.{world_of}
use Rattle.values.specs.Values.{value_of}
use Rattle.primitives.proofs.Defined.{as_read, defined}
use Rattle.primitives.proofs.defining.define.Goals as goal

pub define-requires : goal.define-requires
define-requires c = (as_read (function_prototype c.module_level.result c.as_slice.result.now) c.in-Some.prototype (sym c.in_ok-prototype.ensures ∙ c.in-Some.is)).1

pub returns-clause-answer : goal.returns-clause-answer
returns-clause-answer c io =
    let level = c.args.world.now.level in
    let text = c.in_ok-text.text in
    let read : option_map without_slots (function_prototype level text) ≡ Some c.in-Some.prototype =
    sym (λ i. option_map without_slots (function_prototype (c.module_level.ensures i) (c.as_slice.ensures i))) ∙ sym c.in_ok-prototype.ensures ∙ c.in-Some.is in
    defined (value_of c.args.prototype.now) (value_of c.args.label.now) (value_of c.null.result) text c.in_ok-entry.entry c.in-Some.prototype (world_of c.args.world.now io) (world_of c.define.new.self io)
    c.in_ok-text.ensures.text c.in_ok-entry.ensures.label (as_read (function_prototype level text) c.in-Some.prototype read).0 (c.in_ok-define.ensures.ok io) (sym c.null.ensures)
