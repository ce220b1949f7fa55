use Rattle.std.proofs.Common.{◌≡◌, refl, ◌∙◌, w64, to_z, of_z, rules}
use Rattle.world.specs.Held.{world_of}
use Rattle.world.proofs.Giving.{entered, put_count, saved_before}
use Rattle.world.proofs.Saving.{kept_is}
use Rattle.world.proofs.Slots.{prototype_slots}
use Rattle.world.proofs.world.World.enter_call.Goals as goal

pub exchange_all-requires-clause-slots : goal.exchange_all-requires-clause-slots
exchange_all-requires-clause-slots c = prototype_slots c.args.prototype c.names.result.now c.slots.result.now c.args.self.now.names c.names.ensures.names c.slots.ensures c.requires

pub exchange_all-requires-clause-count : goal.exchange_all-requires-clause-count
exchange_all-requires-clause-count c =
    put_count c.args.prototype c.args.arguments.now.items c.args.saved.now.items c.put_values.new.values.items c.len-base.result (c.len-base.ensures ∙ c.args.saved.now.ok.0) c.in_ok-put_values.ensures c.names.result.now c.names.ensures.names

pub returns-clause-entered : goal.returns-clause-entered
returns-clause-entered c io =
    entered c.args.prototype c.args.arguments.now.items c.args.saved.now.items c.put_values.new.values.items c.len-base.result (c.len-base.ensures ∙ c.args.saved.now.ok.0) c.in_ok-put_values.ensures c.names.result.now
    (world_of c.args.self.now io) (world_of c.exchange_all.new.self io) (world_of c.deepen.new.self io) c.names.ensures.names (c.in_ok-exchange_all.ensures.set io) (c.deepen.ensures.set io)

pub returns-clause-kept : goal.returns-clause-kept
returns-clause-kept c =
    let here = c.statement-statement.result in
    let depth = c.level-level.result in
    let statement : here ≡ to_z w64 (of_z w64 here) = search rules in
    let level : depth ≡ to_z w64 (of_z w64 depth) = search rules in
    kept_is c.args.prototype (record { prototype = c.args.prototype; statement = to_z w64 (of_z w64 here); level = to_z w64 (of_z w64 depth) }) c.names.result.now c.args.self.now c.args.saved.now.items c.exchange_all.new.values.items
    refl c.names.ensures.names (c.statement-statement.ensures ∙ statement) (c.level-level.ensures ∙ level)
    (saved_before c.args.prototype c.args.arguments.now.items c.args.saved.now.items c.put_values.new.values.items c.len-base.result (c.len-base.ensures ∙ c.args.saved.now.ok.0) c.in_ok-put_values.ensures c.names.result.now c.exchange_all.new.values.items c.args.self.now c.in_ok-exchange_all.ensures.had)
