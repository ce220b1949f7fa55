use Rattle.std.proofs.Common.{◌≡◌, ◌<◌, List, ◌∷◌, [], length, refl, ap, ◌∙◌, arith, w64, to_z, of_z, rules}
use Rattle.std.proofs.lemmas.List.{length-append}
use Rattle.model.specs.Language.Values.{Str}
use Rattle.model.specs.Machine.Steps.{MVal}
use Rattle.world.specs.Held.{world_of}
use Rattle.values.specs.Values.{value_of}
use Rattle.world.proofs.Entering.{all_saved, entered_with_two, none_saved, past_two, save_turn}
use Rattle.world.proofs.Saving.{kept_is}
use Rattle.world.proofs.Slots.{prototype_slots, slot_there}
use Rattle.world.proofs.world.World.enter_call_with_two.Goals as goal

pub save-requires : goal.save-requires
save-requires c =
    let names = c.names-names.result.now in
    let slots = c.slots-slots.result.now in
    let f = c.args.prototype in
    slot_there names slots c.args.self.now.names c.args.self.now.names 0 c.slot_at.result c.index-names-0.result (prototype_slots f names slots c.args.self.now.names c.names-names.ensures.names c.slots-slots.ensures c.requires.slots) refl
    (omega (arith, c.requires.some, ap length c.names-names.ensures.names, length-append f.arguments f.locals)) c.index-names-0.is c.slot_at.ensures

pub save-requires-2 : goal.save-requires-2
save-requires-2 c =
    let names = c.names-names.result.now in
    let slots = c.slots-slots.result.now in
    let f = c.args.prototype in
    slot_there names slots c.args.self.now.names c.save.new.self.names 1 c.slot_at-2.result c.index-names-1.result (prototype_slots f names slots c.args.self.now.names c.names-names.ensures.names c.slots-slots.ensures c.requires.slots) c.save.ensures.names
    (omega (arith, c.requires.some, ap length c.names-names.ensures.names, length-append f.arguments f.locals)) c.index-names-1.is c.slot_at-2.ensures

pub save-requires-3 : goal.save-requires-3
save-requires-3 c =
    let names = c.names-names.result.now in
    let slots = c.slots-slots.result.now in
    let f = c.args.prototype in
    slot_there names slots c.args.self.now.names c.save-2.new.self.names 2 c.slot_at-3.result c.index-names-2.result (prototype_slots f names slots c.args.self.now.names c.names-names.ensures.names c.slots-slots.ensures c.requires.slots) (c.save-2.ensures.names ∙ c.save.ensures.names)
    (omega (arith, c.requires.some, ap length c.names-names.ensures.names, length-append f.arguments f.locals)) c.index-names-2.is c.slot_at-3.ensures

pub save-requires-in-loop-number : goal.save-requires-in-loop-number
save-requires-in-loop-number c =
    let names = c.names-names.result.now in
    let slots = c.slots-slots.result.now in
    slot_there names slots c.args.self.now.names c.loop-number.self.names c.loop-number.number c.slot_at-in-loop-number.result c.index-names-number.result (prototype_slots c.args.prototype names slots c.args.self.now.names c.names-names.ensures.names c.slots-slots.ensures c.requires.slots) c.loop-number.invariant.names
    c.loop-number-test.true c.index-names-number.is c.slot_at-in-loop-number.ensures

pub loop-number-init : goal.loop-number-init
loop-number-init c =
    let names = c.names-names.result.now in
    let gs : List MVal = Str [] ∷ value_of c.args.first ∷ value_of c.args.second ∷ [] in
    let saved = c.args.saved.now.items in
    let self = c.args.self.now in
    let f = c.args.prototype in
    let many : 2 < length names = omega (arith, c.requires.some, ap length c.names-names.ensures.names, length-append f.arguments f.locals) in
    let turn0 = save_turn names gs saved saved c.save.new.saved.items 0 c.index-names-0.result (value_of c.null.result) self c.args.self.now c.save.new.self c.names-names.ensures.distinct (omega (arith, many)) c.index-names-0.is c.null.ensures c.in_ok-save.ensures.set c.in_ok-save.ensures.had (none_saved names gs saved self) in
    let turn1 = save_turn names gs saved c.save.new.saved.items c.save-2.new.saved.items 1 c.index-names-1.result (value_of c.args.first) self c.save.new.self c.save-2.new.self c.names-names.ensures.distinct (omega (arith, many)) c.index-names-1.is refl c.in_ok-save-2.ensures.set c.in_ok-save-2.ensures.had turn0 in
    let turn2 = save_turn names gs saved c.save-2.new.saved.items c.save-3.new.saved.items 2 c.index-names-2.result (value_of c.args.second) self c.save-2.new.self c.save-3.new.self c.names-names.ensures.distinct (omega (arith, many)) c.index-names-2.is refl c.in_ok-save-3.ensures.set c.in_ok-save-3.ensures.had turn1 in
    record { names = c.save-3.ensures.names ∙ (c.save-2.ensures.names ∙ c.save.ensures.names); past = omega arith; given = turn2 }

pub loop-number-preserved : goal.loop-number-preserved
loop-number-preserved c =
    let names = c.names-names.result.now in
    let gs : List MVal = Str [] ∷ value_of c.args.first ∷ value_of c.args.second ∷ [] in
    let k = c.loop-number.number in
    record {
      names = c.save-in-loop-number.ensures.names ∙ c.loop-number.invariant.names;
      past = omega (arith, c.loop-number.invariant.past);
      given =
          save_turn names gs c.args.saved.now.items c.loop-number.saved.items c.save-in-loop-number.new.saved.items k c.index-names-number.result (value_of c.null-in-loop-number.result)
          c.args.self.now c.loop-number.self c.save-in-loop-number.new.self c.names-names.ensures.distinct c.loop-number-test.true c.index-names-number.is
          (c.null-in-loop-number.ensures ∙ past_two (Str []) (value_of c.args.first) (value_of c.args.second) k c.loop-number.invariant.past) c.in_ok-save-4.ensures.set c.in_ok-save-4.ensures.had c.loop-number.invariant.given;
    }

pub returns-clause-entered : goal.returns-clause-entered
returns-clause-entered c io =
    let names = c.names-names.result.now in
    let gs : List MVal = Str [] ∷ value_of c.args.first ∷ value_of c.args.second ∷ [] in
    let all = all_saved names gs c.args.saved.now.items c.loop-number.saved.items c.loop-number.number c.args.self.now c.loop-number.self c.loop-number-test.false c.loop-number.invariant.given in
    entered_with_two c.args.prototype names (value_of c.args.first) (value_of c.args.second) (world_of c.args.self.now io) (world_of c.loop-number.self io) (world_of c.deepen.new.self io) c.requires.some c.names-names.ensures.names (all.1 io) (c.deepen.ensures.set io)

pub returns-clause-kept : goal.returns-clause-kept
returns-clause-kept c =
    let names = c.names-names.result.now in
    let gs : List MVal = Str [] ∷ value_of c.args.first ∷ value_of c.args.second ∷ [] in
    let here = c.statement-statement.result in
    let depth = c.level-level.result in
    let statement : here ≡ to_z w64 (of_z w64 here) = search rules in
    let level : depth ≡ to_z w64 (of_z w64 depth) = search rules in
    let all = all_saved names gs c.args.saved.now.items c.loop-number.saved.items c.loop-number.number c.args.self.now c.loop-number.self c.loop-number-test.false c.loop-number.invariant.given in
    kept_is c.args.prototype (record { prototype = c.args.prototype; statement = to_z w64 (of_z w64 here); level = to_z w64 (of_z w64 depth) }) names c.args.self.now c.args.saved.now.items c.loop-number.saved.items
    refl c.names-names.ensures.names (c.statement-statement.ensures ∙ statement) (c.level-level.ensures ∙ level) all.0
