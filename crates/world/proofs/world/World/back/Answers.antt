use Rattle.std.proofs.Common.{◌≡◌, [], get_or, length, min, take, refl, ap, ◌∙◌, arith, w64, to_z, of_z, rules}
use Rattle.prototypes.specs.Views.{names_of}
use Rattle.world.specs.Calling.{saved_below}
use Rattle.world.specs.Held.{value_in, variable_at, world_of}
use Rattle.world.proofs.Exchanging.{distinct_take}
use Rattle.world.proofs.Leaving.{gone_back, none_saved}
use Rattle.world.proofs.Slots.{first_slots, prototype_slots}
use Rattle.world.proofs.Restoring.{below, first_is, restored}
use Rattle.world.proofs.world.World.back.Goals as goal

pub returns-then-count-eq0-clause-back : goal.returns-then-count-eq0-clause-back
returns-then-count-eq0-clause-back c io =
    let kept = c.args.kept.now in
    let saved = c.args.saved.now in
    let names = names_of kept.prototype in
    let w = world_of c.args.self.now io in
    let statement : to_z w64 (of_z w64 kept.statement) ≡ kept.statement = search rules in
    let level : to_z w64 (of_z w64 kept.level) ≡ kept.level = search rules in
    let none : min (length names) (length saved.items) ≡ 0 =
    omega (arith, c.min-count.ensures, c.if-count-eq0.true, c.len.ensures, saved.ok.0, ap length c.names-names.ensures.names) in
    gone_back c.args.kind kept names saved.items (to_z w64 (of_z w64 kept.statement)) (to_z w64 (of_z w64 kept.level)) w w (world_of c.put_back.new.self io)
    refl statement level (none_saved kept.prototype saved.items none w).1 (c.put_back.ensures.set io)

pub give_back-requires-clause-distinct : goal.give_back-requires-clause-distinct
give_back-requires-clause-distinct c = distinct_take c.names-names.result.now c.min-count.result c.names-names.ensures.distinct

pub give_back-requires-clause-slots : goal.give_back-requires-clause-slots
give_back-requires-clause-slots c =
    let slots = c.slots-slots.result.now in
    let names = c.names-names.result.now in
    first_slots names slots c.args.self.now.names c.min-count.result (prototype_slots c.args.kept.now.prototype names slots c.args.self.now.names c.names-names.ensures.names c.slots-slots.ensures c.requires)

pub returns-clause-values : goal.returns-clause-values
returns-clause-values c =
    let saved = c.args.saved.now in
    let names = c.names-names.result.now in
    let count = c.min-count.result in
    below names saved.items count (c.min-count.ensures ∙ ap (min (length names)) (c.len.ensures ∙ saved.ok.0)) c.give_back.new.saved.items c.in_ok-had-2.ensures.values
    ∙ ap (λ xs. saved_below xs saved.items) c.names-names.ensures.names

pub returns-clause-back : goal.returns-clause-back
returns-clause-back c io =
    let kept = c.args.kept.now in
    let saved = c.args.saved.now in
    let names = c.names-names.result.now in
    let count = c.min-count.result in
    let w = world_of c.args.self.now io in
    let w1 = world_of c.give_back.new.self io in
    let statement : to_z w64 (of_z w64 kept.statement) ≡ kept.statement = search rules in
    let level : to_z w64 (of_z w64 kept.level) ≡ kept.level = search rules in
    gone_back c.args.kind kept names saved.items (to_z w64 (of_z w64 kept.statement)) (to_z w64 (of_z w64 kept.level)) w w1 (world_of c.put_back-2.new.self io)
    c.names-names.ensures.names statement level
    (restored names saved.items count (c.min-count.ensures ∙ ap (min (length names)) (c.len.ensures ∙ saved.ok.0)) w w1 (c.in_ok-had-2.ensures.set io))
    (c.put_back-2.ensures.set io)

pub returns-clause-had : goal.returns-clause-had
returns-clause-had c =
    let f = c.args.kept.now.prototype in
    let count = c.min-count.result in
    c.in_ok-had-2.ensures.had
    ∙ ap (λ x. value_in (variable_at x c.args.self.now.variables))
    (ap (λ xs. get_or (take count xs) 0 []) c.names-names.ensures.names ∙ first_is f count (omega (arith, c.if-count-eq0.false)))
