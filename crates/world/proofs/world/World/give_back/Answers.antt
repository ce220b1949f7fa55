use Rattle.std.proofs.Common.{◌≡◌, ◌-◌, ◌+◌, ℕ, [], suc, get_or, length, take, drop, refl, subst, ◌∙◌, arith}
use Rattle.std.proofs.lemmas.List.{length-drop}
use Rattle.std.proofs.lemmas.Result.{IfOk-weaker, on_ok_weaker}
use Rattle.values.specs.Values.{value_of}
use Rattle.world.proofs.Saving.{values_in}
use Rattle.world.proofs.Slots.{slot_there}
use Rattle.world.proofs.Restoring.{IsGivenBack, all_given, first_had, give_turn, none_given}
use Rattle.world.proofs.world.World.give_back.Goals as goal

pub loop-left-init : goal.loop-left-init
loop-left-init c =
    let names = c.args.names.now in
    let all = c.args.saved.now.items in
    let base = length all - length names in
    let size : length (drop base all) ≡ length names = length-drop base all ∙ omega (arith, c.requires.count) in
    record {
      names = refl;
      within = omega (arith, c.requires.some);
      given = none_given names base (length names - 1 + 1) all c.args.self.now (omega arith) (omega (arith, size));
    }

pub give_last-requires-clause-slot : goal.give_last-requires-clause-slot
give_last-requires-clause-slot c =
    slot_there c.args.names.now c.args.slots.now c.args.self.now.names c.loop-left.self.names c.loop-left.left c.slot_at.result c.index-names-left.result c.requires.slots c.loop-left.invariant.names c.loop-left.invariant.within c.index-names-left.is c.slot_at.ensures

pub replace_value-requires : goal.replace_value-requires
replace_value-requires c =
    slot_there c.args.names.now c.args.slots.now c.args.self.now.names c.loop-left.self.names 0 c.slot_at-2.result c.index-names-0.result c.requires.slots c.loop-left.invariant.names c.requires.some c.index-names-0.is c.slot_at-2.ensures

pub loop-left-preserved : goal.loop-left-preserved
loop-left-preserved c =
    let names = c.args.names.now in
    let all = c.args.saved.now.items in
    let base = length all - length names in
    let left = c.loop-left.left in
    let size : length (drop base all) ≡ length names = length-drop base all ∙ omega (arith, c.requires.count) in
    let now : ℕ = left - 1 + 1 in
    let same : left ≡ now = omega (arith, c.loop-left-test.true) in
    let next : left + 1 ≡ suc left = omega arith in
    let so = subst (λ n. IsGivenBack names (take base all) (drop base all) n c.loop-left.saved.items c.args.self.now c.loop-left.self) next c.loop-left.invariant.given in
    record {
      names = c.give_last.ensures.names ∙ c.loop-left.invariant.names;
      within = omega (arith, c.loop-left.invariant.within);
      given =
          subst (λ n. IsGivenBack names (take base all) (drop base all) n c.give_last.new.saved.items c.args.self.now c.give_last.new.self) same
          (give_turn names (take base all) (drop base all) c.loop-left.saved.items c.give_last.new.saved.items left c.index-names-left.result c.in_ok-give_last.ensures.set.0 c.args.self.now c.loop-left.self c.give_last.new.self size
          c.loop-left.invariant.within c.index-names-left.is c.in_ok-give_last.ensures.set.1 c.in_ok-give_last.ensures.set.2 so);
    }

pub returns-clause-values : goal.returns-clause-values
returns-clause-values c =
    let names = c.args.names.now in
    let all = c.args.saved.now.items in
    let base = length all - length names in
    let size : length (drop base all) ≡ length names = length-drop base all ∙ omega (arith, c.requires.count) in
    let one : c.loop-left.left + 1 ≡ suc 0 = omega (arith, c.loop-left-test.false) in
    let so = subst (λ n. IsGivenBack names (take base all) (drop base all) n c.loop-left.saved.items c.args.self.now c.loop-left.self) one c.loop-left.invariant.given in
    on_ok_weaker c.replace_value.result
    (λ put. (all_given names all c.pop.new.self.items base c.args.self.now c.replace_value.new.self
    (give_turn names (take base all) (drop base all) c.loop-left.saved.items c.pop.new.self.items 0 c.index-names-0.result c.in-Some.value c.args.self.now c.loop-left.self c.replace_value.new.self size
    c.requires.some c.index-names-0.is c.in-Some.ensures.items put so)).0)
    c.replace_value.ensures.set

pub returns-clause-set : goal.returns-clause-set
returns-clause-set c =
    let names = c.args.names.now in
    let all = c.args.saved.now.items in
    let base = length all - length names in
    let size : length (drop base all) ≡ length names = length-drop base all ∙ omega (arith, c.requires.count) in
    let one : c.loop-left.left + 1 ≡ suc 0 = omega (arith, c.loop-left-test.false) in
    let so = subst (λ n. IsGivenBack names (take base all) (drop base all) n c.loop-left.saved.items c.args.self.now c.loop-left.self) one c.loop-left.invariant.given in
    on_ok_weaker c.replace_value.result
    (λ put. (all_given names all c.pop.new.self.items base c.args.self.now c.replace_value.new.self
    (give_turn names (take base all) (drop base all) c.loop-left.saved.items c.pop.new.self.items 0 c.index-names-0.result c.in-Some.value c.args.self.now c.loop-left.self c.replace_value.new.self size
    c.requires.some c.index-names-0.is c.in-Some.ensures.items put so)).1)
    c.replace_value.ensures.set

pub returns-clause-had : goal.returns-clause-had
returns-clause-had c =
    let names = c.args.names.now in
    let all = c.args.saved.now.items in
    let base = length all - length names in
    let one : c.loop-left.left + 1 ≡ 1 = omega (arith, c.loop-left-test.false) in
    let so = subst (λ n. IsGivenBack names (take base all) (drop base all) n c.loop-left.saved.items c.args.self.now c.loop-left.self) one c.loop-left.invariant.given in
    let before = first_had names (take base all) (drop base all) c.loop-left.saved.items c.index-names-0.result c.args.self.now c.loop-left.self c.requires.distinct c.requires.some c.index-names-0.is so in
    IfOk-weaker c.replace_value.result
    (λ had. value_of had ≡ values_in c.loop-left.self c.index-names-0.result) (λ had. value_of had ≡ values_in c.args.self.now (get_or names 0 []))
    (λ had is. is ∙ before) c.replace_value.ensures.had
