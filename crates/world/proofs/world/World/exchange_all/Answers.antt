use Rattle.std.proofs.Common.{◌≡◌, ◌+◌, length, take, drop, refl, ◌∙◌, arith}
use Rattle.std.proofs.lemmas.List.{length-drop, length-set, length-take-le}
use Rattle.world.proofs.Exchanging.{none_exchanged, exchange_turn, all_exchanged}
use Rattle.world.proofs.Slots.{slot_there}
use Rattle.world.proofs.world.World.exchange_all.Goals as goal

pub loop-number-init : goal.loop-number-init
loop-number-init c = record {
  names = refl;
  count = refl;
  exchanged = none_exchanged c.args.names.now c.args.base c.args.values.now.items c.args.self.now;
}

pub exchange-requires : goal.exchange-requires
exchange-requires c =
    slot_there c.args.names.now c.args.slots.now c.args.self.now.names c.loop-number.self.names c.loop-number.number c.slot_at.result c.index-names-number.result c.requires.slots c.loop-number.invariant.names c.loop-number-test.true c.index-names-number.is c.slot_at.ensures

pub loop-number-preserved : goal.loop-number-preserved
loop-number-preserved c =
    let base = c.args.base in
    let all = c.args.values.now.items in
    let n = c.loop-number.number in
    let size : length (take base all) ≡ base = length-take-le base all (omega (arith, c.requires.count)) in
    let count : length (drop base all) ≡ length c.args.names.now = length-drop base all ∙ omega (arith, c.requires.count) in
    record {
      names = c.exchange.ensures.names ∙ c.loop-number.invariant.names;
      count = length-set c.loop-number.values.items (base + n) c.exchange.new.value ∙ c.loop-number.invariant.count;
      exchanged = exchange_turn c.args.names.now (take base all) (drop base all) c.loop-number.values.items base n c.index-names-number.result c.index_mut.result.now c.exchange.new.value c.args.self.now c.loop-number.self
          c.requires.distinct size count c.loop-number-test.true c.index-names-number.is c.index_mut.ensures.value c.in_ok-exchange.ensures.had c.loop-number.invariant.exchanged c.exchange.new.self c.in_ok-exchange.ensures.set;
    }

pub returns : goal.returns
returns c =
    let base = c.args.base in
    let all = c.args.values.now.items in
    let count : length (drop base all) ≡ length c.args.names.now = length-drop base all ∙ omega (arith, c.requires.count) in
    let both = all_exchanged c.args.names.now (take base all) (drop base all) c.loop-number.values.items c.loop-number.number c.args.self.now c.loop-number.self count c.loop-number-test.false c.loop-number.invariant.exchanged in
    record { set = both.1; had = both.0; names = c.loop-number.invariant.names }
