use Rattle.std.proofs.Common.{◌≡◌, length, take, drop}
use Rattle.world.proofs.Exchanging.{IsExchanged}
use Rattle.world.proofs.world.World.exchange_all.Given as goal

abbrev pub invariant-loop-number : goal.invariant-loop-number
invariant-loop-number l = record {
  names : l.self.names ≡ l.fn.self.names;
  count : length l.values.items ≡ length l.fn.values.items;
  exchanged : IsExchanged l.names (take l.base l.fn.values.items) (drop l.base l.fn.values.items) l.number l.values.items l.fn.self l.self;
}
