use Rattle.std.proofs.Common.{◌≡◌, length, take, map}
use Rattle.model.specs.Language.Strings.{replaced}
use Rattle.strings.proofs.text.replaced_few.Given as goal

abbrev pub invariant-loop-k : goal.invariant-loop-k
invariant-loop-k l = record {
  len : length l.array ≡ 22;
  done : take l.k l.array ≡ map (replaced l.from l.to) (take l.k l.old);
}
