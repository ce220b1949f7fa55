use Rattle.std.proofs.Common.{◌≡◌, ◌+◌, ◌++◌, length, take, drop}
use Rattle.std.specs.List.{slice_range}
use Rattle.strings.proofs.text.close_up.Given as goal

abbrev pub invariant-loop-k : goal.invariant-loop-k
invariant-loop-k l = record {
  len : length l.array ≡ 22;
  front : take l.k l.array ≡ take l.place l.initial.array ++ slice_range l.initial.array (l.place + 1) (l.k + 1);
  behind : drop l.k l.array ≡ drop l.k l.initial.array;
}
