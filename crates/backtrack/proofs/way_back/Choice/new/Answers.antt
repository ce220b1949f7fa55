use Rattle.std.proofs.Common.{ℕ, ◌≤◌, arith}
use Rattle.std.specs.Int.Bits.{bit_or}
use Rattle.std.proofs.lemmas.Nat.{le_or_l, le_or_r}
use Rattle.backtrack.proofs.way_back.Choice.new.Goals as goal

record AreWithin (a b c d e f g m : ℕ) : Type 0 where
  pub a_in : a ≤ m
  pub b_in : b ≤ m
  pub c_in : c ≤ m
  pub d_in : d ≤ m
  pub e_in : e ≤ m
  pub f_in : f ≤ m
  pub g_in : g ≤ m

within : (a b c d e f g m : ℕ) → bit_or (bit_or (bit_or (bit_or (bit_or (bit_or a b) c) d) e) f) g ≤ m → AreWithin a b c d e f g m
within a b c d e f g m h =
    let ab : ℕ = bit_or a b in
    let abc : ℕ = bit_or ab c in
    let abcd : ℕ = bit_or abc d in
    let abcde : ℕ = bit_or abcd e in
    let abcdef : ℕ = bit_or abcde f in
    let six : abcdef ≤ m = omega (arith, le_or_l abcdef g) in
    let five : abcde ≤ m = omega (arith, le_or_l abcde f) in
    let four : abcd ≤ m = omega (arith, le_or_l abcd e) in
    let three : abc ≤ m = omega (arith, le_or_l abc d) in
    let two : ab ≤ m = omega (arith, le_or_l ab c) in
    record {
      a_in = omega (arith, le_or_l a b);
      b_in = omega (arith, le_or_r a b);
      c_in = omega (arith, le_or_r ab c);
      d_in = omega (arith, le_or_r abc d);
      e_in = omega (arith, le_or_r abcd e);
      f_in = omega (arith, le_or_r abcde f);
      g_in = omega (arith, le_or_r abcdef g);
    }

pub overflow_cast-result : goal.overflow_cast-result
overflow_cast-result c = omega (arith, (within _ c.args.place c.args.cursor c.args.head c.args.lengths.0 c.args.lengths.1 c.args.lengths.2 _ c.if-all.false).a_in)

pub overflow_cast-result-2 : goal.overflow_cast-result-2
overflow_cast-result-2 c = omega (arith, (within _ c.args.place c.args.cursor c.args.head c.args.lengths.0 c.args.lengths.1 c.args.lengths.2 _ c.if-all.false).b_in)

pub overflow_cast-result-3 : goal.overflow_cast-result-3
overflow_cast-result-3 c = omega (arith, (within _ c.args.place c.args.cursor c.args.head c.args.lengths.0 c.args.lengths.1 c.args.lengths.2 _ c.if-all.false).c_in)

pub overflow_cast-result-4 : goal.overflow_cast-result-4
overflow_cast-result-4 c = omega (arith, (within _ c.args.place c.args.cursor c.args.head c.args.lengths.0 c.args.lengths.1 c.args.lengths.2 _ c.if-all.false).d_in)

pub overflow_cast-result-5 : goal.overflow_cast-result-5
overflow_cast-result-5 c = omega (arith, (within _ c.args.place c.args.cursor c.args.head c.args.lengths.0 c.args.lengths.1 c.args.lengths.2 _ c.if-all.false).e_in)

pub overflow_cast-result-6 : goal.overflow_cast-result-6
overflow_cast-result-6 c = omega (arith, (within _ c.args.place c.args.cursor c.args.head c.args.lengths.0 c.args.lengths.1 c.args.lengths.2 _ c.if-all.false).f_in)

pub overflow_cast-result-7 : goal.overflow_cast-result-7
overflow_cast-result-7 c = omega (arith, (within _ c.args.place c.args.cursor c.args.head c.args.lengths.0 c.args.lengths.1 c.args.lengths.2 _ c.if-all.false).g_in)
