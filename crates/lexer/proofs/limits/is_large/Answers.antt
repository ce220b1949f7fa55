use Rattle.std.proofs.Common.{◌≡◌, ◌<◌, ◌≤◌, ◌*◌, ◌+◌, ◌-◌, sym, ◌∙◌, subst, arith, ℕ, true, false, nat_lt, get_or}
use Rattle.std.proofs.lemmas.Bool.Decides.{nat_tests}
use Rattle.model.specs.Deck.Digits.{decimal_value, value_from}
use Rattle.lexer.proofs.Values.{over, at_end}
use Rattle.lexer.proofs.limits.is_large.Goals as goal

above : (limit n : ℕ) → limit < n → true ≡ nat_lt limit n
above limit n h = grind (arith, nat_tests)

within : (limit n : ℕ) → n ≤ limit → false ≡ nat_lt limit n
within limit n h = grind (arith, nat_tests)

pub returns-then-number-digit : goal.returns-then-number-digit
unfolding decimal_value
returns-then-number-digit c =
    let large : 9223372036854775807 < 10 * c.loop-d.number + (get_or c.args.digits.now c.loop-d.d-index 0 - 48) = omega arith in
    above 9223372036854775807 (value_from 0 c.args.digits.now)
    (subst (λ n. 9223372036854775807 < n) c.loop-d.invariant.so_far
    (over c.loop-d.number 9223372036854775807 c.args.digits.now c.loop-d.d-index (omega arith) large))

pub returns : goal.returns
unfolding decimal_value
returns c =
    let last = at_end c.loop-d.number c.args.digits.now c.loop-d.d-index (omega arith) in
    within 9223372036854775807 (value_from 0 c.args.digits.now)
    (subst (λ n. n ≤ 9223372036854775807) (sym last ∙ c.loop-d.invariant.so_far) c.loop-d.invariant.small)
