use Rattle.std.proofs.Common.{◌≡◌, ◌<◌, ℕ, ◌+◌, ◌*◌, ◌/◌, ◌%◌, nat_eq, if◌then◌else◌, arith, subst}
use Rattle.flow_check.specs.Slots.{digit}
use Rattle.flow_check.proofs.Packing.{first, second, third, fourth}
use Rattle.flow_check.proofs.slots.with_digit.Goals as goal

pub returns-in-0 : goal.returns-in-0
returns-in-0 c =
    let e : 0 ≡ c.args.place = omega (arith, c.requires.place, c.in-0.is) in
    subst (λ (p : ℕ). (k : ℕ) → k < 4 → digit (c.args.byte / 4 * 4 + c.args.code) k ≡ (if nat_eq k p then c.args.code else digit c.args.byte k)) e (λ k lt. first c.args.byte c.args.code k c.requires.small lt)

pub returns-in-1 : goal.returns-in-1
returns-in-1 c =
    let e : 1 ≡ c.args.place = omega (arith, c.requires.place, c.in-1.is) in
    subst (λ (p : ℕ). (k : ℕ) → k < 4 → digit (c.args.byte / 16 * 16 + 4 * c.args.code + c.args.byte % 4) k ≡ (if nat_eq k p then c.args.code else digit c.args.byte k)) e (λ k lt. second c.args.byte c.args.code k c.requires.small lt)

pub returns-in-2 : goal.returns-in-2
returns-in-2 c =
    let e : 2 ≡ c.args.place = omega (arith, c.requires.place, c.in-2.is) in
    subst (λ (p : ℕ). (k : ℕ) → k < 4 → digit (c.args.byte / 64 * 64 + 16 * c.args.code + c.args.byte % 16) k ≡ (if nat_eq k p then c.args.code else digit c.args.byte k)) e (λ k lt. third c.args.byte c.args.code k c.requires.small lt)

pub returns-in_default : goal.returns-in_default
returns-in_default c =
    let e : 3 ≡ c.args.place = omega (arith, c.requires.place, c.in_default) in
    subst (λ (p : ℕ). (k : ℕ) → k < 4 → digit (64 * c.args.code + c.args.byte % 64) k ≡ (if nat_eq k p then c.args.code else digit c.args.byte k)) e (λ k lt. fourth c.args.byte c.args.code k c.requires.small lt)
