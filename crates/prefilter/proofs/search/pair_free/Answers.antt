use Rattle.std.proofs.Common.{◌≡◌, ◌<◌, ◌+◌, ◌-◌, ◌/◌, ◌^◌, ◌∙◌, ap, bit_and, get_or, arith}
use Rattle.std.proofs.lemmas.Nat.{and_le_l}
use Rattle.std.proofs.lemmas.Nat.Bits.{bit_at_and}
use Rattle.prefilter.proofs.PlainBytes.{zeros_below, bit_behind, less_behind}
use Rattle.prefilter.proofs.search.pair_free.Goals as goal

pub returns-clause-others : goal.returns-clause-others
returns-clause-others c = λ k from to is_first is_last.
    let bytes = c.args.bytes.now in
    let skip = c.args.skip in
    let lane = k - c.args.at in
    let here : c.args.at + lane ≡ k = omega (arith, from) in
    let there : c.args.at + c.args.gap + lane ≡ k + c.args.gap = omega (arith, from) in
    let both = bit_and c.places_of.result c.places_of-2.result in
    let inside : lane < 16 = omega (arith, from, to, c.requires.skip, c.min.ensures) in
    let first = c.places_of.ensures.bits lane inside (ap (λ i. get_or bytes i 0) here ∙ is_first) in
    let last = c.places_of-2.ensures.bits lane inside (ap (λ i. get_or bytes i 0) there ∙ is_last) in
    let fits : both < 2 ^ 64 = omega (arith, and_le_l c.places_of.result c.places_of-2.result, c.places_of.type_inv) in
    let empty = zeros_below (both / 2 ^ skip) (less_behind both skip fits) (lane - skip) (omega (arith, from, to, c.requires.skip, c.min.ensures)) in
    omega (arith, first, last, empty, bit_behind both skip lane (omega (arith, from)), bit_at_and c.places_of.result c.places_of-2.result lane)
