use Rattle.std.proofs.Common.{◌∙◌, ap, take, drop, eq-eqb, w8, arith}
use Rattle.std.specs.Int.{bit_at}
use Rattle.std.specs.Prelude.{count_ones, nat_eq, if◌then◌else◌}
use Rattle.std.proofs.lemmas.List.{get_or-map}
use Rattle.std.proofs.lemmas.Simd.{bit_mask_l, bitmask_splat, get_or-chunk, length-chunk, ones-mask_l}
use Rattle.prefilter.proofs.search.places_of.Goals as goal

pub returns-clause-bits : goal.returns-clause-bits
returns-clause-bits c k l e =
    let bytes = c.args.bytes.now in
    let next = take 16 (drop c.args.at bytes) in
    let size = length-chunk c.args.at 16 bytes c.requires in
    ap (λ m. bit_at m k) (bitmask_splat w8 nat_eq next 16 c.args.byte size (omega arith))
    ∙ bit_mask_l _ k
    ∙ ap (λ t. if t then 1 else 0) (get_or-map (λ x. nat_eq x c.args.byte) next k 0 _ (omega (arith, l, size)) ∙ eq-eqb _ _ (get_or-chunk c.args.at 16 bytes k 0 l ∙ e))

pub returns-clause-ones : goal.returns-clause-ones
returns-clause-ones c =
    let bytes = c.args.bytes.now in
    let next = take 16 (drop c.args.at bytes) in
    let size = length-chunk c.args.at 16 bytes c.requires in
    ap count_ones (bitmask_splat w8 nat_eq next 16 c.args.byte size (omega arith)) ∙ ones-mask_l (λ x. nat_eq x c.args.byte) next
