use Rattle.std.proofs.Common.{◌≡◌, ◌^◌, ◌%◌, ◌∙◌, sym, ap, map, get_or, take, drop, length, false, w8, arith, List, Bool}
use Rattle.std.specs.Cmp.{unsigned_Decides}
use Rattle.std.specs.Prelude.{nat_lt, replicate}
use Rattle.std.proofs.lemmas.List.{length-map}
use Rattle.std.proofs.lemmas.Bool.Decides.{nat_tests}
use Rattle.std.specs.Simd.Lanes.{mask_l}
use Rattle.std.proofs.lemmas.Simd.{tops_compared, zip2_splat_left, mask_l-mod, none_from_empty_mask, length-chunk}
use Rattle.strings.proofs.bytes.none_above.Goals as goal

pub returns : goal.returns
returns c h k from to =
    let bytes = c.args.bytes.now in
    let high = c.args.high in
    let next = take 16 (drop c.args.at bytes) in
    let long : length next ≡ 16 = length-chunk c.args.at 16 bytes c.requires in
    let same =
    ap (λ (ms : List Bool). mask_l ms % 2 ^ 64) (tops_compared w8 nat_lt (replicate 16 high) next ∙ zip2_splat_left nat_lt high 16 next long)
    ∙ mask_l-mod (map (λ y. nat_lt high y) next) 64 (omega (arith, long, length-map next (λ y. nat_lt high y))) in
    let above : nat_lt high (get_or bytes k 0) ≡ false =
    none_from_empty_mask (λ y. nat_lt high y) bytes c.args.at 16 0 c.requires (sym same ∙ (unsigned_Decides _ _).0 h) k from to in
    grind (arith, nat_tests, above)
