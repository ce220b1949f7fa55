use Rattle.std.proofs.Common.{◌≡◌, ◌∙◌, ◌+◌, map, take, get_or, List, ℕ, [], Bor, suc, arith, ap, length, add-one}
use Rattle.std.specs.List.{sum}
use Rattle.model.specs.Module.WellFormed.{string_bytes}
use Rattle.loader.proofs.Sizes.{next, string_here, taken, strings_short}
use Rattle.loader.proofs.places.strings_size.Goals as goal

abbrev none : Bor (List ℕ)
none = record { ref_ptr = (0, 0); now = [] }

pub overflow_add-size-in-loop-string : goal.overflow_add-size-in-loop-string
overflow_add-size-in-loop-string c =
    let ss = c.args.image.now.strings in
    let k = c.loop-string.string-index in
    let h = string_here c.strings-strings.result.now ss k none c.strings-strings.ensures.each c.loop-string-test.true in
    omega (arith, c.loop-string.invariant, next string_bytes ss k [] h.0, taken string_bytes ss (suc k), strings_short ss c.requires, ap length h.1)

pub loop-string-preserved : goal.loop-string-preserved
loop-string-preserved c =
    let ss = c.args.image.now.strings in
    let k = c.loop-string.string-index in
    let h = string_here c.strings-strings.result.now ss k none c.strings-strings.ensures.each c.loop-string-test.true in
    let n : sum (map string_bytes (take (k + 1) ss)) ≡ sum (map string_bytes (take k ss)) + string_bytes (get_or ss k []) = ap (λ m. sum (map string_bytes (take m ss))) (add-one k) ∙ next string_bytes ss k [] h.0 in
    omega (arith, c.loop-string.invariant, n, ap length h.1)
