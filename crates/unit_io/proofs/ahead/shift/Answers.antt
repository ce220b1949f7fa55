use Rattle.std.proofs.Common.{◌≡◌, ℕ, ◌+◌, ◌-◌, ◌≤◌, List, length, take, drop, sym, ap, ◌∙◌, arith}
use Rattle.std.specs.List.{copy_within}
use Rattle.std.proofs.lemmas.List.{drop-take, take-append-le, take_all, take_at, length-take-le, length-drop}
use Rattle.unit_io.proofs.ahead.shift.Goals as goal

-- the first of the bytes that were moved
moved : (xs : List ℕ) (a b : ℕ) → a ≤ b → b ≤ length xs → take (b - a) (copy_within xs a b 0) ≡ drop a (take b xs)
moved xs a b l h =
    let m : ℕ = b - a in
    let part : List ℕ = take m (drop a xs) in
    let long : length part ≡ m = length-take-le m (drop a xs) (omega (arith, length-drop a xs)) in
    let is : a + m ≡ b = omega arith in
    take-append-le m part (drop (0 + m) xs) (omega (arith, long)) ∙ take_all m part (omega (arith, long))
    ∙ sym (drop-take a m xs) ∙ ap (λ k. drop a (take k xs)) is

pub returns-clause-moved : goal.returns-clause-moved
returns-clause-moved c =
    let xs : List ℕ = c.args.bytes.now.items in
    let new : List ℕ = c.copy_within.new.self in
    let rest : List ℕ = drop (length new) xs in
    let same : new ≡ copy_within xs c.args.start c.args.end 0 =
    c.copy_within.ensures.after ∙ ap (λ l. copy_within l c.args.start c.args.end 0) c.as_mut_slice.ensures.value in
    ap (take (c.args.end - c.args.start)) (take_at new rest c.args.bytes.now.len (c.copy_within.ensures.len ∙ c.as_mut_slice.ensures.len))
    ∙ ap (take (c.args.end - c.args.start)) same ∙ moved xs c.args.start c.args.end c.requires.start c.requires.end
