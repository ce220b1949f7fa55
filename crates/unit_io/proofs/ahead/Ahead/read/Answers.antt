use Rattle.std.proofs.Common.{ℕ, ◌≤◌, List, ◌++◌, length, take, drop, ap, ◌∙◌, arith}
use Rattle.std.proofs.Math.Seq.{take-add}
use Rattle.std.proofs.lemmas.List.{drop-append-le, length-take-le}
use Rattle.unit_io.proofs.ahead.Ahead.read.Goals as goal

pub returns-in-Ok-clause-more : goal.returns-in-Ok-clause-more
returns-in-Ok-clause-more g c =
    let s : ℕ = c.self.inside.start in
    let e : ℕ = c.self.inside.end in
    let n : ℕ = c.in-Ok.n in
    let bs : List ℕ = c.read_behind.new.bytes.items in
    let got : List ℕ = take n (drop e bs) in
    let inside : e ≤ length bs = omega (arith, c.self.invariant.2, c.in-Ok.ensures.len) in
    let low : s ≤ length (take e bs) = omega (arith, c.self.invariant.0, c.self.invariant.1, length-take-le e bs inside) in
    (got, c.in-Ok.ensures.read.0, ap (drop s) (take-add e n bs) ∙ drop-append-le s (take e bs) got low ∙ ap (λ xs. drop s xs ++ got) c.in-Ok.ensures.kept ∙ ap (λ xs. xs ++ got) (c.self.view_is ∙ c.make_room.ensures))
