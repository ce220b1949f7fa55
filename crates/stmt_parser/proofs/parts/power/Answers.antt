use Rattle.std.proofs.Common.{◌≡◌, sym, ◌∙◌, ap, map, ◌∷◌, ◌++◌, []}
use Rattle.std.proofs.lemmas.List.{map-append}
use Rattle.stmt_parser.specs.Views.{boxed_of}
use Rattle.stmt_parser.specs.Powers.{powers}
use Rattle.stmt_parser.proofs.Powers.{powers_last}
use Rattle.stmt_parser.proofs.parts.power.Goals as goal

pub loop-left-preserved : goal.loop-left-preserved
loop-left-preserved c =
    let items : c.loop-left.operands.items ≡ c.pop.new.self.items ++ c.in-Some.left ∷ [] = c.in-Some.ensures.items in
    c.loop-left.invariant
    ∙ ap (λ xs. powers (map boxed_of xs) (boxed_of c.loop-left.right)) items
    ∙ ap (λ xs. powers xs (boxed_of c.loop-left.right)) (map-append boxed_of c.pop.new.self.items (c.in-Some.left ∷ []))
    ∙ powers_last (map boxed_of c.pop.new.self.items) (boxed_of c.in-Some.left) (boxed_of c.loop-left.right)
    ∙ ap (powers (map boxed_of c.pop.new.self.items)) (sym c.in_ok-right.ensures)
