use Rattle.std.proofs.Common.{◌≡◌, sym, ◌∙◌, ap, ◌∷◌, ◌++◌, []}
use Rattle.stmt_parser.specs.Powers.{marks_before}
use Rattle.stmt_parser.specs.Views.{boxed_of}
use Rattle.stmt_parser.proofs.Powers.{marks_last}
use Rattle.stmt_parser.proofs.parts.applied.Goals as goal

pub loop-op-preserved : goal.loop-op-preserved
loop-op-preserved c =
    let items : c.loop-op.marks.items ≡ c.pop.new.self.items ++ c.in-Some.op ∷ [] = c.in-Some.ensures.items in
    c.loop-op.invariant
    ∙ ap (λ us. marks_before us (boxed_of c.loop-op.found)) items
    ∙ marks_last c.pop.new.self.items c.in-Some.op (boxed_of c.loop-op.found)
    ∙ ap (marks_before c.pop.new.self.items) (sym c.in_ok-found.ensures)
