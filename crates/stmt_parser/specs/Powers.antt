-- Chains of operators: `**`, and marks of unary operators.
use Rattle.std.specs.Prelude.{List, [], ◌∷◌}
use Rattle.model.specs.declared.trees.Binary.TheVariants as binary
use Rattle.model.specs.declared.trees.Unary.{Unary}
use Rattle.model.specs.Deck.Trees.{Expr, Apply, Combine}

-- the operands and the last one, grouped to the right
abbrev pub powers : List Expr → Expr → Expr
powers [] last = last
powers (x ∷ xs) last = Combine binary.Power x (powers xs last)

-- the operand with unary operators before it, the last of them next to it
abbrev pub marks_before : List Unary → Expr → Expr
marks_before [] operand = operand
marks_before (u ∷ us) operand = Apply u (marks_before us operand)
