-- Chains of operators, one after the other.
use Rattle.std.proofs.Common.{◌≡◌, refl, ap, List, [], ◌∷◌, ◌++◌}
use Rattle.model.specs.declared.trees.Binary.TheVariants as binary
use Rattle.model.specs.declared.trees.Unary.{Unary}
use Rattle.model.specs.Deck.Trees.{Expr, Apply, Combine}
use Rattle.stmt_parser.specs.Powers.{marks_before, powers}

pub powers_last : (xs : List Expr) (x last : Expr) → powers (xs ++ x ∷ []) last ≡ powers xs (Combine binary.Power x last)
powers_last [] x last = refl
powers_last (y ∷ xs) x last = ap (λ e. Combine binary.Power y e) (powers_last xs x last)

pub marks_last : (us : List Unary) (u : Unary) (operand : Expr) → marks_before (us ++ u ∷ []) operand ≡ marks_before us (Apply u operand)
marks_last [] u operand = refl
marks_last (v ∷ us) u operand = ap (λ e. Apply v e) (marks_last us u operand)
