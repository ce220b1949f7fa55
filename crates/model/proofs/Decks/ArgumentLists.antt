-- The arguments of a call or a reference, as the list in its vector.
use Rattle.std.proofs.Common.{◌≡◌, refl, ◌∙◌, ap, List, [], ◌∷◌, ℕ, suc, length}
use Rattle.std.specs.declared.vec.Vec.{Vec}
use Rattle.std.specs.declared.alloc.Global.{Global}
use Rattle.model.specs.declared.trees.Argument.{Argument}
use Rattle.model.specs.declared.trees.Expr.{Row_of-Argument, end_of-Argument, more_of-Argument, items-the_row-Argument, items_hidden-the_row-Argument-0}
use Rattle.model.specs.declared.trees.Argument.TheBlock.{hidden-the_row-Argument-0}
use Rattle.model.specs.declared.trees.Expr.TheVariants as e
use Rattle.model.specs.Deck.Faults.{count}
use Rattle.model.specs.Deck.Trees as m
use Rattle.model.specs.Deck.TreeViews.{expr_of, arg_of, row_of, args_of}

pub rows : (n : _) (k : Row_of-Argument n) → row_of k ≡ args_of (items-the_row-Argument n k)
unfolding args_of
rows _ end_of-Argument = refl
rows _ (more_of-Argument x rest) = ap (λ r. m.More (arg_of x) r) (rows _ rest)

pub call_is : (f : Vec ℕ Global) (v : Vec Argument Global) → expr_of (e.Call f v) ≡ m.Call f.items (args_of v.items)
call_is f v = ap (λ r. m.Call f.items r) (rows _ (hidden-the_row-Argument-0 v) ∙ ap args_of (items_hidden-the_row-Argument-0 v))

pub reference_is : (f : Vec ℕ Global) (v : Vec Argument Global) → expr_of (e.Reference f v) ≡ m.Reference f.items (args_of v.items)
reference_is f v = ap (λ r. m.Reference f.items r) (rows _ (hidden-the_row-Argument-0 v) ∙ ap args_of (items_hidden-the_row-Argument-0 v))

pub count_is : (xs : List Argument) → count (args_of xs) ≡ length xs
unfolding args_of
count_is [] = refl
count_is (x ∷ xs) = ap suc (count_is xs)
