-- Copies of expressions and of arguments.
use Rattle.std.proofs.Common.{◌≡◌, ◌∙◌, refl, sym, ap, List, [], ◌∷◌, map}
use Rattle.std.specs.Prelude.{Result, Ok, Err, IfOk}
use Rattle.model.specs.declared.trees.Argument.{Argument}
use Rattle.model.specs.Deck.Trees.{Arg, Args, Nil, More}
use Rattle.model.specs.Deck.TreeViews.{arg_of, args_of}

-- the result of a last call, returned as it is
pub if_ok : {T E : Type 0} (r : Result T E) (P Q : T → Type 0) → IfOk r P → ((x : T) → P x → Q x) → IfOk r Q
if_ok (Ok x) P Q h f = f x h
if_ok (Err e) P Q h f = tt

abbrev of_list : List Arg → Args
of_list [] = Nil
of_list (a ∷ as_) = More a (of_list as_)

args_are : (xs : List Argument) → args_of xs ≡ of_list (map arg_of xs)
unfolding args_of
args_are [] = refl
args_are (x ∷ xs) = ap (More (arg_of x)) (args_are xs)

pub args_same : (xs ys : List Argument) → map arg_of xs ≡ map arg_of ys → args_of xs ≡ args_of ys
args_same xs ys e = args_are xs ∙ ap of_list e ∙ sym (args_are ys)
