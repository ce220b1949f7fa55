use Rattle.std.proofs.Common.{arith, ◌≡◌, refl, subst, ◌≤◌, List, [], ◌∷◌, length}
use Rattle.model.specs.declared.trees.Argument.{Argument}
use Rattle.model.specs.Deck.Trees as m
use Rattle.model.specs.Deck.Grammar as grammar
use Rattle.model.specs.Deck.TreeViews.{arg_of, args_of}
use Rattle.stmt_parser.proofs.parts.shown.Goals as goal

itself : (a b : m.Arg) (c : m.Args) → m.More a (m.More b c) ≡ grammar.shown (m.More a (m.More b c))
itself m.Absent b c = refl
itself (m.Given e) b c = refl

several : (xs : List Argument) → 2 ≤ length xs → args_of xs ≡ grammar.shown (args_of xs)
unfolding args_of
several [] h = absurd (omega arith)
several (x ∷ []) h = absurd (omega arith)
several (x ∷ y ∷ xs) h = itself (arg_of x) (arg_of y) (args_of xs)

pub returns-in_default-3 : goal.returns-in_default-3
returns-in_default-3 c = several c.args.arguments.items (subst (λ x. 2 ≤ length x) c.as_slice.ensures.value c.in_default.len_at_least)
