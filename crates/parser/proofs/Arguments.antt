-- A test of arguments, one after the other.
use Rattle.std.proofs.Common.{◌≡◌, refl, sym, ◌∙◌, ap, ℕ, zero, suc, ◌+◌, ◌<◌, ◌&&◌, Bool, true, false, List, [], ◌∷◌, length, drop, get_or, arith}
use Rattle.model.specs.declared.trees.Argument.{Argument}
use Rattle.model.specs.Deck.Faults.{in_arg, in_args}
use Rattle.model.specs.Deck.Trees.{Expr}
use Rattle.model.specs.Deck.TreeViews.{arg_of, args_of}

and_assoc : (a b c : Bool) → (a && (b && c)) ≡ ((a && b) && c)
and_assoc true b c = refl
and_assoc false b c = refl

pub and_true : (a : Bool) → (a && true) ≡ a
and_true true = refl
and_true false = refl

module _ (test : Expr → Bool) where
  args_at : (xs : List Argument) (i : ℕ) (x : Argument) → i < length xs → x ≡ get_or xs i x → in_args test (args_of (drop i xs)) ≡ (in_arg test (arg_of x) && in_args test (args_of (drop (suc i) xs)))
  unfolding args_of
  args_at [] i x h e = absurd (omega arith)
  args_at (y ∷ ys) zero x h e = ap (λ a. in_arg test (arg_of a) && in_args test (args_of ys)) (sym e)
  args_at (y ∷ ys) (suc i) x h e = args_at ys i x (omega arith) e

  pub args_turn : (total all part next : Bool) (xs : List Argument) (i : ℕ) (x : Argument) → i < length xs → x ≡ get_or xs i x
      → total ≡ (all && in_args test (args_of (drop i xs))) → part ≡ in_arg test (arg_of x) → next ≡ (all && part) → total ≡ (next && in_args test (args_of (drop (i + 1) xs)))
  args_turn total all part next xs i x h e t p n =
      let rest = in_args test (args_of (drop (i + 1) xs)) in
      let after : suc i ≡ i + 1 = omega arith in
      t ∙ ap (λ b. all && b) (args_at xs i x h e) ∙ ap (λ j. all && (in_arg test (arg_of x) && in_args test (args_of (drop j xs)))) after ∙ ap (λ b. all && (b && rest)) (sym p) ∙ and_assoc all part rest ∙ ap (λ b. b && rest) (sym n)

  pub args_end : (total all : Bool) (xs : List Argument) (i : ℕ) → total ≡ (all && in_args test (args_of (drop i xs))) → drop i xs ≡ [] → all ≡ total
  unfolding args_of
  args_end total all xs i t e = sym (t ∙ ap (λ ys. all && in_args test (args_of ys)) e ∙ and_true all)
