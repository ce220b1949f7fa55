-- Code of arguments, one after another.
use Rattle.std.proofs.Common.{◌≡◌, ℕ, zero, suc, ◌+◌, ◌*◌, ◌<◌, ◌≤◌, List, [], ◌∷◌, length, refl, sym, ap, ◌∙◌, subst, arith, drop, get_or}
use Rattle.std.proofs.lemmas.List.{at_drop_more}
use Rattle.std.specs.declared.vec.Vec.{Vec}
use Rattle.std.specs.declared.alloc.Global.{Global}
use Rattle.model.specs.declared.instr.Instr.TheVariants as op
use Rattle.model.specs.declared.trees.Argument.{Argument}
use Rattle.model.specs.declared.trees.Expr.TheVariants as e
use Rattle.model.specs.Deck.Trees as m
use Rattle.model.specs.Deck.Trees.{Bytes, Arg, Args, More, Absent, Given}
use Rattle.model.specs.Deck.TreeViews.{expr_of, arg_of, args_of}
use Rattle.model.specs.Deck.Weights.{of_name, of_arg, of_args}
use Rattle.model.proofs.Decks.ArgumentLists.{call_is, reference_is}
use Rattle.expr_codegen.specs.Code.{Part, one, ◌>>◌, value, arguments}
use Rattle.expr_codegen.specs.Emitting.{Gen, Emits, Extends, AllCountable, size}
use Rattle.expr_codegen.proofs.Joins.{both, nothing_put}
use Rattle.expr_codegen.proofs.Extensions.{extends_same, extends_trans}

-- ---- calls and references

pub call_of_slice : (f : Vec ℕ Global) (v : Vec Argument Global) (g : Bytes) (xs : List Argument) → g ≡ f.items → xs ≡ v.items → expr_of (e.Call f v) ≡ m.Call g (args_of xs)
call_of_slice f v g xs d h = call_is f v ∙ ap (λ n. m.Call n (args_of v.items)) (sym d) ∙ ap (λ l. m.Call g (args_of l)) (sym h)

pub reference_of_slice : (f : Vec ℕ Global) (v : Vec Argument Global) (g : Bytes) (xs : List Argument) → g ≡ f.items → xs ≡ v.items → expr_of (e.Reference f v) ≡ m.Reference g (args_of xs)
reference_of_slice f v g xs d h = reference_is f v ∙ ap (λ n. m.Reference n (args_of v.items)) (sym d) ∙ ap (λ l. m.Reference g (args_of l)) (sym h)

pub name_weighs : (s : Bytes) → 1 ≤ of_name s
name_weighs [] = omega arith
name_weighs (x ∷ xs) = omega arith

-- ---- the loop

abbrev pub argument : Arg → Part
argument Absent = one op.Null
argument (Given x) = value x

argument_first : (a : Arg) (args : Args) → argument a >> arguments args ≡ arguments (More a args)
argument_first Absent args = refl
argument_first (Given x) args = refl

rest_countable : (a : Arg) (args : Args) → AllCountable (More a args) → AllCountable args
rest_countable Absent args h = h
rest_countable (Given x) args h = h.1

pub next_argument : (xs : List Argument) (i : ℕ) (x : Argument) → i < length xs → x ≡ get_or xs i x → args_of (drop i xs) ≡ More (arg_of x) (args_of (drop (i + 1) xs))
unfolding args_of
next_argument xs i x h e = at_drop_more args_of xs i x h ∙ ap (λ a. More (arg_of a) (args_of (drop (i + 1) xs))) (sym e)

pub no_heavier : (xs : List Argument) (i : ℕ) → of_args (args_of (drop i xs)) ≤ of_args (args_of xs)
unfolding args_of
no_heavier [] zero = omega arith
no_heavier [] (suc i) = omega arith
no_heavier (x ∷ xs) zero = omega arith
no_heavier (x ∷ xs) (suc i) = let y = no_heavier xs i in omega (arith, y)

-- what the loop keeps: behind the code of the other arguments stands that of all; g is the state at first
abbrev pub Kept : List Argument → ℕ → Gen → Gen → Type 0
Kept xs i g h =
    ((j : Gen) → Emits (arguments (args_of (drop i xs))) h j → Emits (arguments (args_of xs)) g j)
    × AllCountable (args_of (drop i xs))
    × (size h + 9 * of_args (args_of (drop i xs)) ≤ size g + 9 * of_args (args_of xs))
    × Extends g h

pub loop_begins : (xs : List Argument) (g : Gen) → AllCountable (args_of xs) → Kept xs 0 g g
loop_begins xs g h = (λ j x. x, h, omega arith, extends_same g g refl)

pub loop_step : (xs : List Argument) (i : ℕ) (x : Argument) (a : Arg) (g h k j : Gen) → j ≡ k → arg_of x ≡ a → i < length xs → x ≡ get_or xs i x → Kept xs i g h → Emits (argument a) h k
    → size k ≤ size h + 9 * of_arg a + 9 → Extends h k → Kept xs (i + 1) g j
loop_step xs i x a g h k j same is t at inv put s more =
    let rest : Args = args_of (drop (i + 1) xs) in
    let next : args_of (drop i xs) ≡ More a rest = next_argument xs i x t at ∙ ap (λ a. More a rest) is in
    let w = ap of_args next in
    let y = inv.2 in
    subst (Kept xs (i + 1) g) (sym same) (
      (λ o z. inv.0 o (subst (λ p. Emits p h o) (argument_first a rest ∙ ap arguments (sym next)) (both put z))),
      rest_countable a rest (subst AllCountable next inv.1),
      omega (arith, w, y, s),
      extends_trans inv.3 more,
    )

pub loop_ends : (xs : List Argument) (i : ℕ) (g h : Gen) → drop i xs ≡ [] → Kept xs i g h → Emits (arguments (args_of xs)) g h
unfolding args_of
loop_ends xs i g h e inv = inv.0 h (subst (λ l. Emits (arguments (args_of l)) h h) (sym e) (nothing_put h))
