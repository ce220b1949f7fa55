-- Worked case: the module of ` OUTPUT = 'HI'`, `END`, step by step, and that it stands for its program.
use Rattle.std.proofs.Common.{◌≡◌, ℕ, zero, suc, List, [], ◌∷◌, Option, Some, None, Bool, true, false, bytes_eq, if◌then◌else◌, codes, inl, refl, sym, ap, subst}
use Rattle.model.specs.declared.image.Image.{Image}
use Rattle.model.specs.declared.image.Level.TheVariants as levels
use Rattle.model.specs.declared.instr.Instr.TheVariants as op
use Rattle.model.specs.Deck.Trees.{Bytes, Expr, Literal, Body, Goto, Stmt, Plain, End}
use Rattle.model.specs.Language.Programs.{program, end_label}
use Rattle.model.specs.Module.Images.{module_of}
use Rattle.model.specs.Module.Placed.{CodeS, Placed}
use Rattle.model.specs.Laws.Agreement.{machine_at, Agrees}
use Rattle.model.proofs.Rows.Decks.{deck, out, no_inputs, runs, ends_normally}
use Rattle.model.proofs.Machine.Agreement.{agrees_where_placed}

-- offsets 0, 5, 10, 15, 16 and 17
abbrev pub hi_image : Image
hi_image = record {
  level = levels.Two;
  entry = 1;
  strings = codes "OUTPUT" ∷ codes "HI" ∷ [];
  labels = [];
  statements = 0 ∷ 17 ∷ [];
  cards = 1 ∷ 2 ∷ [];
  expressions = [];
  patterns = [];
  code = op.Begin 17 ∷ op.Var 0 ∷ op.Str 1 ∷ op.Assign ∷ op.Body ∷ op.End ∷ [];
}

abbrev pub hi : List Stmt
hi = deck (out (Literal (codes "HI")) ∷ [])

after_three : machine_at hi_image no_inputs 3 ≡ runs []
after_three = refl

after_four : machine_at hi_image no_inputs 4 ≡ runs (codes "HI" ∷ [])
after_four = refl

after_five : machine_at hi_image no_inputs 5 ≡ runs (codes "HI" ∷ [])
after_five = refl

after_six : machine_at hi_image no_inputs 6 ≡ ends_normally (codes "HI" ∷ [])
after_six = refl

no_trees : ℕ → Option Expr
no_trees k = None

IsThere : {A : Type 0} → Option A → Type 0
IsThere None = ⊥
IsThere (Some a) = Unit {0}

number : Option ℕ → ℕ
number None = 0
number (Some n) = n

stmts : (k o : ℕ) → (module_of hi_image).stmt k ≡ Some o → CodeS (program hi) (module_of hi_image) no_trees k ((program hi).at k) o
unfolding IsThere number
stmts zero o e = absurd (subst IsThere (sym e) tt)
stmts (suc zero) o e = subst (λ o. CodeS (program hi) (module_of hi_image) no_trees 1 ((program hi).at 1) o) (ap number e) (5, 16, 17, 17, refl, (10, 15, (0, refl, refl), (1, refl, refl), refl), refl, inl refl, inl refl, refl)
stmts (suc (suc zero)) o e = subst (λ o. CodeS (program hi) (module_of hi_image) no_trees 2 ((program hi).at 2) o) (ap number e) (18, refl)
stmts (suc (suc (suc k))) o e = absurd (subst IsThere (sym e) tt)

is_plain : Option Stmt → Type 0
is_plain None = ⊥
is_plain (Some (Plain l b g)) = Unit {0}
is_plain (Some (End l)) = ⊥

next : (k : ℕ) (l : Option Bytes) (b : Body) (g : Goto) → (program hi).at k ≡ Some (Plain l b g) → (o : ℕ) × ((module_of hi_image).stmt (suc k) ≡ Some o)
unfolding is_plain
next zero l b g e = (0, refl)
next (suc zero) l b g e = (17, refl)
next (suc (suc zero)) l b g e = absurd (subst is_plain (sym e) tt)
next (suc (suc (suc k))) l b g e = absurd (subst is_plain (sym e) tt)

two_or_none : (b : Bool) (k : ℕ) → (if b then Some 2 else None) ≡ Some k → k ≡ 2
unfolding number IsThere
two_or_none true k e = sym (ap number e)
two_or_none false k e = absurd (subst IsThere (sym e) tt)

gone_to : (l : Bytes) (k : ℕ) → (program hi).label l ≡ Some k → (o : ℕ) × ((module_of hi_image).stmt k ≡ Some o)
gone_to l k e = (17, ap (module_of hi_image).stmt (two_or_none (bytes_eq end_label l) k e))

placed : Placed (program hi) (module_of hi_image) no_trees
unfolding no_trees IsThere
placed = record { stmts = stmts; next = next; labels = λ l. refl; gone_to = gone_to; exprs = λ k e h. absurd (subst IsThere (sym h) tt); entry = refl; entry_is = (0, refl) }

pub hi_agrees : Agrees hi hi_image
hi_agrees = agrees_where_placed hi hi_image no_trees refl placed
