-- Unevaluated expressions are put one by one, as the queue of the definitions is worked off.
use Rattle.std.proofs.Common.{◌≡◌, ℕ, zero, suc, ◌+◌, ◌*◌, ◌≤◌, List, [], ◌∷◌, ◌++◌, length, sym, ap, ◌∙◌, subst, append_assoc, append-nil, arith, drop, Some, None}
use Rattle.std.specs.List.{AllByRecursion}
use Rattle.model.specs.declared.instr.Instr.TheVariants as op
use Rattle.model.specs.Deck.Trees.{Expr}
use Rattle.model.specs.Deck.Weights as weights
use Rattle.model.specs.Deck.Weights.{of_expr}
use Rattle.expr_codegen.specs.Code.{Part, value}
use Rattle.expr_codegen.specs.Emitting.{Gen, Emits, Countable, Takes, size, due, with_instr}
use Rattle.expr_codegen.proofs.Joins.{both, instr, drop_join}
use Rattle.codegen.specs.Laying.{Laid, left}
use Rattle.codegen.specs.Layout as layout
use Rattle.codegen.proofs.Laying.{laid_none, laid_more}
use Rattle.codegen.proofs.Unevaluated.{weigh_join, all_join, expression_later}

abbrev weigh : List Expr → ℕ
weigh es = weights.total of_expr es

-- behind the expressions so far and the others stand all; g is the state at first
abbrev pub Kept : Gen → List ℕ → Gen → Type 0
Kept g os h =
    ((fuel : ℕ) → weights.total of_expr (left g) ≤ fuel
    → (m : ℕ) × (weights.total of_expr (left h) ≤ m) × ((j : Gen) (ps : List ℕ) → Laid (layout.expressions m (left h)) ps h j → Laid (layout.expressions fuel (left g)) (os ++ ps) g j))
    × AllByRecursion Countable (left h)
    × (size h ≤ size g)

pub begins : (g : Gen) → AllByRecursion Countable (left g) → Kept g [] g
begins g h = ((λ fuel w. (fuel, w, λ j ps z. z)), h, omega arith)

some_left : (n : ℕ) (xs : List Expr) (e : Expr) (rest : List Expr) → drop n xs ≡ e ∷ rest → n + 1 ≤ length xs
some_left zero [] e rest h = cc
some_left (suc n) [] e rest h = cc
some_left zero (x ∷ xs) e rest h = omega arith
some_left (suc n) (x ∷ xs) e rest h = let w = some_left n xs e rest h in omega (arith, w)

-- one is taken
pub record Taken (e : Expr) (g h : Gen) : Type 0 where
  pub is : left g ≡ e ∷ left h
  pub room : size g ≡ size h + (9 * of_expr e + 1)
  pub within : h.taken ≤ length h.waiting

pub taken : (e : Expr) (g h : Gen) → Takes (Some e) g h → Taken e g h
unfolding size
taken e g h (is, at) = subst (Taken e g) (sym is) (record {
  is = at;
  room = let w = ap due at in omega (arith, w);
  within = some_left g.taken g.waiting e (drop (g.taken + 1) g.waiting) at;
})

-- it stands behind what was before it was taken
earlier : (ps : List Part) (os : List ℕ) (e : Expr) (g h j : Gen) → Takes (Some e) g h → Laid ps os h j → Laid ps os g j
earlier ps os e g h j (is, at) z =
    let y : Laid ps os (record { code = g.code; texts = g.texts; waiting = g.waiting; taken = g.taken + 1 }) j = subst (λ h. Laid ps os h j) is z in
    record { parts = y.parts; offsets = y.offsets }

pub record Turn (e : Expr) (h k : Gen) : Type 0 where
  pub emits : Emits (layout.expression e) h k
  pub joined : left k ≡ left h ++ (layout.expression e).later
  pub lighter : weights.total of_expr (left k) + 1 ≤ weights.total of_expr (left h) + of_expr e
  pub countable : AllByRecursion Countable (left k)

pub turn : (e : Expr) (h i k : Gen) → h.taken ≤ length h.waiting → Countable e → AllByRecursion Countable (left h) → Emits (value e) h i → k ≡ with_instr op.Ret i → Turn e h k
turn e h i k within c all x put =
    let emits : Emits (layout.expression e) h k = both x (instr op.Ret i k put) in
    let is : left k ≡ left h ++ (layout.expression e).later = ap (λ n. drop n k.waiting) emits.taken ∙ ap (drop h.taken) emits.waiting ∙ drop_join h.taken h.waiting (layout.expression e).later within in
    let l = expression_later e c in
    record {
      emits = emits;
      joined = is;
      lighter = (let a = ap weigh is in let b = weigh_join (left h) (layout.expression e).later in let v = l.1.weight in let w = l.2 in omega (arith, a, b, v, w));
      countable = subst (AllByRecursion Countable) (sym is) (all_join (left h) (layout.expression e).later all l.1.countable);
    }

pub step : (e : Expr) (os now : List ℕ) (at : ℕ) (g h h1 i k : Gen) → Takes (Some e) h h1 → at ≡ length h1.code → now ≡ os ++ at ∷ [] → Kept g os h → Emits (value e) h1 i → k ≡ with_instr op.Ret i
    → size i ≤ size h1 + 9 * of_expr e → size k ≡ size i + 1 → Kept g now k
step e os now at g h h1 i k takes place put (all, countable, room) x ret s r =
    let t : Taken e h h1 = taken e h h1 takes in
    let c = subst (AllByRecursion Countable) t.is countable in
    let u : Turn e h1 k = turn e h1 i k t.within c.0 c.1 x ret in
    let fits = t.room in
    ((λ fuel w. by fuel t u (all fuel w)), u.countable, omega (arith, fits, room, s, r))
  where
    by : (fuel : ℕ) → Taken e h h1 → Turn e h1 k
        → (m : ℕ) × (weights.total of_expr (left h) ≤ m) × ((j : Gen) (ps : List ℕ) → Laid (layout.expressions m (left h)) ps h j → Laid (layout.expressions fuel (left g)) (os ++ ps) g j)
        → (m : ℕ) × (weights.total of_expr (left k) ≤ m) × ((j : Gen) (ps : List ℕ) → Laid (layout.expressions m (left k)) ps k j → Laid (layout.expressions fuel (left g)) (now ++ ps) g j)
    by fuel t u (zero, w, f) = let a = ap weigh t.is in let b = u.lighter in absurd (omega (arith, a, b, w))
    by fuel t u (suc m, w, f) = (
      m,
      (let a = ap weigh t.is in let b = u.lighter in omega (arith, a, b, w)),
      λ j ps z.
          let rest = layout.expressions m (left h1 ++ (layout.expression e).later) in
          let z1 : Laid rest ps k j = subst (λ l. Laid (layout.expressions m l) ps k j) u.joined z in
          let z2 : Laid (layout.expressions (suc m) (e ∷ left h1)) (length h1.code ∷ ps) h1 j = laid_more (layout.expression e) rest ps u.emits z1 in
          let z3 : Laid (layout.expressions (suc m) (e ∷ left h1)) (length h1.code ∷ ps) h j = earlier (layout.expressions (suc m) (e ∷ left h1)) (length h1.code ∷ ps) e h h1 j takes z2 in
          let z4 = f j (length h1.code ∷ ps) (subst (λ l. Laid (layout.expressions (suc m) l) (length h1.code ∷ ps) h j) (sym t.is) z3) in
          subst (λ o. Laid (layout.expressions fuel (left g)) o g j) (sym (ap (λ l. l ++ ps) put ∙ append_assoc os (at ∷ []) ps ∙ ap (λ a. os ++ a ∷ ps) place)) z4,
    )

pub ends : (os : List ℕ) (g h k : Gen) → Takes None h k → Kept g os h → (fuel : ℕ) → weights.total of_expr (left g) ≤ fuel → Laid (layout.expressions fuel (left g)) os g k
ends os g h k (is, none) (all, countable, room) fuel w =
    let a = all fuel w in
    subst (λ k. Laid (layout.expressions fuel (left g)) os g k) (sym is)
    (subst (λ o. Laid (layout.expressions fuel (left g)) o g h) (append-nil os)
    (a.2 h [] (subst (λ l. Laid (layout.expressions a.0 l) [] h h) (sym none) (empty a.0))))
  where
    empty : (m : ℕ) → Laid (layout.expressions m []) [] h h
    empty zero = laid_none h
    empty (suc m) = laid_none h
