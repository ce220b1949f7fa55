-- How many steps of the machine are enough, where each rule is followed at a known pace.
use Rattle.std.proofs.Common.{ℕ, suc, ◌+◌, ◌*◌, ◌≤◌, Option, sym, subst, arith}
use Rattle.model.specs.Deck.Trees.{Expr}
use Rattle.model.specs.Language.Programs.{Program}
use Rattle.model.specs.Language.Meaning.{W, Res, Done, Fails, Ends, Open, Query, QVal, QName, QArgs, QBody, QExec, QMatch, SearchEvent, Rule, Ret, Fail, Stop, Ask, Seek, after, meaning}
use Rattle.model.specs.Machine.Steps.{MW, Module, State, steps}
use Rattle.model.specs.Pattern.Patterns.{Running}
use Rattle.model.specs.Pattern.Search.{scan}
use Rattle.model.specs.Machine.Alike.{WR}
use Rattle.model.specs.Language.RulesUsed.{after_count, follow_count, query_count}
use Rattle.model.specs.Laws.StepBound.{steps_per_rule}
use Rattle.model.proofs.Language.MeaningGrows.{at_depth}
use Rattle.model.proofs.Machine.Following.{Task, start, done, failed, rank, extra, spare, Stopped, Still, Follows, steps_add}

-- these, where a search comes to anything
abbrev pub if_told : SearchEvent → ℕ → ℕ
if_told Running k = 0
if_told x k = k

module _ (prog : Program) (img : Module) (trees_at : ℕ → Option Expr) where
  -- at the depth n: the pattern steps that a match has made already, if its search comes to anything; if not, they are
  -- counted with the question before
  abbrev pub spent : ℕ → (q : Query) → Task prog img trees_at q → ℕ
  spent n (QVal e) t = 0
  spent n (QName e) t = 0
  spent n (QArgs xs) t = 0
  spent n (QBody b) t = 0
  spent n (QExec k) t = 0
  spent n (QMatch s p left u) t = if_told (scan s n p left 0 u) t.so_far

  -- after i steps that are done, n in all are enough for a result, of which an answer or a failure leaves k; and while it is
  -- open, for what was printed
  abbrev pub Reaches : {A : Type 0} → (i n k : ℕ) → State → (A → W → State → Type 0) → (W → State → Type 0) → Res A → Type 0
  Reaches i n k c Q F (Done a w) = (j : ℕ) × (i + j + k ≤ n) × Q a w (steps img j c)
  Reaches i n k c Q F (Fails w) = (j : ℕ) × (i + j + k ≤ n) × F w (steps img j c)
  Reaches i n k c Q F (Ends e w) = (j : ℕ) × (i + j ≤ suc n) × Stopped prog img trees_at e w (steps img j c)
  Reaches i n k c Q F (Open w) = (j : ℕ) × (i + j ≤ n) × Still prog img trees_at (steps img j c) w

  pub reaches_from : {A : Type 0} (j i i' n m k : ℕ) (c : State) (Q : A → W → State → Type 0) (F : W → State → Type 0) (r : Res A) → i + j + n ≤ i' + m → Reaches i' n k (steps img j c) Q F r → Reaches i m k c Q F r
  reaches_from j i i' n m k c Q F (Done a w) le (l, h, x) = (j + l, omega (arith, le, h), subst (Q a w) (sym (steps_add prog img trees_at j l c)) x)
  reaches_from j i i' n m k c Q F (Fails w) le (l, h, x) = (j + l, omega (arith, le, h), subst (F w) (sym (steps_add prog img trees_at j l c)) x)
  reaches_from j i i' n m k c Q F (Ends e w) le (l, h, x) = (j + l, omega (arith, le, h), subst (Stopped prog img trees_at e w) (sym (steps_add prog img trees_at j l c)) x)
  reaches_from j i i' n m k c Q F (Open w) le (l, h, x) = (j + l, omega (arith, le, h), subst (λ s. Still prog img trees_at s w) (sym (steps_add prog img trees_at j l c)) x)

  -- of k more, as many are left
  pub leaves : {A : Type 0} (n m k : ℕ) (c : State) (Q : A → W → State → Type 0) (F : W → State → Type 0) (r : Res A) → n + k ≤ m → Reaches 0 n 0 c Q F r → Reaches 0 m k c Q F r
  leaves n m k c Q F (Done a w) le (j, h, x) = (j, omega (arith, le, h), x)
  leaves n m k c Q F (Fails w) le (j, h, x) = (j, omega (arith, le, h), x)
  leaves n m k c Q F (Ends e w) le (j, h, x) = (j, omega (arith, le, h), x)
  leaves n m k c Q F (Open w) le (j, h, x) = (j, omega (arith, le, h), x)

  -- a result, and what follows it
  pub reaches_after : {A B : Type 0} (i n k l m : ℕ) (c : State) (Q : A → W → State → Type 0) (F : W → State → Type 0) (Q' : B → W → State → Type 0) (F' : W → State → Type 0) (r : Res A) (g : A → W → Res B) (f : W → Res B) (gc : A → W → ℕ) (fc : W → ℕ)
      → i + n ≤ m → i + n + l + steps_per_rule * after_count r gc fc ≤ m + k → Reaches 0 n k (steps img i c) Q F r
      → ((a : A) (w : W) (d : State) → Q a w d → Reaches 0 (l + steps_per_rule * gc a w) 0 d Q' F' (g a w)) → ((w : W) (d : State) → F w d → Reaches 0 (l + steps_per_rule * fc w) 0 d Q' F' (f w))
      → Reaches 0 m 0 c Q' F' (after r g f)
  reaches_after i n k l m c Q F Q' F' (Done a w) g f gc fc first both (j, h, x) hk hf =
      let b : ℕ = l + steps_per_rule * gc a w in
      reaches_from i 0 0 (j + b) m 0 c Q' F' (g a w) (omega (arith, both, h)) (reaches_from j 0 0 b (j + b) 0 (steps img i c) Q' F' (g a w) (omega arith) (hk a w (steps img j (steps img i c)) x))
  reaches_after i n k l m c Q F Q' F' (Fails w) g f gc fc first both (j, h, x) hk hf =
      let b : ℕ = l + steps_per_rule * fc w in
      reaches_from i 0 0 (j + b) m 0 c Q' F' (f w) (omega (arith, both, h)) (reaches_from j 0 0 b (j + b) 0 (steps img i c) Q' F' (f w) (omega arith) (hf w (steps img j (steps img i c)) x))
  reaches_after i n k l m c Q F Q' F' (Ends e w) g f gc fc first both (j, h, x) hk hf = reaches_from i 0 0 n m 0 c Q' F' (Ends e w) (omega (arith, first)) (j, h, x)
  reaches_after i n k l m c Q F Q' F' (Open w) g f gc fc first both (j, h, x) hk hf = reaches_from i 0 0 n m 0 c Q' F' (Open w) (omega (arith, first)) (j, h, x)

  -- what a query may take at the depth n: so many steps for each rule, and the extra ones
  abbrev pub allowed : ℕ → Query → W → ℕ
  allowed n q w = steps_per_rule * query_count prog n q w + extra q

  abbrev pub SimPaced : ℕ → Type 0
  SimPaced n = (q : Query) (t : Task prog img trees_at q) (w : W) (w' : MW) → WR trees_at w w' → Reaches (spent n q t) (allowed n q w) (spare q) (start prog img trees_at q t w') (done prog img trees_at q t) (failed prog img trees_at q t) (meaning prog n q w)

  -- the same from a start without steps before
  fresh : {A : Type 0} (i n k : ℕ) (c : State) (Q : A → W → State → Type 0) (F : W → State → Type 0) (r : Res A) → Reaches i n k c Q F r → Reaches 0 n k c Q F r
  fresh i n k c Q F (Done a w) (j, h, x) = (j, omega arith, x)
  fresh i n k c Q F (Fails w) (j, h, x) = (j, omega arith, x)
  fresh i n k c Q F (Ends e w) (j, h, x) = (j, omega arith, x)
  fresh i n k c Q F (Open w) (j, h, x) = (j, omega arith, x)

  abbrev pub count_at : {A : Type 0} → ℕ → Rule A → ℕ
  count_at n p = follow_count (suc n) (λ r v. meaning prog n r v) (λ r v. query_count prog n r v) p

  pub follow_reaches : {A : Type 0} (n : ℕ) → SimPaced n → (r b : ℕ) → 1 ≤ r → (c : State) (Q : A → W → State → Type 0) (F : W → State → Type 0) (p : Rule A) → Follows prog img trees_at r b c Q F p → Reaches 0 (b + steps_per_rule * count_at n p) 0 c Q F (at_depth prog n p)
  follow_reaches n sim r b up c Q F (Ret a w) (j, le, x) = (j, omega arith, x)
  follow_reaches n sim r b up c Q F (Fail w) (j, le, x) = (j, omega arith, x)
  follow_reaches n sim r b up c Q F (Stop e w) (j, le, x) = (j, omega arith, x)
  follow_reaches n sim r b up c Q F (Ask q w k f) x =
      let above : suc (rank q) ≤ x.5 = x.6 in
      let first : x.0 + extra q ≤ b = x.9.0 in
      let both : x.0 + extra q + x.8 ≤ b + spare q = x.9.1 in
      let one : 1 ≤ x.5 = omega (arith, above) in
      reaches_after x.0 (allowed n q w) (spare q) x.8 (b + steps_per_rule * count_at n (Ask q w k f)) c (done prog img trees_at q x.1) (failed prog img trees_at q x.1) Q F (meaning prog n q w)
      (λ a u. at_depth prog n (k a u)) (λ u. at_depth prog n (f u)) (λ a u. count_at n (k a u)) (λ u. count_at n (f u)) (omega (arith, first)) (omega (arith, both))
      (subst (λ s. Reaches 0 (allowed n q w) (spare q) s (done prog img trees_at q x.1) (failed prog img trees_at q x.1) (meaning prog n q w)) (sym x.3)
      (fresh (spent n q x.1) (allowed n q w) (spare q) (start prog img trees_at q x.1 x.2) (done prog img trees_at q x.1) (failed prog img trees_at q x.1) (meaning prog n q w) (sim q x.1 w x.2 x.4)))
      (λ a u d h. follow_reaches n sim x.5 x.8 one d Q F (k a u) (x.10 a u d h)) (λ u d h. follow_reaches n sim x.5 x.8 one d Q F (f u) (x.11 u d h))
  follow_reaches n sim r b up c Q F (Seek g w k) x =
      let none : r ≤ 0 = x.0 in
      absurd (omega (arith, up, none))
