-- Operands as runs: each list of kinds has one list of runs, and a pop takes what the list has.
use Rattle.std.proofs.Common.{◌≡◌, ℕ, zero, suc, ◌+◌, ◌-◌, ◌<◌, ◌≤◌, ◌^◌, List, [], ◌∷◌, ◌++◌, length, replicate, refl, sym, ap, ◌∙◌, subst, arith, Option, Some, None, Bool, true, false, if◌then◌else◌, nat_lt, append_assoc, inl, inr, ◌⊎◌}
use Rattle.std.specs.Prelude.{◌==◌}
use Rattle.std.specs.Bool.{Decides}
use Rattle.std.proofs.lemmas.Bool.Decides.{nat_tests}
use Rattle.model.specs.Module.Flow as flow
use Rattle.model.specs.Module.Flow.{V, N, R}
use Rattle.flow_check.specs.declared.pool.Kind.{Kind}
use Rattle.flow_check.specs.declared.pool.Kind.TheVariants.{Value, Name, Span}
use Rattle.flow_check.specs.declared.pool.Top.{Top}
use Rattle.flow_check.specs.declared.pool.Top.TheVariants.{Run, Begin, Try}
use Rattle.flow_check.specs.declared.pool.Node.{Node}
use Rattle.flow_check.proofs.Stacks.{grown}
use Rattle.flow_check.specs.Numbers.{Is, Grows, AreBoth, node, node_at, same_kind, run_length, below_run, onto, popped}
use Rattle.flow_check.specs.Shapes.{kind_of, to_kind, runs, IsTaken}

same_itself : (k : Kind) → same_kind k k ≡ true
same_itself Value = refl
same_itself Name = refl
same_itself Span = refl

kinds_cases : (k j : flow.OperandKind) → (k ≡ j) ⊎ ((same_kind (to_kind k) (to_kind j) ≡ false) × (k ≡ j → ⊥))
kinds_cases V V = inl refl
kinds_cases V N = inr (refl, λ e. absurd (cc))
kinds_cases V R = inr (refl, λ e. absurd (cc))
kinds_cases N V = inr (refl, λ e. absurd (cc))
kinds_cases N N = inl refl
kinds_cases N R = inr (refl, λ e. absurd (cc))
kinds_cases R V = inr (refl, λ e. absurd (cc))
kinds_cases R N = inr (refl, λ e. absurd (cc))
kinds_cases R R = inl refl

-- ---- the kinds that runs stand for

abbrev pub expand : List Top → List flow.OperandKind
expand [] = []
expand (Run k n ∷ ts) = replicate n (kind_of k) ++ expand ts
expand (Begin t ∷ ts) = expand ts
expand (Try t d ∷ ts) = expand ts

same_means : (k j : Kind) → same_kind k j ≡ true → k ≡ j
same_means Value Value e = refl
same_means Value Name e = absurd (cc)
same_means Value Span e = absurd (cc)
same_means Name Value e = absurd (cc)
same_means Name Name e = refl
same_means Name Span e = absurd (cc)
same_means Span Value e = absurd (cc)
same_means Span Name e = absurd (cc)
same_means Span Span e = refl

expand_run : (k j : Kind) (n : ℕ) (ts : List Top) (b : Bool) → same_kind k j ≡ b
    → replicate (if b then n else 0) (kind_of k) ++ expand (if b then ts else Run j n ∷ ts) ≡ replicate n (kind_of j) ++ expand ts
expand_run k j n ts true e = ap (λ x. replicate n (kind_of x) ++ expand ts) (same_means k j e)
expand_run k j n ts false e = refl

expand_split : (k : Kind) (ts : List Top) → replicate (run_length k ts) (kind_of k) ++ expand (below_run k ts) ≡ expand ts
expand_split k [] = refl
expand_split k (Run j n ∷ ts) = expand_run k j n ts (same_kind k j) refl
expand_split k (Begin t ∷ ts) = refl
expand_split k (Try t d ∷ ts) = refl

kind_back : (k : flow.OperandKind) → kind_of (to_kind k) ≡ k
kind_back V = refl
kind_back N = refl
kind_back R = refl

expand_onto : (k : flow.OperandKind) (ts : List Top) → expand (onto (to_kind k) ts) ≡ k ∷ expand ts
expand_onto k ts =
    let n = run_length (to_kind k) ts in
    let rest = expand (below_run (to_kind k) ts) in
    let e : n + 1 ≡ suc n = omega arith in
    ap (λ m. replicate m (kind_of (to_kind k)) ++ rest) e
    ∙ ap (λ l. kind_of (to_kind k) ∷ l) (expand_split (to_kind k) ts)
    ∙ ap (λ x. x ∷ expand ts) (kind_back k)

expand_runs : (ks : List flow.OperandKind) → expand (runs ks) ≡ ks
expand_runs [] = refl
expand_runs (k ∷ ks) = expand_onto k (runs ks) ∙ ap (λ l. k ∷ l) (expand_runs ks)

pub runs_one : (ks js : List flow.OperandKind) → runs ks ≡ runs js → ks ≡ js
runs_one ks js e = sym (expand_runs ks) ∙ ap expand e ∙ expand_runs js

-- ---- a run is at most as long as the list

length_expand : (n : ℕ) (k : flow.OperandKind) (l : List flow.OperandKind) → n ≤ length (replicate n k ++ l)
length_expand zero k l = omega arith
length_expand (suc n) k l = let h = length_expand n k l in omega (arith, h)

pub run_within : (k : Kind) (ks : List flow.OperandKind) → run_length k (runs ks) ≤ length ks
run_within k ks =
    subst (λ l. run_length k (runs ks) ≤ length l) (expand_split k (runs ks) ∙ expand_runs ks)
    (length_expand (run_length k (runs ks)) (kind_of k) (expand (below_run k (runs ks))))

-- ---- a pop

Positive : List Top → Type 0
Positive [] = Unit {0}
Positive (Run k n ∷ ts) = (0 < n) × Positive ts
Positive (Begin t ∷ ts) = Positive ts
Positive (Try t d ∷ ts) = Positive ts

positive_if : (b : Bool) (j : Kind) (n : ℕ) (ts : List Top) → Positive (Run j n ∷ ts) → Positive (if b then ts else Run j n ∷ ts)
unfolding Positive
positive_if true j n ts h = h.1
positive_if false j n ts h = h

positive_below : (k : Kind) (ts : List Top) → Positive ts → Positive (below_run k ts)
unfolding Positive
positive_below k [] h = h
positive_below k (Run j n ∷ ts) h = positive_if (same_kind k j) j n ts h
positive_below k (Begin t ∷ ts) h = h
positive_below k (Try t d ∷ ts) h = h

positive_runs : (ks : List flow.OperandKind) → Positive (runs ks)
unfolding Positive
positive_runs [] = tt
positive_runs (k ∷ ks) = (omega arith, positive_below (to_kind k) (runs ks) (positive_runs ks))

-- the kind stands uppermost, or doesn't
abbrev Split : Kind → List Top → Type 0
Split k ts = ((run_length k ts ≡ 0) × (below_run k ts ≡ ts)) ⊎ ((0 < run_length k ts) × (ts ≡ Run k (run_length k ts) ∷ below_run k ts))

split_run : (k j : Kind) (n : ℕ) (ts : List Top) → 0 < n → (b : Bool) → same_kind k j ≡ b
    → (((if b then n else 0) ≡ 0) × ((if b then ts else Run j n ∷ ts) ≡ Run j n ∷ ts))
    ⊎ ((0 < (if b then n else 0)) × (Run j n ∷ ts ≡ Run k (if b then n else 0) ∷ (if b then ts else Run j n ∷ ts)))
split_run k j n ts h true e = inr (h, ap (λ x. Run x n ∷ ts) (sym (same_means k j e)))
split_run k j n ts h false e = inl (refl, refl)

split : (k : Kind) (ts : List Top) → Positive ts → Split k ts
unfolding Positive
split k [] h = inl (refl, refl)
split k (Run j n ∷ ts) h = split_run k j n ts h.0 (same_kind k j) refl
split k (Begin t ∷ ts) h = inl (refl, refl)
split k (Try t d ∷ ts) h = inl (refl, refl)

-- what is left where n stand uppermost at most
abbrev part : Kind → (n r : ℕ) → List Top → Option (List Top)
part k n r b = if nat_lt r n then None else if r == n then Some b else Some (Run k (r - n) ∷ b)

part_fewer : (k : Kind) (n r : ℕ) (b : List Top) → part k (suc n) (r + 1) b ≡ part k n r b
part_fewer k n r b =
    let l : nat_lt (r + 1) (suc n) ≡ nat_lt r n = grind (arith, nat_tests) in
    let e : (r + 1 == suc n) ≡ (r == n) = grind (arith, nat_tests) in
    let d : r + 1 - suc n ≡ r - n = omega arith in
    rw (l, e, d) refl

part_none : (k : Kind) (r : ℕ) (ts b : List Top) → ((r ≡ 0) × (b ≡ ts)) ⊎ ((0 < r) × (ts ≡ Run k r ∷ b)) → part k 0 r b ≡ Some ts
part_none k r ts b (inl (z, e)) = subst (λ x. part k 0 x b ≡ Some ts) (sym z) (ap Some e)
part_none k r ts b (inr (p, e)) =
    let l : nat_lt r 0 ≡ false = grind (arith, nat_tests) in
    let d : (r == 0) ≡ false = grind (arith, nat_tests) in
    let m : r - 0 ≡ r = omega arith in
    rw (l, d, m) (ap Some (sym e))

pop_some : (k : Kind) (n : ℕ) (ts : List Top) → popped k (suc n) ts ≡ part k (suc n) (run_length k ts) (below_run k ts)
pop_some k n ts = let z : (suc n == 0) ≡ false = grind (arith, nat_tests) in rw z refl

onto_part : (k : Kind) (n : ℕ) (ts : List Top) → popped k (suc n) (onto k ts) ≡ part k n (run_length k ts) (below_run k ts)
onto_part k n ts = pop_some k n (onto k ts) ∙ rw (same_itself k) (part_fewer k n (run_length k ts) (below_run k ts))

pop_same : (k : Kind) (n : ℕ) (ts : List Top) → Positive ts → popped k (suc n) (onto k ts) ≡ popped k n ts
pop_same k zero ts h = onto_part k 0 ts ∙ part_none k (run_length k ts) ts (below_run k ts) (split k ts h)
pop_same k (suc n) ts h = onto_part k (suc n) ts ∙ sym (pop_some k n ts)

part_nothing : (k : Kind) (n : ℕ) (b : List Top) → part k (suc n) 0 b ≡ None
part_nothing k n b = let l : nat_lt 0 (suc n) ≡ true = grind (arith, nat_tests) in rw l refl

pop_other : (k j : Kind) (n : ℕ) (ts : List Top) → same_kind k j ≡ false → popped k (suc n) (onto j ts) ≡ None
pop_other k j n ts e = pop_some k n (onto j ts) ∙ rw e (part_nothing k n (onto j ts))

pop_empty : (k : Kind) (n : ℕ) → popped k (suc n) [] ≡ None
pop_empty k n = pop_some k n [] ∙ part_nothing k n []

abbrev PoppedIs : Option (List Top) → ℕ → flow.OperandKind → List flow.OperandKind → Type 0
PoppedIs None n k ks = (below : List flow.OperandKind) → ks ≡ replicate n k ++ below → ⊥
PoppedIs (Some ts) n k ks = (below : List flow.OperandKind) × (ks ≡ replicate n k ++ below) × (ts ≡ runs below)

popped_more : (r : Option (List Top)) (n : ℕ) (k : flow.OperandKind) (ks : List flow.OperandKind) → PoppedIs r n k ks → PoppedIs r (suc n) k (k ∷ ks)
popped_more None n k ks h = λ below e. h below (let z : ks ≡ replicate n k ++ below = cc in z)
popped_more (Some ts) n k ks h = (h.0, ap (λ l. k ∷ l) h.1, h.2)

popped_kinds : (k : flow.OperandKind) (n : ℕ) (ks : List flow.OperandKind) → PoppedIs (popped (to_kind k) n (runs ks)) n k ks
popped_kinds k zero ks = (ks, refl, refl)
popped_kinds k (suc n) [] = subst (λ r. PoppedIs r (suc n) k []) (sym (pop_empty (to_kind k) n)) (λ below e. absurd (cc))
popped_kinds k (suc n) (j ∷ ks) =
    elim (kinds_cases k j) [
      | inl same ↦ subst (λ x. PoppedIs (popped (to_kind k) (suc n) (onto (to_kind x) (runs ks))) (suc n) k (x ∷ ks)) same
          (subst (λ r. PoppedIs r (suc n) k (k ∷ ks)) (sym (pop_same (to_kind k) n (runs ks) (positive_runs ks)))
          (popped_more (popped (to_kind k) n (runs ks)) n k ks (popped_kinds k n ks)))
      | inr ne ↦ subst (λ r. PoppedIs r (suc n) k (j ∷ ks)) (sym (pop_other (to_kind k) (to_kind j) n (runs ks) ne.0))
          (λ below e. ne.1 (let z : k ≡ j = cc in z))
    ]

taken_by : (ns : List Node) (r : Option ℕ) (p : Option (List Top)) (n : ℕ) (k : flow.OperandKind) (ks : List flow.OperandKind)
    → AreBoth ns r p → PoppedIs p n k ks → IsTaken ns r (replicate n k) ks
taken_by ns None None n k ks a h = h
taken_by ns None (Some ts) n k ks a h = absurd a
taken_by ns (Some i) None n k ks a h = absurd a
taken_by ns (Some i) (Some ts) n k ks a h = (h.0, h.1, subst (λ l. Is ns i l) h.2 a)

-- a pop takes as many of the kind
pub pop_takes : (ns : List Node) (r : Option ℕ) (n : ℕ) (k : flow.OperandKind) (ks : List flow.OperandKind) → AreBoth ns r (popped (to_kind k) n (runs ks)) → IsTaken ns r (replicate n k) ks
pop_takes ns r n k ks a = taken_by ns r (popped (to_kind k) n (runs ks)) n k ks a (popped_kinds k n ks)

pub kind_there : (k : Kind) → to_kind (kind_of k) ≡ k
kind_there Value = refl
kind_there Name = refl
kind_there Span = refl

pub run_takes : (ns : List Node) (r : Option ℕ) (n : ℕ) (k : Kind) (ks : List flow.OperandKind) → AreBoth ns r (popped k n (runs ks)) → IsTaken ns r (replicate n (kind_of k)) ks
run_takes ns r n k ks a = pop_takes ns r n (kind_of k) ks (subst (λ j. AreBoth ns r (popped j n (runs ks))) (sym (kind_there k)) a)

pub cancel : (ts a b : List flow.OperandKind) → ts ++ a ≡ ts ++ b → a ≡ b
cancel [] a b e = e
cancel (t ∷ ts) a b e = cancel ts a b (let z : ts ++ a ≡ ts ++ b = cc in z)

-- what is taken after more was
pub then_taken : (ns : List Node) (r : Option ℕ) (ts us ks below : List flow.OperandKind) → ks ≡ ts ++ below → IsTaken ns r us below → IsTaken ns r (ts ++ us) ks
then_taken ns None ts us ks below e h = λ b f. h b (cancel ts below (us ++ b) (sym e ∙ f ∙ append_assoc ts us b))
then_taken ns (Some k) ts us ks below e h = (h.0, e ∙ ap (λ l. ts ++ l) h.1 ∙ sym (append_assoc ts us h.0), h.2)

-- one more operand
pub pushed : (ns more : List Node) → Grows ns more → (k : Kind) (n : ℕ) (below i : ℕ) (ks : List flow.OperandKind)
    → n ≡ run_length k (runs ks) → Is ns below (below_run k (runs ks)) → node_at more i ≡ Some (node (Run k (n + 1)) below)
    → Is more i (runs (kind_of k ∷ ks))
pushed ns more g k n below i ks e h at =
    subst (λ j. Is more i (onto j (runs ks))) (sym (kind_there k))
    (below, at ∙ ap (λ m. Some (node (Run k (m + 1)) below)) e, grown ns more g below (below_run k (runs ks)) h)

pub count_fits : (k : Kind) (n : ℕ) (ks : List flow.OperandKind) → n ≡ run_length k (runs ks) → length ks < 2 ^ 31 → n + 1 < 2 ^ 32
count_fits k n ks e h = let w = run_within k ks in omega (arith, e, w, h)

-- the same of what a call gave
pub then_some : (a b : List Node) (r r' : Option ℕ) (rest : ℕ) (ts us ks : List flow.OperandKind)
    → r ≡ Some rest → IsTaken a r ts ks → ((below : List flow.OperandKind) → Is a rest (runs below) → IsTaken b r' us below) → IsTaken b r' (ts ++ us) ks
then_some a b r r' rest ts us ks e h next =
    let g : IsTaken a (Some rest) ts ks = subst (λ x. IsTaken a x ts ks) e h in
    then_taken b r' ts us ks g.0 g.1 (next g.0 g.2)

pub then_none : (a b : List Node) (r : Option ℕ) (ts us ks : List flow.OperandKind) → r ≡ None → IsTaken a r ts ks → IsTaken b None (ts ++ us) ks
then_none a b r ts us ks e h =
    let g : IsTaken a None ts ks = subst (λ x. IsTaken a x ts ks) e h in
    λ below f. g (us ++ below) (f ∙ append_assoc ts us below)

pub none_empty : (ns : List Node) (i : ℕ) (ts : List Top) → i ≡ 0 → Is ns i ts → ts ≡ []
none_empty ns i [] e h = refl
none_empty ns i (t ∷ ts) e h = let f : node_at ns 0 ≡ Some (node t h.0) = subst (λ j. node_at ns j ≡ Some (node t h.0)) e h.1 in absurd (cc)

module _ (ns : List Node) (n : ℕ) (below : ℕ) (ks : List flow.OperandKind) (long : n ≡ run_length Value (runs ks)) (rest : Is ns below (below_run Value (runs ks))) where
  pub one_value : n ≡ 1 → below ≡ 0 → ks ≡ V ∷ []
  one_value e b =
      let z = none_empty ns below (below_run Value (runs ks)) b rest in
      elim (split Value (runs ks) (positive_runs ks)) [
        | inl h ↦ absurd (omega (arith, h.0, long, e))
        | inr h ↦ runs_one ks (V ∷ []) (h.1 ∙ ap (λ l. Run Value (run_length Value (runs ks)) ∷ l) z ∙ ap (λ m. Run Value m ∷ []) (sym long ∙ e))
      ]

  pub value_once : ks ≡ V ∷ [] → n ≡ 1
  value_once e = long ∙ ap (λ l. run_length Value (runs l)) e

  pub value_alone : ks ≡ V ∷ [] → below ≡ 0
  value_alone e = subst (λ l. Is ns below (below_run Value (runs l))) e rest

pub zero_test : (n : ℕ) → Decides (n == 0) (n ≡ 0)
zero_test n = (λ t. grind (arith, nat_tests, t), λ z. grind (arith, nat_tests, z))
