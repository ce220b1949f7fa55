-- Numbers of stacks: more nodes leave them, and each stack has one number.
use Rattle.std.proofs.Common.{◌≡◌, ℕ, zero, suc, ◌+◌, ◌-◌, ◌<◌, ◌≤◌, ◌^◌, ◌⊎◌, inl, inr, List, [], ◌∷◌, ◌++◌, refl, sym, ap, ◌∙◌, subst, Option, Some, None, Bool, true, false, if◌then◌else◌, nat_lt, slice_get, append_assoc, append-nil, arith}
use Rattle.std.specs.Prelude.{◌==◌, ◌&&◌}
use Rattle.std.proofs.lemmas.Bool.{eqb-true, le-ltb, lt-ltb, ltb-false}
use Rattle.std.specs.List.{AllByRecursion, IsDistinct, list_any}
use Rattle.indexmap.specs.IndexSet.{insert_key}
use Rattle.flow_check.specs.declared.pool.Kind.{Kind}
use Rattle.flow_check.specs.declared.pool.Top.{Top}
use Rattle.flow_check.specs.declared.pool.Top.TheVariants.{Begin, Run, Try}
use Rattle.flow_check.specs.declared.pool.Node.{Node}
use Rattle.flow_check.specs.Numbers.{Is, Distinct, Grows, either_node, first_begin, lone_at, lone_by, lone_number, node_at, node, placed, run_length, below_run, popped}

get_more : {A : Type 0} (xs ys : List A) (k : ℕ) (x : A) → slice_get xs k ≡ Some x → slice_get (xs ++ ys) k ≡ Some x
get_more [] ys k x e = absurd (cc)
get_more (y ∷ xs) ys zero x e = e
get_more (y ∷ xs) ys (suc k) x e = get_more xs ys k x e

placed_grown : (ns more : List Node) → Grows ns more → (k : ℕ) (n : Node) → placed ns k ≡ Some n → placed more k ≡ Some n
placed_grown ns more g zero n e = absurd (cc)
placed_grown ns more g (suc k) n e = subst (λ l. slice_get l k ≡ Some n) (sym g.longer) (get_more ns g.late k n e)

either_grown : (o a b : Option Node) (n : Node) → (a ≡ Some n → b ≡ Some n) → either_node o a ≡ Some n → either_node o b ≡ Some n
either_grown None a b n on e = on e
either_grown (Some m) a b n on e = e

pub node_grown : (ns more : List Node) → Grows ns more → (k : ℕ) (n : Node) → node_at ns k ≡ Some n → node_at more k ≡ Some n
node_grown ns more g k n e = either_grown (lone_at k) (placed ns k) (placed more k) n (placed_grown ns more g k n) e

pub grown : (ns more : List Node) → Grows ns more → (k : ℕ) (ts : List Top) → Is ns k ts → Is more k ts
grown ns more g k [] h = h
grown ns more g k (t ∷ ts) h = (h.0, node_grown ns more g k (node t h.0) h.1, grown ns more g h.0 ts h.2)

pub grows_on : (a b c : List Node) → Grows a b → Grows b c → Grows a c
grows_on a b c g h = record {
  late = g.late ++ h.late;
  longer = h.longer ∙ ap (λ l. l ++ h.late) g.longer ∙ append_assoc a g.late h.late;
  distinct = λ d. h.distinct (g.distinct d);
}

pub stays : (a b : List Node) → b ≡ a → Grows a b
stays a b e = record { late = []; longer = e ∙ sym (append-nil a); distinct = subst Distinct (sym e) }

module _ (eq : Node → Node → Bool) (itself : (n : Node) → eq n n ≡ true) where
  apart : (ns : List Node) (k : ℕ) (n m : Node) → AllByRecursion (λ y. eq n y ≡ false) ns → slice_get ns k ≡ Some m → n ≡ m → ⊥
  apart [] k n m h e s = absurd (cc)
  apart (x ∷ ns) zero n m h e s = let a : eq n n ≡ false = subst (λ y. eq n y ≡ false) (let z : x ≡ n = cc in z) h.0 in absurd (cc (itself n))
  apart (x ∷ ns) (suc k) n m h e s = apart ns k n m h.1 e s

  distinct_by : (ns : List Node) → IsDistinct eq ns → (i j : ℕ) (n : Node) → slice_get ns i ≡ Some n → slice_get ns j ≡ Some n → i ≡ j
  unfolding IsDistinct
  distinct_by [] d i j n e f = absurd (cc)
  distinct_by (x ∷ ns) d zero zero n e f = refl
  distinct_by (x ∷ ns) d zero (suc j) n e f = absurd (apart ns j x n d.0 f (let z : x ≡ n = cc in z))
  distinct_by (x ∷ ns) d (suc i) zero n e f = absurd (apart ns i x n d.0 e (let z : x ≡ n = cc in z))
  distinct_by (x ∷ ns) d (suc i) (suc j) n e f = ap suc (distinct_by ns d.1 i j n e f)

  pub placed_once : (ns : List Node) → IsDistinct eq ns → (i j : ℕ) (n : Node) → placed ns i ≡ Some n → placed ns j ≡ Some n → i ≡ j
  placed_once ns d zero j n e f = absurd (cc)
  placed_once ns d (suc i) zero n e f = absurd (cc)
  placed_once ns d (suc i) (suc j) n e f = ap suc (distinct_by ns d i j n e f)

-- ---- stacks that are known by their numbers

lone_back_by : (j : ℕ) (n : Node) (is_low is_short : Bool) → nat_lt j first_begin ≡ is_low → nat_lt (j - first_begin) first_begin ≡ is_short → lone_by is_low is_short (j - first_begin) ≡ Some n → lone_number n.top n.below ≡ Some j
lone_back_by j n true true p q e = absurd (cc)
lone_back_by j n true false p q e = absurd (cc)
lone_back_by j n false false p q e = absurd (cc)
lone_back_by j n false true p q e =
    let is : node (Begin (j - first_begin)) 0 ≡ n = cc in
    let ge : first_begin ≤ j = ltb-false j first_begin p in
    let at : first_begin + (j - first_begin) ≡ j = omega (arith, ge) in
    let it : lone_number (Begin (j - first_begin)) 0 ≡ Some j = rw q (ap (λ m. Some m) at) in
    subst (λ (m : Node). lone_number m.top m.below ≡ Some j) is it

-- it is the number of what stands on it
lone_back : (j : ℕ) (n : Node) → lone_at j ≡ Some n → lone_number n.top n.below ≡ Some j
lone_back j n e = lone_back_by j n (nat_lt j first_begin) (nat_lt (j - first_begin) first_begin) refl refl e

lone_once : (i j : ℕ) (n : Node) → lone_at i ≡ Some n → lone_at j ≡ Some n → i ≡ j
lone_once i j n e f = let z : Some i ≡ Some j = sym (lone_back i n e) ∙ lone_back j n f in cc

lone_there_by : (t b k : ℕ) (is_empty is_short : Bool) → (b == 0) ≡ is_empty → nat_lt t first_begin ≡ is_short → (if is_empty && is_short then Some (first_begin + t) else None) ≡ Some k → lone_at k ≡ Some (node (Begin t) b)
lone_there_by t b k false is_short p q e = absurd (cc)
lone_there_by t b k true false p q e = absurd (cc)
lone_there_by t b k true true p q e =
    let same : first_begin + t ≡ k = cc in
    let none : b ≡ 0 = eqb-true b 0 p in
    let left : k - first_begin ≡ t = omega (arith, same) in
    let high : nat_lt k first_begin ≡ false = le-ltb k first_begin (omega (arith, same)) in
    let low : nat_lt (k - first_begin) first_begin ≡ true = ap (λ n. nat_lt n first_begin) left ∙ q in
    rw high (rw low (ap (λ n. Some (node (Begin n) 0)) left ∙ ap (λ m. Some (node (Begin t) m)) (sym none)))

lone_there : (t : Top) (b k : ℕ) → lone_number t b ≡ Some k → lone_at k ≡ Some (node t b)
lone_there (Begin t) b k e = lone_there_by t b k (b == 0) (nat_lt t first_begin) refl refl e
lone_there (Run j n) b k e = absurd (cc)
lone_there (Try t d) b k e = absurd (cc)

-- what stands on a stack that was known by its number
pub lone_node : (ns : List Node) (t : Top) (b k : ℕ) → lone_number t b ≡ Some k → node_at ns k ≡ Some (node t b)
lone_node ns t b k e = ap (λ o. either_node o (placed ns k)) (lone_there t b k e)

pub high_node : (ns : List Node) (k : ℕ) → first_begin ≤ k → k < 2 ^ 32 → node_at ns k ≡ Some (node (Begin (k - first_begin)) 0)
high_node ns k ge lt =
    let high : nat_lt k first_begin ≡ false = le-ltb k first_begin ge in
    let low : nat_lt (k - first_begin) first_begin ≡ true = lt-ltb (k - first_begin) first_begin (omega (arith, ge, lt)) in
    rw high (rw low refl)

pub low_node : (ns : List Node) (k : ℕ) → k < first_begin → node_at ns k ≡ placed ns k
low_node ns k lt = let low : nat_lt k first_begin ≡ true = lt-ltb k first_begin lt in rw low refl

pub node_here : (ns : List Node) (i k : ℕ) (n : Node) → slice_get ns i ≡ Some n → k ≡ i + 1 → k < first_begin → node_at ns k ≡ Some n
node_here ns i k n e is lt =
    let z : k ≡ suc i = omega (arith, is) in
    low_node ns k lt ∙ ap (placed ns) z ∙ e

-- ---- one more node

get_put : (xs : List Node) (x n : Node) (k : ℕ) → slice_get (xs ++ x ∷ []) k ≡ Some n → (slice_get xs k ≡ Some n) ⊎ (x ≡ n)
get_put [] x n zero e = inr (let z : x ≡ n = cc in z)
get_put [] x n (suc k) e = absurd (cc)
get_put (y ∷ xs) x n zero e = inl e
get_put (y ∷ xs) x n (suc k) e = get_put xs x n k e

placed_put : (xs : List Node) (x n : Node) (k : ℕ) → placed (xs ++ x ∷ []) k ≡ Some n → (placed xs k ≡ Some n) ⊎ (x ≡ n)
placed_put xs x n zero e = absurd (cc)
placed_put xs x n (suc k) e = get_put xs x n k e

-- no node is that of a stack that is known by its number
abbrev NoneLone : List Node → Type 0
NoneLone ns = (i j : ℕ) (n : Node) → lone_at i ≡ None → placed ns i ≡ Some n → lone_at j ≡ Some n → ⊥

none_lone : (ns : List Node) → Distinct ns → NoneLone ns
none_lone ns d i j n none at lone =
    let first : node_at ns i ≡ Some n = ap (λ o. either_node o (placed ns i)) none ∙ at in
    let second : node_at ns j ≡ Some n = ap (λ o. either_node o (placed ns j)) lone in
    let same : i ≡ j = d i j n first second in
    let z : lone_at i ≡ Some n = ap lone_at same ∙ lone in
    let no : None ≡ Some n = sym none ∙ z in cc

none_more : (ns : List Node) (m : Node) → NoneLone ns → lone_number m.top m.below ≡ None → NoneLone (ns ++ m ∷ [])
none_more ns m all own i j n none at lone =
    elim (placed_put ns m n i at) [
      | inl e ↦ all i j n none e lone
      | inr e ↦ (
          let back : lone_number m.top m.below ≡ Some j = subst (λ (x : Node). lone_number x.top x.below ≡ Some j) (sym e) (lone_back j n lone) in
          let no : None ≡ Some j = sym own ∙ back in cc
          )
    ]

distinct_cases : (ns : List Node) (i j : ℕ) (n : Node) (o p : Option Node) → lone_at i ≡ o → lone_at j ≡ p → ((i j : ℕ) (n : Node) → placed ns i ≡ Some n → placed ns j ≡ Some n → i ≡ j) → NoneLone ns → either_node o (placed ns i) ≡ Some n → either_node p (placed ns j) ≡ Some n → i ≡ j
distinct_cases ns i j n None None a b once none e f = once i j n e f
distinct_cases ns i j n None (Some y) a b once none e f = absurd (none i j n a e (b ∙ f))
distinct_cases ns i j n (Some x) None a b once none e f = absurd (none j i n b f (a ∙ e))
distinct_cases ns i j n (Some x) (Some y) a b once none e f = lone_once i j n (a ∙ e) (b ∙ f)

distinct_from : (ns : List Node) → ((i j : ℕ) (n : Node) → placed ns i ≡ Some n → placed ns j ≡ Some n → i ≡ j) → NoneLone ns → Distinct ns
distinct_from ns once none i j n e f = distinct_cases ns i j n (lone_at i) (lone_at j) refl refl once none e f

pub distinct_none : Distinct []
distinct_none = distinct_from [] (λ i j n e f. none_placed i n e) (empty_lone)
  where
    none_placed : (i : ℕ) (n : Node) {A : Type 0} → placed [] i ≡ Some n → A
    none_placed zero n e = absurd (cc)
    none_placed (suc i) n e = absurd (cc)

    empty_lone : NoneLone []
    empty_lone i j n none at lone = none_placed i n at

-- a set with one more node that isn't that of a stack that is known by its number, or the same
pub put_grows : (eq : Node → Node → Bool) (itself : (n : Node) → eq n n ≡ true) (ns more : List Node) (n : Node) → lone_number n.top n.below ≡ None → more ≡ insert_key eq ns n → IsDistinct eq more → Grows ns more
put_grows eq itself ns more n own e d = elim (list_any (eq n) ns) as (λ b. more ≡ (if b then ns else ns ++ n ∷ []) → Grows ns more) [
  | true ↦ λ h. record { late = []; longer = h ∙ sym (append-nil ns); distinct = subst Distinct (sym h) }
  | false ↦ λ h. record { late = n ∷ []; longer = h; distinct = λ x. distinct_from more (placed_once eq itself more d) (subst NoneLone (sym h) (none_more ns n (none_lone ns x) own)) }
] e

-- a number is of one stack
pub one_stack : (ns : List Node) (k : ℕ) (ts us : List Top) → Is ns k ts → Is ns k us → ts ≡ us
one_stack ns k [] [] h g = refl
one_stack ns k [] (u ∷ us) h g = let P : ℕ → Type 0 = λ z. node_at ns z ≡ Some (node u g.0) in let e = subst P h g.1 in absurd (cc)
one_stack ns k (t ∷ ts) [] h g = let P : ℕ → Type 0 = λ z. node_at ns z ≡ Some (node t h.0) in let e = subst P g h.1 in absurd (cc)
one_stack ns k (t ∷ ts) (u ∷ us) h g =
    let e : Some (node t h.0) ≡ Some (node u g.0) = sym h.1 ∙ g.1 in
    let n : node t h.0 ≡ node u g.0 = cc in
    let a : t ≡ u = ap (λ (x : Node). x.top) n in
    let b : h.0 ≡ g.0 = ap (λ (x : Node). x.below) n in
    let r : ts ≡ us = one_stack ns g.0 ts us (subst (λ z. Is ns z ts) b h.2) g.2 in
    cc

-- what is left of a run
pub pop_part : (k : Kind) (n there : ℕ) (ts : List Top) → there ≡ run_length k ts → (n == 0) ≡ false → nat_lt there n ≡ false → (there == n) ≡ false
    → popped k n ts ≡ Some (Run k (there - n) ∷ below_run k ts)
pop_part k n there ts e z l d =
    let l' : nat_lt (run_length k ts) n ≡ false = ap (λ m. nat_lt m n) (sym e) ∙ l in
    let d' : (run_length k ts == n) ≡ false = ap (λ m. m == n) (sym e) ∙ d in
    rw z (rw l' (rw d' (ap (λ m. Some (Run k (m - n) ∷ below_run k ts)) (sym e))))

-- and where no stack has two numbers, a stack has one
pub one_number : (ns : List Node) → Distinct ns → (i j : ℕ) (ts : List Top) → Is ns i ts → Is ns j ts → i ≡ j
one_number ns d i j [] h g = h ∙ sym g
one_number ns d i j (t ∷ ts) h g =
    let b : h.0 ≡ g.0 = one_number ns d h.0 g.0 ts h.2 g.2 in
    d i j (node t g.0) (subst (λ z. node_at ns i ≡ Some (node t z)) b h.1) g.1
