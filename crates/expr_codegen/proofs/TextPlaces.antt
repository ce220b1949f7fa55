-- The table of strings puts and finds texts as the definitions do.
use Rattle.std.proofs.Common.{◌≡◌, ℕ, suc, List, [], ◌∷◌, ◌++◌, map, Bool, true, false, not, refl, ap, nat_eq, bytes_eq, if◌then◌else◌, ◌||◌, ◌≤◌, ◌+◌, length, arith, Some, rules, sym, ◌∙◌, ◌<◌, nat_lt, cond, None}
use Rattle.std.specs.Cmp.Lexicographic.{pointwise}
use Rattle.std.proofs.lemmas.List.{length-map}
use Rattle.std.specs.Prelude.{position}
use Rattle.std.specs.List.{list_any, position_or_len}
use Rattle.std.specs.Borrow.{Bor}
use Rattle.indexmap.specs.IndexSet.{insert_key}
use Rattle.expr_codegen.specs.Texts.{number_of_text, with_text}

abbrev pub Text : Type 0
Text = Bor (List ℕ)

abbrev pub items : Text → List ℕ
items v = v.now

abbrev pub same : Text → Text → Bool
same x y = pointwise nat_eq x.now y.now

pub put_key : (v : Text) (ks : List Text) → map items (insert_key same ks v) ≡ with_text v.now (map items ks)
put_key v [] = refl
put_key v (x ∷ ks) = elim (same v x) as (λ b. map items (if b || list_any (same v) ks then x ∷ ks else (x ∷ ks) ++ v ∷ []) ≡ (if b then x.now ∷ map items ks else x.now ∷ with_text v.now (map items ks))) [
  | true ↦ refl
  | false ↦ elim (list_any (same v) ks) as (λ b. map items (if b then ks else ks ++ v ∷ []) ≡ with_text v.now (map items ks) → map items (if b then x ∷ ks else (x ∷ ks) ++ v ∷ []) ≡ x.now ∷ with_text v.now (map items ks)) [
    | true ↦ λ e. ap (λ l. x.now ∷ l) e
    | false ↦ λ e. ap (λ l. x.now ∷ l) e
  ] (put_key v ks)
]

not_then : (b : Bool) (n m : ℕ) → n ≡ m → (if not b then 1 + n else 0) ≡ (if b then 0 else suc m)
not_then true n m e = refl
not_then false n m e = let h : 1 + n ≡ suc m = omega (arith, e) in h

pub place_of : (t : List ℕ) (ks : List Text) → position_or_len (λ v. pointwise nat_eq t v.now) ks ≡ number_of_text t (map items ks)
place_of t [] = refl
place_of t (x ∷ ks) = not_then (pointwise nat_eq t x.now) (position_or_len (λ v. pointwise nat_eq t v.now) ks) (number_of_text t (map items ks)) (place_of t ks)

-- the place of a text is the same before and after it is put
pub place_put : (t : List ℕ) (ts : List (List ℕ)) → number_of_text t (with_text t ts) ≡ number_of_text t ts
place_put t [] = let e : bytes_eq t t ≡ true = search rules in rw e refl
place_put t (s ∷ ss) = elim (bytes_eq t s) as (λ b. (bytes_eq t s ≡ b) → number_of_text t (if b then s ∷ ss else s ∷ with_text t ss) ≡ (if b then 0 else suc (number_of_text t ss))) [
  | true ↦ λ e. rw e refl
  | false ↦ λ e. rw e (ap suc (place_put t ss))
] refl

-- and stays as others are put
pub place_stays : (s : List ℕ) (ts more : List (List ℕ)) → number_of_text s (with_text s ts ++ more) ≡ number_of_text s (with_text s ts)
place_stays s [] more = let e : bytes_eq s s ≡ true = search rules in rw e refl
place_stays s (x ∷ xs) more = elim (bytes_eq s x) as (λ b. (bytes_eq s x ≡ b) → number_of_text s ((if b then x ∷ xs else x ∷ with_text s xs) ++ more) ≡ number_of_text s (if b then x ∷ xs else x ∷ with_text s xs)) [
  | true ↦ λ e. rw e refl
  | false ↦ λ e. rw e (ap suc (place_stays s xs more))
] refl

pub few_more : (t : List ℕ) (ts : List (List ℕ)) → length (with_text t ts) ≤ length ts + 1
few_more t [] = omega arith
few_more t (s ∷ ss) = elim (bytes_eq t s) as (λ b. length (if b then s ∷ ss else s ∷ with_text t ss) ≤ length (s ∷ ss) + 1) [
  | true ↦ omega arith
  | false ↦ let h = few_more t ss in omega (arith, h)
]

-- ---- a text that is there

stays_there : (t : List ℕ) (ss : List (List ℕ)) → number_of_text t ss < length ss → with_text t ss ≡ ss
stays_there t [] h = absurd (omega (arith, h))
stays_there t (s ∷ ss) h = elim (bytes_eq t s) as (λ b. (if b then 0 else suc (number_of_text t ss)) < length (s ∷ ss) → (if b then s ∷ ss else s ∷ with_text t ss) ≡ s ∷ ss) [
  | true ↦ λ _. refl
  | false ↦ λ less. ap (λ l. s ∷ l) (stays_there t ss (omega (arith, less)))
] h

there_by : (t : List ℕ) (ks : List Text) (k p : ℕ) (b : Bool) → p ≡ number_of_text t (map items ks) → nat_lt p (length ks) ≡ b → cond b (Some p) None ≡ Some k → (with_text t (map items ks) ≡ map items ks) × (k ≡ number_of_text t (map items ks))
there_by t ks k p true place less e =
    let k_is : p ≡ k = cc in
    let count = length-map ks items in
    let within : number_of_text t (map items ks) < length (map items ks) = grind (arith, less, place, count) in
    (stays_there t (map items ks) within, sym k_is ∙ place)
there_by t ks k p false place less e = absurd (cc)

pub found_there : (t : List ℕ) (ks : List Text) (k : ℕ) → position (λ v. pointwise nat_eq t v.now) ks ≡ Some k → (with_text t (map items ks) ≡ map items ks) × (k ≡ number_of_text t (map items ks))
found_there t ks k h =
    there_by t ks k (position_or_len (λ v. pointwise nat_eq t v.now) ks) (nat_lt (position_or_len (λ v. pointwise nat_eq t v.now) ks) (length ks)) (place_of t ks) refl h
