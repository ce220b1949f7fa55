-- Each text that is put into a table stands where it is looked for.
use Rattle.std.proofs.Common.{◌≡◌, suc, List, [], ◌∷◌, refl, sym, ap, true, false, Some, if◌then◌else◌, rules, slice_get, bytes_eq}
use Rattle.model.specs.Deck.Trees.{Bytes}
use Rattle.expr_codegen.specs.Texts.{number_of_text, with_text, with_texts}
use Rattle.codegen_laws.proofs.Standing.{Held, AllHeld}

pub same_text : (s t : Bytes) → bytes_eq s t ≡ true → s ≡ t
same_text s t e = search (rules, e)

put_held : (t : Bytes) (ts : List Bytes) → Held (with_text t ts) t
put_held t [] = let e : bytes_eq t t ≡ true = search rules in rw e refl
put_held t (s ∷ ss) = elim (bytes_eq t s) as (λ b. (bytes_eq t s ≡ b) → slice_get (if b then s ∷ ss else s ∷ with_text t ss) (number_of_text t (if b then s ∷ ss else s ∷ with_text t ss)) ≡ Some t) [
  | true ↦ λ e. rw e (ap Some (sym (same_text t s e)))
  | false ↦ λ e. rw e (put_held t ss)
] refl

-- a text's place doesn't change as another is put
stays_held : (s t : Bytes) (ts : List Bytes) → Held ts s → Held (with_text t ts) s
stays_held s t [] h = absurd (cc)
stays_held s t (x ∷ xs) h = elim (bytes_eq t x) as (λ b. slice_get (if b then x ∷ xs else x ∷ with_text t xs) (number_of_text s (if b then x ∷ xs else x ∷ with_text t xs)) ≡ Some s) [
  | true ↦ h
  | false ↦ elim (bytes_eq s x) as (λ b. slice_get (x ∷ xs) (if b then 0 else suc (number_of_text s xs)) ≡ Some s → slice_get (x ∷ with_text t xs) (if b then 0 else suc (number_of_text s (with_text t xs))) ≡ Some s) [
    | true ↦ λ f. f
    | false ↦ λ f. stays_held s t xs f
  ] h
]

stay_held : (s : Bytes) (ts ss : List Bytes) → Held ss s → Held (with_texts ts ss) s
stay_held s [] ss h = h
stay_held s (t ∷ ts) ss h = stay_held s ts (with_text t ss) (stays_held s t ss h)

pub all_held : (ts ss : List Bytes) → AllHeld (with_texts ts ss) ts
all_held [] ss = tt
all_held (t ∷ ts) ss = (stay_held t ts (with_text t ss) (put_held t ss), all_held ts (with_text t ss))

pub all_stay : (ts ss us : List Bytes) → AllHeld ss us → AllHeld (with_texts ts ss) us
all_stay ts ss [] h = tt
all_stay ts ss (u ∷ us) (a, b) = (stay_held u ts ss a, all_stay ts ss us b)
