-- Sets of labels, and what rules ask of them.
use Rattle.std.proofs.Common.{◌≡◌, ◌∙◌, refl, sym, ap, ◌||◌, ◌++◌, Bool, true, false, List, [], ◌∷◌, map, nat_eq, if◌then◌else◌, Bor}
use Rattle.std.specs.Str.{bytes_eq}
use Rattle.std.specs.List.{list_any}
use Rattle.std.specs.Cmp.Lexicographic.{pointwise}
use Rattle.std.proofs.lemmas.List.{map-append}
use Rattle.std.proofs.lemmas.Slice.Eq.{bytes_eq-Decides}
use Rattle.std.proofs.Math.Bool.{or-false, or_assoc}
use Rattle.model.specs.Deck.Faults.{is_one_of, is_taken, returns}
use Rattle.model.specs.Deck.Trees.{Bytes}
use Rattle.parser.specs.Labels.{AreSame, with_label}

abbrev pub texts : List (Bor Bytes) → List Bytes
texts keys = map (λ k. k.now) keys

abbrev pub is_text : Bytes → Bor Bytes → Bool
is_text l k = pointwise nat_eq l k.now

pub among_keys : (l : Bytes) (keys : List (Bor Bytes)) → list_any (is_text l) keys ≡ is_one_of l (texts keys)
among_keys l [] = refl
among_keys l (k ∷ keys) = ap (λ b. is_text l k || b) (among_keys l keys)

pub key_put : (k : Bor Bytes) (keys : List (Bor Bytes)) → texts (if list_any (is_text k.now) keys then keys else keys ++ k ∷ []) ≡ with_label (texts keys) k.now
key_put k keys =
    ap (λ b. texts (if b then keys else keys ++ k ∷ [])) (among_keys k.now keys)
    ∙ elim (is_one_of k.now (texts keys)) as (λ b. texts (if b then keys else keys ++ k ∷ []) ≡ (if b then texts keys else texts keys ++ k.now ∷ [])) [
      | true ↦ refl
      | false ↦ map-append (λ (x : Bor Bytes). x.now) keys (k ∷ [])
    ]

among_both : (l : Bytes) (xs ys : List Bytes) → is_one_of l (xs ++ ys) ≡ (is_one_of l xs || is_one_of l ys)
among_both l [] ys = refl
among_both l (x ∷ xs) ys = ap (λ b. bytes_eq l x || b) (among_both l xs ys) ∙ sym (or_assoc (bytes_eq l x) (is_one_of l xs) (is_one_of l ys))

-- a label that is there changes nothing
there_still : (x l : Bytes) (ls : List Bytes) → is_one_of l ls ≡ true → is_one_of x ls ≡ (is_one_of x ls || (bytes_eq x l || false))
there_still x l ls there = elim (bytes_eq x l) as (λ b. (bytes_eq x l ≡ b) → is_one_of x ls ≡ (is_one_of x ls || (b || false))) [
  | true ↦ λ e. let same : x ≡ l = (bytes_eq-Decides x l).0 e in let among : is_one_of x ls ≡ true = ap (λ y. is_one_of y ls) same ∙ there in rw among refl
  | false ↦ λ _. sym (or-false (is_one_of x ls))
] refl

pub put_same : (l : Bytes) (old ls : List Bytes) → AreSame old ls → AreSame (with_label old l) (ls ++ l ∷ [])
put_same l old ls same x =
    elim (is_one_of l old) as (λ b. (is_one_of l old ≡ b) → is_one_of x (if b then old else old ++ l ∷ []) ≡ (is_one_of x ls || is_one_of x (l ∷ []))) [
      | true ↦ λ e. same x ∙ there_still x l ls (sym (same l) ∙ e)
      | false ↦ λ _. among_both x old (l ∷ []) ∙ ap (λ b. b || is_one_of x (l ∷ [])) (same x)
    ] refl ∙ sym (among_both x ls (l ∷ []))

-- what a call that puts a label says
pub is_put : (new old : List Bytes) (l : Bytes) (given : List Bytes) → new ≡ with_label old l → l ∷ [] ≡ given → (ls : List Bytes) → AreSame old ls → AreSame new (ls ++ given)
is_put new old l given e g ls same = rw (e, sym g) (put_same l old ls same)

pub taken_same : (old ls : List Bytes) → AreSame old ls → (given : List Bytes) → is_taken old given ≡ is_taken ls given
taken_same old ls same [] = refl
taken_same old ls same (l ∷ more) = ap (λ b. is_one_of l returns || b) (same l)
