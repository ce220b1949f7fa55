-- A text that grows: its pieces are those before, with the new ones joined to the last.
use Rattle.std.proofs.Common.{◌≡◌, refl, sym, ◌∙◌, ap, ℕ, suc, ◌<◌, ◌==◌, ◌||◌, Bool, arith, inl, inr, true, false, List, [], ◌∷◌, ◌++◌, length, get_or, take, drop, append_assoc, append-nil}
use Rattle.std.specs.Prelude.{Option, Some, None, is_some}
use Rattle.std.proofs.Math.Seq.{take-suc, drop-cons}
use Rattle.std.proofs.lemmas.Bool.{cases_Bool}
use Rattle.std.proofs.lemmas.List.{map-append}
use Rattle.model.specs.Deck.Cards.{Column, placed, into_first, split}
use Rattle.card_reader.specs.Parts.{IsDull, after, next_quote, glue}

-- there is always a piece
pub record Some_piece (ps : List (List Column)) : Type 0 where
  pub first : List Column
  pub more : List (List Column)
  pub is : ps ≡ first ∷ more

into_some : (c : Column) (ps : List (List Column)) → Some_piece (into_first c ps)
into_some c [] = record { first = c ∷ []; more = []; is = refl }
into_some c (p ∷ ps) = record { first = c ∷ p; more = ps; is = refl }

pub split_some : (q : Option ℕ) (cs : List Column) → Some_piece (split q cs)
split_some q [] = record { first = []; more = []; is = refl }
split_some None (c ∷ cs) = elim (cases_Bool (c.byte == 59)) [
  | inl h ↦ record { first = []; more = split None cs; is = rw h refl }
  | inr h ↦ rw h (elim (cases_Bool (c.byte == 39 || c.byte == 34)) [ inl k ↦ rw k (into_some c (split (Some c.byte) cs)) | inr k ↦ rw k (into_some c (split None cs)) ])
]
split_some (Some q) (c ∷ cs) = elim (cases_Bool (c.byte == q)) [ inl h ↦ rw h (into_some c (split None cs)) | inr h ↦ rw h (into_some c (split (Some q) cs)) ]

glue_into : (c : Column) (as_ bs : List (List Column)) → Some_piece as_ → Some_piece bs → into_first c (glue as_ bs) ≡ glue (into_first c as_) bs
glue_into c [] bs s t = absurd (let e = s.is in cc)
glue_into c (a ∷ []) [] s t = absurd (let e = t.is in cc)
glue_into c (a ∷ []) (b ∷ bs) s t = refl
glue_into c (a ∷ d ∷ as_) bs s t = refl

pub glue_start : (bs : List (List Column)) → Some_piece bs → bs ≡ glue ([] ∷ []) bs
glue_start [] t = absurd (let e = t.is in cc)
glue_start (b ∷ bs) t = refl

glue_cut : (as_ bs : List (List Column)) → Some_piece as_ → [] ∷ glue as_ bs ≡ glue ([] ∷ as_) bs
glue_cut [] bs s = absurd (let e = s.is in cc)
glue_cut (a ∷ as_) bs s = refl

pub split_append : (q : Option ℕ) (xs ys : List Column) → split q (xs ++ ys) ≡ glue (split q xs) (split (after q xs) ys)
split_append None [] ys = glue_start (split None ys) (split_some None ys)
split_append (Some q) [] ys = glue_start (split (Some q) ys) (split_some (Some q) ys)
split_append None (c ∷ cs) ys = elim (cases_Bool (c.byte == 59)) [
  | inl h ↦ rw h (ap (λ p. [] ∷ p) (split_append None cs ys) ∙ glue_cut (split None cs) (split (after None cs) ys) (split_some None cs))
  | inr h ↦ rw h (elim (cases_Bool (c.byte == 39 || c.byte == 34)) [
    | inl k ↦ rw k (ap (into_first c) (split_append (Some c.byte) cs ys) ∙ glue_into c (split (Some c.byte) cs) (split (after (Some c.byte) cs) ys) (split_some (Some c.byte) cs) (split_some (after (Some c.byte) cs) ys))
    | inr k ↦ rw k (ap (into_first c) (split_append None cs ys) ∙ glue_into c (split None cs) (split (after None cs) ys) (split_some None cs) (split_some (after None cs) ys))
  ])
]
split_append (Some q) (c ∷ cs) ys = elim (cases_Bool (c.byte == q)) [
  | inl h ↦ rw h (ap (into_first c) (split_append None cs ys) ∙ glue_into c (split None cs) (split (after None cs) ys) (split_some None cs) (split_some (after None cs) ys))
  | inr h ↦ rw h (ap (into_first c) (split_append (Some q) cs ys) ∙ glue_into c (split (Some q) cs) (split (after (Some q) cs) ys) (split_some (Some q) cs) (split_some (after (Some q) cs) ys))
]

-- ---- byte by byte

abbrev col : ℕ → ℕ → Column
col n b = record { card = n; byte = b }

-- a byte that is no semicolon outside literals goes into the first piece
pub goes_in : (q : Option ℕ) (c : Column) (cs : List Column) → ((q ≡ None) → (c.byte == 59) ≡ false) → split q (c ∷ cs) ≡ into_first c (split (next_quote q c.byte) cs)
goes_in None c cs other = rw (other refl) (elim (cases_Bool (c.byte == 39 || c.byte == 34)) [ inl k ↦ rw k refl | inr k ↦ rw k refl ])
goes_in (Some q) c cs other = elim (cases_Bool (c.byte == q)) [ inl h ↦ rw h refl | inr h ↦ rw h refl ]

pub goes_on : (q : Option ℕ) (c : Column) (cs : List Column) → ((q ≡ None) → (c.byte == 59) ≡ false) → after q (c ∷ cs) ≡ after (next_quote q c.byte) cs
goes_on None c cs other = rw (other refl) (elim (cases_Bool (c.byte == 39 || c.byte == 34)) [ inl k ↦ rw k refl | inr k ↦ rw k refl ])
goes_on (Some q) c cs other = elim (cases_Bool (c.byte == q)) [ inl h ↦ rw h refl | inr h ↦ rw h refl ]

glue_one : (a : List Column) (c : Column) (bs : List (List Column)) → Some_piece bs → glue (a ∷ []) (into_first c bs) ≡ glue ((a ++ c ∷ []) ∷ []) bs
glue_one a c [] s = absurd (let e = s.is in cc)
glue_one a c (b ∷ bs) s = ap (λ x. x ∷ bs) (sym (append_assoc a (c ∷ []) b))

placed_take : (n : ℕ) (text : List ℕ) (i : ℕ) → i < length text → placed n (take (suc i) text) ≡ placed n (take i text) ++ col n (get_or text i 0) ∷ []
placed_take n text i lt = ap (placed n) (take-suc text i 0 lt) ∙ map-append (col n) (take i text) (get_or text i 0 ∷ [])

placed_drop : (n : ℕ) (text : List ℕ) (i : ℕ) → i < length text → placed n (drop i text) ≡ col n (get_or text i 0) ∷ placed n (drop (suc i) text)
placed_drop n text i lt = ap (placed n) (drop-cons text i 0 lt)

pub piece_goes_on : (q : Option ℕ) (n : ℕ) (text : List ℕ) (i : ℕ) → i < length text → ((q ≡ None) → (get_or text i 0 == 59) ≡ false)
    → glue (placed n (take i text) ∷ []) (split q (placed n (drop i text))) ≡ glue (placed n (take (suc i) text) ∷ []) (split (next_quote q (get_or text i 0)) (placed n (drop (suc i) text)))
piece_goes_on q n text i lt other =
    let b = get_or text i 0 in
    let rest = placed n (drop (suc i) text) in
    ap (λ x. glue (placed n (take i text) ∷ []) (split q x)) (placed_drop n text i lt)
    ∙ ap (glue (placed n (take i text) ∷ [])) (goes_in q (col n b) rest other)
    ∙ glue_one (placed n (take i text)) (col n b) (split (next_quote q b) rest) (split_some (next_quote q b) rest)
    ∙ ap (λ x. glue (x ∷ []) (split (next_quote q b) rest)) (sym (placed_take n text i lt))

pub quote_goes_on : (q : Option ℕ) (n : ℕ) (text : List ℕ) (i : ℕ) → i < length text → ((q ≡ None) → (get_or text i 0 == 59) ≡ false)
    → after q (placed n (drop i text)) ≡ after (next_quote q (get_or text i 0)) (placed n (drop (suc i) text))
quote_goes_on q n text i lt other = ap (after q) (placed_drop n text i lt) ∙ goes_on q (col n (get_or text i 0)) (placed n (drop (suc i) text)) other

pub piece_stops : (n : ℕ) (text : List ℕ) (i : ℕ) → i < length text → (get_or text i 0 == 59) ≡ true
    → glue (placed n (take i text) ∷ []) (split None (placed n (drop i text))) ≡ placed n (take i text) ∷ split None (placed n (drop (suc i) text))
piece_stops n text i lt hit =
    ap (λ x. glue (placed n (take i text) ∷ []) (split None x)) (placed_drop n text i lt)
    ∙ rw hit (ap (λ x. x ∷ split None (placed n (drop (suc i) text))) (append-nil (placed n (take i text))))

pub quote_stops : (n : ℕ) (text : List ℕ) (i : ℕ) → i < length text → (get_or text i 0 == 59) ≡ true → after None (placed n (drop i text)) ≡ after None (placed n (drop (suc i) text))
quote_stops n text i lt hit = ap (after None) (placed_drop n text i lt) ∙ rw hit refl

-- ---- no semicolon and no quote

three : (x y z : Bool) → ((x || y || z) ≡ true → ⊥) → (x ≡ false) × ((y || z) ≡ false)
three true y z h = absurd (h refl)
three false true z h = absurd (h refl)
three false false true h = absurd (h refl)
three false false false h = (refl, refl)

dull_split : (n : ℕ) (text : List ℕ) → IsDull text → split None (placed n text) ≡ placed n text ∷ []
dull_split n [] h = refl
dull_split n (b ∷ bs) h =
    let first = three (b == 59) (b == 39) (b == 34) (h 0 (omega arith)) in
    rw (first.0, first.1) (ap (into_first (col n b)) (dull_split n bs (λ k lt. h (suc k) (omega arith))))

dull_after : (n : ℕ) (text : List ℕ) → IsDull text → after None (placed n text) ≡ None
dull_after n [] h = refl
dull_after n (b ∷ bs) h =
    let first = three (b == 59) (b == 39) (b == 34) (h 0 (omega arith)) in
    rw (first.0, first.1) (dull_after n bs (λ k lt. h (suc k) (omega arith)))

pub dull_stop : (quote : Option ℕ) (text : List ℕ) → is_some quote ≡ false → IsDull text
    → ((n : ℕ) → split quote (placed n text) ≡ placed n text ∷ []) × ((n : ℕ) → after quote (placed n text) ≡ None)
dull_stop None text none h = (λ n. dull_split n text h, λ n. dull_after n text h)
dull_stop (Some q) text none h = absurd (cc)
