-- The table of labels puts and finds labels as the definitions do.
use Rattle.std.proofs.Common.{◌≡◌, ℕ, zero, suc, ◌+◌, List, [], ◌∷◌, ◌++◌, map, Option, None, Some, Bool, true, false, refl, sym, ap, ◌∙◌, nat_eq, bytes_eq, is_some, if◌then◌else◌, length, ◌<◌, drop, get_or, arith}
use Rattle.std.proofs.lemmas.List.{at_drop_more}
use Rattle.std.specs.Cmp.Lexicographic.{pointwise}
use Rattle.std.specs.Borrow.{Bor}
use Rattle.std.specs.Map.{lookup}
use Rattle.std.proofs.lemmas.Slice.Eq.{bytes_eq-Decides}
use Rattle.indexmap.specs.IndexMap.{insert_entry}
use Rattle.model.specs.Deck.Trees.{Bytes}
use Rattle.model.specs.Language.Programs.{is_text, label_of_stmt, labelled_from, number_or, entry_label}
use Rattle.model.specs.Deck.Trees.{Stmt, Plain, End}
use Rattle.codegen.specs.Labels.{entry_by, entry_noted, entry_of, entry_with, name_of, number_in, number_among, with_label, with_name}

abbrev pub Text : Type 0
Text = Bor (List ℕ)

abbrev pub same : Text → Text → Bool
same x y = pointwise nat_eq x.now y.now

pub find_is : (l : Bytes) (es : List (Text × ℕ)) → lookup (λ k. pointwise nat_eq l k.now) es ≡ number_in (map entry_of es) l
find_is l [] = refl
find_is l (e ∷ es) = ap (λ r. if bytes_eq l e.0.now then Some e.1 else r) (find_is l es)

pub insert_is : (v : Text) (n : ℕ) (es : List (Text × ℕ)) → number_in (map entry_of es) v.now ≡ None → map entry_of (insert_entry same es v n) ≡ map entry_of es ++ (v.now, n) ∷ []
insert_is v n [] h = refl
insert_is v n (e ∷ es) h = elim (same v e.0) as (λ b. (if b then Some e.1 else number_in (map entry_of es) v.now) ≡ None → map entry_of (if b then (e.0, n) ∷ es else e ∷ insert_entry same es v n) ≡ entry_of e ∷ map entry_of es ++ (v.now, n) ∷ []) [
  | true ↦ λ h. absurd (some_is_none h)
  | false ↦ λ h. ap (λ l. entry_of e ∷ l) (insert_is v n es h)
] h
  where
    some_is_none : {n : ℕ} → Some n ≡ None → ⊥
    some_is_none h = cc

-- ---- the labels of statements

-- the first of two numbers
abbrev pub or_else : Option ℕ → Option ℕ → Option ℕ
or_else None y = y
or_else (Some x) y = Some x

abbrev alone : Bool → ℕ → Option ℕ
alone b n = if b then Some n else None

number_snoc : (es : List (List ℕ × ℕ)) (t : Bytes) (n : ℕ) (l : Bytes) → number_in (es ++ (t, n) ∷ []) l ≡ or_else (number_in es l) (alone (bytes_eq l t) n)
number_snoc [] t n l = refl
number_snoc (e ∷ es) t n l = elim (bytes_eq l e.0) as (λ b. (if b then Some e.1 else number_in (es ++ (t, n) ∷ []) l) ≡ or_else (if b then Some e.1 else number_in es l) (alone (bytes_eq l t) n)) [
  | true ↦ refl
  | false ↦ number_snoc es t n l
]

bytes_eq_sym : (s t : Bytes) → bytes_eq s t ≡ bytes_eq t s
bytes_eq_sym [] [] = refl
bytes_eq_sym [] (y ∷ ys) = refl
bytes_eq_sym (x ∷ xs) [] = refl
bytes_eq_sym (x ∷ xs) (y ∷ ys) = grind (arith, bytes_eq_sym xs ys)

-- one label more in the table is one label less to come
pub label_step : (es : List (List ℕ × ℕ)) (t : Bytes) (n : ℕ) (l : Bytes) (rest : Option ℕ) → or_else (number_in (with_label t n es) l) rest ≡ or_else (number_in es l) (if bytes_eq t l then Some n else rest)
label_step es t n l rest = by (number_in es t) refl
  where
    behind : (x : Option ℕ) (b : Bool) → or_else (or_else x (alone b n)) rest ≡ or_else x (if b then Some n else rest)
    behind None true = refl
    behind None false = refl
    behind (Some x) b = refl

    known : (x : Option ℕ) (k : ℕ) (b : Bool) → (b ≡ true → x ≡ Some k) → or_else x rest ≡ or_else x (if b then Some n else rest)
    known None k true h = let z : None ≡ Some k = h refl in cc
    known None k false h = refl
    known (Some x) k b h = refl

    by : (r : Option ℕ) → number_in es t ≡ r → or_else (number_in (if is_some r then es else es ++ (t, n) ∷ []) l) rest ≡ or_else (number_in es l) (if bytes_eq t l then Some n else rest)
    by None e = ap (λ x. or_else x rest) (number_snoc es t n l) ∙ behind (number_in es l) (bytes_eq l t) ∙ ap (λ b. or_else (number_in es l) (if b then Some n else rest)) (bytes_eq_sym l t)
    by (Some k) e = known (number_in es l) k (bytes_eq t l) (λ h. ap (number_in es) (sym ((bytes_eq-Decides t l).0 h)) ∙ e)

pub note_is : (v : Text) (n : ℕ) (es : List (Text × ℕ)) (self : List (List ℕ × ℕ)) (l : Bytes) → map entry_of es ≡ self → v.now ≡ l → is_some (number_in self l) ≡ false → map entry_of (insert_entry same es v n) ≡ with_label l n self
note_is v n es self l s e h =
    insert_is v n es (none_of (number_in (map entry_of es) v.now) (ap (λ x. is_some (number_in x v.now)) s ∙ ap (λ x. is_some (number_in self x)) e ∙ h))
    ∙ ap (λ x. x ++ (v.now, n) ∷ []) s ∙ ap (λ x. self ++ (x, n) ∷ []) e ∙ sym (ap (λ b. if b then self else self ++ (l, n) ∷ []) h)
  where
    none_of : (o : Option ℕ) → is_some o ≡ false → o ≡ None
    none_of None h = refl
    none_of (Some x) h = cc

-- a label that had no number
pub new_is : (v : Text) (n : ℕ) (es : List (Text × ℕ)) (self : List (List ℕ × ℕ)) (earlier : Option ℕ) → map entry_of es ≡ self → earlier ≡ lookup (λ k. pointwise nat_eq v.now k.now) es → earlier ≡ None → map entry_of (insert_entry same es v n) ≡ with_label v.now n self
new_is v n es self earlier s e none = note_is v n es self v.now s refl (ap is_some (ap (λ x. number_in x v.now) (sym s) ∙ sym (find_is v.now es) ∙ sym e ∙ none))

-- a label that stands at a place has the number there
pub near_is : (key : Text) (l : Bytes) (n : ℕ) (es : List (Text × ℕ)) (self : List (List ℕ × ℕ)) → map entry_of es ≡ self → lookup (λ k. pointwise nat_eq key.now k.now) es ≡ Some n → key.now ≡ l → number_in self l ≡ Some n
near_is key l n es self s h e = ap (λ x. number_in x l) (sym s) ∙ sym (find_is l es) ∙ ap (λ (y : Bytes). lookup (λ k. pointwise nat_eq y k.now) es) (sym e) ∙ h

-- the number that a label had is put back
back_is : (v : Text) (n first : ℕ) (es : List (Text × ℕ)) → lookup (λ k. pointwise nat_eq v.now k.now) es ≡ Some first → insert_entry same (insert_entry same es v n) v first ≡ es
back_is v n first [] h = cc
back_is v n first (e ∷ es) h = by (back_is v n first es) (same v e.0) refl
  where
    by : (lookup (λ k. pointwise nat_eq v.now k.now) es ≡ Some first → insert_entry same (insert_entry same es v n) v first ≡ es) → (b : Bool) → same v e.0 ≡ b → insert_entry same (insert_entry same (e ∷ es) v n) v first ≡ e ∷ es
    by rec true t =
        let is : Some e.1 ≡ Some first = rw t at h in
        rw t (rw t (ap (λ k. (e.0, k) ∷ es) (let z : first ≡ e.1 = cc in z)))
    by rec false t =
        let rest : lookup (λ k. pointwise nat_eq v.now k.now) es ≡ Some first = rw t at h in
        rw t (rw t (ap (λ l. e ∷ l) (rec rest)))

pub old_is : (v : Text) (n first : ℕ) (es : List (Text × ℕ)) (self : List (List ℕ × ℕ)) (earlier : Option ℕ) → map entry_of es ≡ self → earlier ≡ lookup (λ k. pointwise nat_eq v.now k.now) es → earlier ≡ Some first → map entry_of (insert_entry same (insert_entry same es v n) v first) ≡ with_label v.now n self
old_is v n first es self earlier s e some =
    ap (map entry_of) (back_is v n first es (sym e ∙ some))
    ∙ s
    ∙ sym (ap (λ b. if b then self else self ++ (v.now, n) ∷ []) (ap is_some (ap (λ x. number_in x v.now) (sym s) ∙ sym (find_is v.now es) ∙ sym e ∙ some)))

-- ---- the loop over the labels that statements give

-- what stands at a place of a list doesn't hang on what would stand past its end
pub any_default : {A : Type 0} (xs : List A) (i : ℕ) (d e : A) → i < length xs → get_or xs i d ≡ get_or xs i e
any_default [] i d e h = absurd (omega (arith, h))
any_default (x ∷ xs) zero d e h = refl
any_default (x ∷ xs) (suc i) d e h = any_default xs i d e (omega (arith, h))

abbrev Name : Type 0
Name = Option (Bor (List ℕ))

-- the labels so far, and those to come, are all
abbrev pub Kept : List Name → ℕ → ℕ → List (List ℕ × ℕ) → Type 0
Kept xs i n es = (n ≡ 1 + i) × ((t : Bytes) → or_else (number_in es t) (number_among n (map name_of (drop i xs)) t) ≡ number_among 1 (map name_of xs) t)

next_label : (xs : List Name) (i n : ℕ) (x : Name) (t : Bytes) → i < length xs → x ≡ get_or xs i x
    → number_among n (map name_of (drop i xs)) t ≡ (if is_text t (name_of x) then Some n else number_among (n + 1) (map name_of (drop (i + 1) xs)) t)
next_label xs i n x t h e =
    at_drop_more (λ l. number_among n (map name_of l) t) xs i x h
    ∙ ap (λ y. if is_text t (name_of y) then Some n else number_among (suc n) (map name_of (drop (i + 1) xs)) t) (sym e)
    ∙ ap (λ m. if is_text t (name_of x) then Some n else number_among m (map name_of (drop (i + 1) xs)) t) (let z : suc n ≡ n + 1 = omega arith in z)

step_labelled : (xs : List Name) (i n m : ℕ) (x : Name) (l : Bytes) (es now : List (List ℕ × ℕ)) → i < length xs → x ≡ get_or xs i x → name_of x ≡ Some l → m ≡ n + 1 → now ≡ with_label l n es → Kept xs i n es → Kept xs (i + 1) m now
step_labelled xs i n m x l es now h e label is put (number, all) = (
  omega (arith, number, is),
  λ t.
      let rest : Option ℕ = number_among (n + 1) (map name_of (drop (i + 1) xs)) t in
      ap (λ k. or_else (number_in now t) (number_among k (map name_of (drop (i + 1) xs)) t)) is ∙ ap (λ k. or_else (number_in k t) rest) put ∙ label_step es l n t rest
      ∙ ap (λ o. or_else (number_in es t) (if is_text t o then Some n else rest)) (sym label) ∙ ap (or_else (number_in es t)) (sym (next_label xs i n x t h e)) ∙ all t,
)

step_unlabelled : (xs : List Name) (i n m : ℕ) (x : Name) (es now : List (List ℕ × ℕ)) → i < length xs → x ≡ get_or xs i x → name_of x ≡ None → m ≡ n + 1 → now ≡ es → Kept xs i n es → Kept xs (i + 1) m now
step_unlabelled xs i n m x es now h e label is same (number, all) = (
  omega (arith, number, is),
  λ t.
      let rest : Option ℕ = number_among (n + 1) (map name_of (drop (i + 1) xs)) t in
      ap (λ k. or_else (number_in k t) (number_among m (map name_of (drop (i + 1) xs)) t)) same
      ∙ ap (λ k. or_else (number_in es t) (number_among k (map name_of (drop (i + 1) xs)) t)) is
      ∙ ap (λ o. or_else (number_in es t) (if is_text t o then Some n else rest)) (sym label) ∙ ap (or_else (number_in es t)) (sym (next_label xs i n x t h e)) ∙ all t,
)

pub step : (xs : List Name) (i n m : ℕ) (x : Name) (es now : List (List ℕ × ℕ)) → i < length xs → x ≡ get_or xs i x → m ≡ n + 1 → now ≡ with_name (name_of x) n es → Kept xs i n es → Kept xs (i + 1) m now
step xs i n m x es now h e is put kept = by (name_of x) refl put
  where
    by : (o : Option Bytes) → name_of x ≡ o → now ≡ with_name o n es → Kept xs (i + 1) m now
    by None label put = step_unlabelled xs i n m x es now h e label is put kept
    by (Some l) label put = step_labelled xs i n m x l es now h e label is put kept

pub ends : (xs : List Name) (i n : ℕ) (es : List (List ℕ × ℕ)) → drop i xs ≡ [] → Kept xs i n es → (t : Bytes) → number_in es t ≡ number_among 1 (map name_of xs) t
ends xs i n es none (number, all) t = sym (or_none (number_in es t)) ∙ ap (λ l. or_else (number_in es t) (number_among n (map name_of l) t)) (sym none) ∙ all t
  where
    or_none : (o : Option ℕ) → or_else o None ≡ o
    or_none None = refl
    or_none (Some x) = refl

-- ---- by the statements

pub numbers_are : (k : ℕ) (ss : List Stmt) (l : Bytes) → number_among k (map label_of_stmt ss) l ≡ labelled_from k ss l
numbers_are k [] l = refl
numbers_are k (s ∷ ss) l = ap (λ r. if is_text l (label_of_stmt s) then Some k else r) (numbers_are (suc k) ss l)

pub entry_snoc : (f : Bytes → Option ℕ) (ss : List Stmt) (s : Stmt) → entry_noted f (ss ++ s ∷ []) ≡ entry_with f (entry_noted f ss) s
entry_snoc f [] (Plain l b g) = refl
entry_snoc f [] (End e) = refl
entry_snoc f (Plain l b g ∷ ss) s = entry_snoc f ss s
entry_snoc f (End e ∷ ss) s = refl

pub entry_first : (f : Bytes → Option ℕ) (ss : List Stmt) → number_or 1 (entry_noted f ss) ≡ entry_by f (entry_label ss)
entry_first f [] = refl
entry_first f (Plain l b g ∷ ss) = entry_first f ss
entry_first f (End e ∷ ss) = refl
