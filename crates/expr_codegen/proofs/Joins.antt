-- Parts that were put, joined.
use Rattle.std.proofs.Common.{◌≡◌, ℕ, zero, suc, ◌+◌, List, [], ◌∷◌, ◌++◌, length, refl, sym, ap, ◌∙◌, subst, append_assoc, append-nil, arith, true, false, bytes_eq, if◌then◌else◌, map, length-append, ◌*◌, ◌≤◌, ◌<◌, drop, nat_lt, slice_index_or, get_or}
use Rattle.std.specs.Prelude.{Result, Ok, Err, OnOk}
use Rattle.std.proofs.lemmas.Grind.{flat_map-append}
use Rattle.std.proofs.lemmas.List.{drop-map, drop_more}
use Rattle.std.proofs.Math.Seq.{drop-append_seam, take-append_seam}
use Rattle.model.specs.declared.instr.Instr.{Instr}
use Rattle.model.specs.declared.instr.Instr.TheVariants as op
use Rattle.model.specs.Deck.Trees.{Bytes, Expr}
use Rattle.model.specs.Module.Images.{code_size, instr_size}
use Rattle.model.specs.Module.Spelling.{code_bytes, instr as spelt, u32}
use Rattle.model.specs.Deck.Weights.{of_expr}
use Rattle.model.proofs.Module.CodeBytes.{code_long, instr_long}
use Rattle.model.proofs.Module.SpeltNumbers.{wide32}
use Rattle.expr_codegen.specs.Texts.{number_of_text, with_text, with_texts}
use Rattle.expr_codegen.specs.Code.{Part, nothing, one, with_string, unevaluated, ◌>>◌, handled}
use Rattle.expr_codegen.specs.Emitting.{Gen, Emits, Longer, Numbered, due, overwritten, size, with_instr, with_number, with_waiting}
use Rattle.expr_codegen.proofs.TextPlaces.{place_stays}

-- ---- the result of a last call, returned as it is

pub on_ok : {T E : Type 0} (r : Result T E) (P Q : Type 0) → OnOk r P → (P → Q) → OnOk r Q
on_ok (Ok x) P Q h f = f h
on_ok (Err e) P Q h f = tt

-- ---- lists

pub nil_right : {A : Type 0} (xs : List A) → xs ≡ xs ++ []
nil_right [] = refl
nil_right (x ∷ xs) = ap (λ l. x ∷ l) (nil_right xs)

pub map_snoc : {A B : Type 0} (f : A → B) (xs : List A) (x : A) → map f (xs ++ x ∷ []) ≡ map f xs ++ f x ∷ []
map_snoc f [] x = refl
map_snoc f (y ∷ xs) x = ap (λ l. f y ∷ l) (map_snoc f xs x)

-- a number of 4 bytes behind others gets another value
number_set : (a rest : List ℕ) (m n : ℕ) → overwritten (length a) n (a ++ (u32 m ++ rest)) ≡ a ++ (u32 n ++ rest)
number_set a rest m n =
    let seam : drop (length (u32 m)) (u32 m ++ rest) ≡ rest = drop-append_seam (u32 m) rest in
    let behind : drop 4 (drop (length a) (a ++ (u32 m ++ rest))) ≡ rest = ap (drop 4) (drop-append_seam a (u32 m ++ rest)) ∙ ap (λ k. drop k (u32 m ++ rest)) (sym (wide32.len m)) ∙ seam in
    ap (λ z. z ++ (u32 n ++ drop 4 (drop (length a) (a ++ (u32 m ++ rest))))) (take-append_seam a (u32 m ++ rest)) ∙ ap (λ z. a ++ (u32 n ++ z)) behind

-- the bytes of instructions
pub bytes_append : (xs ys : List Instr) → code_bytes (xs ++ ys) ≡ code_bytes xs ++ code_bytes ys
bytes_append xs ys = flat_map-append spelt xs ys

pub bytes_behind : (bytes : List ℕ) (is : List Instr) → length (bytes ++ code_bytes is) ≡ length bytes + code_size is
bytes_behind bytes is = length-append bytes (code_bytes is) ∙ ap (λ n. length bytes + n) (code_long is)

pub drop_join : {A : Type 0} (n : ℕ) (xs ys : List A) → n ≤ length xs → drop n (xs ++ ys) ≡ drop n xs ++ ys
drop_join zero xs ys h = refl
drop_join (suc n) [] ys h = absurd (omega (arith, h))
drop_join (suc n) (x ∷ xs) ys h = drop_join n xs ys (omega (arith, h))

pub due_join : (xs ys : List Expr) → due (xs ++ ys) ≡ due xs + due ys
due_join [] ys = omega arith
due_join (x ∷ xs) ys = let h = due_join xs ys in omega (arith, h)

pub due_more : (n : ℕ) (xs : List Expr) (x : Expr) → n ≤ length xs → due (drop n (xs ++ x ∷ [])) ≡ due (drop n xs) + (9 * of_expr x + 1)
due_more n xs x h = ap due (drop_join n xs (x ∷ []) h) ∙ due_join (drop n xs) (x ∷ []) ∙ (let e : due (drop n xs) + (9 * of_expr x + 1 + 0) ≡ due (drop n xs) + (9 * of_expr x + 1) = omega arith in e)

pub drop_here : {A B : Type 0} (f : A → B) (xs ys : List A) (i : ℕ) (x d : A) → ys ≡ xs → true ≡ nat_lt i (length ys) → x ≡ slice_index_or ys i d → drop i (map f xs) ≡ f x ∷ drop (i + 1) (map f xs)
drop_here f xs ys i x d same within at =
    let less : i < length xs = let l = ap length same in grind (arith, within, l) in
    let is : get_or xs i d ≡ x = ap (λ l. get_or l i d) (sym same) ∙ sym at in
    drop-map f i xs ∙ ap (map f) (drop_more xs i d less) ∙ ap (λ y. f y ∷ map f (drop (i + 1) xs)) is ∙ ap (λ l. f x ∷ l) (sym (drop-map f (i + 1) xs))

pub size_waiting : (x : Expr) (g : Gen) (w : List Expr) → g.taken ≤ length g.waiting → w ≡ g.waiting ++ x ∷ [] → size (record { code = g.code; texts = g.texts; waiting = w; taken = g.taken }) ≡ size g + (9 * of_expr x + 2)
unfolding size
size_waiting x g w h e =
    let a = ap length e ∙ length-append g.waiting (x ∷ []) in
    let b = ap (λ w. due (drop g.taken w)) e ∙ due_more g.taken g.waiting x h in
    omega (arith, a, b)

-- ---- strings

pub longer_text : (t : Bytes) (ss : List Bytes) → Longer ss (with_text t ss)
longer_text t [] = (t ∷ [], refl)
longer_text t (s ∷ ss) = elim (bytes_eq t s) as (λ b. Longer (s ∷ ss) (if b then s ∷ ss else s ∷ with_text t ss)) [
  | true ↦ ([], nil_right (s ∷ ss))
  | false ↦ let m = longer_text t ss in (m.0, ap (λ l. s ∷ l) m.1)
]

pub longer_trans : {A : Type 0} (xs ys zs : List A) → Longer xs ys → Longer ys zs → Longer xs zs
longer_trans xs ys zs (m, e) (n, f) = (m ++ n, f ∙ ap (λ l. l ++ n) e ∙ append_assoc xs m n)

pub longer_texts : (ts ss : List Bytes) → Longer ss (with_texts ts ss)
longer_texts [] ss = ([], nil_right ss)
longer_texts (t ∷ ts) ss = longer_trans ss (with_text t ss) (with_texts ts (with_text t ss)) (longer_text t ss) (longer_texts ts (with_text t ss))

pub texts_append : (ts us ss : List Bytes) → with_texts (ts ++ us) ss ≡ with_texts us (with_texts ts ss)
texts_append [] us ss = refl
texts_append (t ∷ ts) us ss = texts_append ts us (with_text t ss)

-- ---- parts

pub nothing_put : (g : Gen) → Emits nothing g g
unfolding nothing
nothing_put g = record { code = λ texts l. nil_right g.code; texts = refl; waiting = nil_right g.waiting; taken = refl }

-- one part, then another
pub both : {a b : Part} {g h k : Gen} → Emits a g h → Emits b h k → Emits (a >> b) g k
unfolding ◌>>◌
both {a} {b} {g} {h} {k} x y = record {
  code = λ texts l.
      let l1 : Longer h.texts texts = longer_trans h.texts k.texts texts (subst (λ t. Longer h.texts t) (sym y.texts) (longer_texts b.texts h.texts)) l in
      let first : List Instr = a.code texts (length g.waiting) (length g.code) in
      let more : List Instr = b.code texts (length g.waiting + length a.later) (length g.code + code_size first) in
      let waits : length h.waiting ≡ length g.waiting + length a.later = ap length x.waiting ∙ length-append g.waiting a.later in
      let at : length h.code ≡ length g.code + code_size first = ap length (x.code texts l1) ∙ bytes_behind g.code first in
      y.code texts l ∙ ap (λ c. c ++ code_bytes (b.code texts (length h.waiting) (length h.code))) (x.code texts l1)
      ∙ ap (λ n. (g.code ++ code_bytes first) ++ code_bytes (b.code texts n (length h.code))) waits
      ∙ ap (λ o. (g.code ++ code_bytes first) ++ code_bytes (b.code texts (length g.waiting + length a.later) o)) at
      ∙ append_assoc g.code (code_bytes first) (code_bytes more) ∙ ap (λ c. g.code ++ c) (sym (bytes_append first more));
  texts = y.texts ∙ ap (with_texts b.texts) x.texts ∙ sym (texts_append a.texts b.texts g.texts);
  waiting = y.waiting ∙ ap (λ w. w ++ b.later) x.waiting ∙ append_assoc g.waiting a.later b.later;
  taken = y.taken ∙ x.taken;
}

pub instr_behind : (bytes : List ℕ) (i : Instr) → length (bytes ++ spelt i) ≡ length bytes + instr_size i
instr_behind bytes i = length-append bytes (spelt i) ∙ ap (λ n. length bytes + n) (instr_long i)

one_put : (code : List ℕ) (i : Instr) → code ++ spelt i ≡ code ++ code_bytes (i ∷ [])
one_put code i = ap (λ c. code ++ c) (sym (append-nil (spelt i)))

-- an instruction
pub instr : (i : Instr) (g h : Gen) → h ≡ with_instr i g → Emits (one i) g h
unfolding one
instr i g h e = subst (Emits (one i) g) (sym e) (record { code = λ texts l. one_put g.code i; texts = refl; waiting = nil_right g.waiting; taken = refl })

-- an instruction with a string
pub text : (i : ℕ → Instr) (s : Bytes) (k : ℕ) (g h j : Gen) → Numbered s k g h → j ≡ with_instr (i k) h → Emits (with_string i s) g j
unfolding with_string
text i s k g h j n e = subst (Emits (with_string i s) g) (sym e) (record {
  code = λ texts l.
      let place : k ≡ number_of_text s texts = n.at ∙ ap (number_of_text s) n.texts ∙ sym (place_stays s g.texts l.0) ∙ ap (λ t. number_of_text s (t ++ l.0)) (sym n.texts) ∙ ap (number_of_text s) (sym l.1) in
      ap (λ c. c ++ spelt (i k)) n.code ∙ one_put g.code (i k) ∙ ap (λ m. g.code ++ code_bytes (i m ∷ [])) place;
  texts = n.texts;
  waiting = n.waiting ∙ nil_right g.waiting;
  taken = n.taken;
})

-- an unevaluated expression
pub deferred : (x : Expr) (g h j : Gen) → h ≡ with_instr (op.Expr (length g.waiting)) g → j ≡ with_waiting x h → Emits (unevaluated x) g j
unfolding unevaluated
deferred x g h j e f = subst (Emits (unevaluated x) g) (sym (f ∙ ap (with_waiting x) e)) (record { code = λ texts l. one_put g.code (op.Expr (length g.waiting)); texts = refl; waiting = refl; taken = refl })

-- an instruction whose number is changed once what follows it is put: n is the number at first, t the offset after the first part
pub changed : {a b : Part} (i : ℕ → Instr) (c n t : ℕ) (g g1 h k k1 : Gen) → ((m : ℕ) → spelt (i m) ≡ c ∷ u32 m) → ((m : ℕ) → instr_size (i m) ≡ 5) → g1 ≡ with_instr (i n) g → Emits a g1 h → t ≡ length h.code → Emits b h k
    → k1 ≡ with_number (length g.code) t k → Emits (handled i a b) g k1
unfolding handled ◌>>◌
changed {a} {b} i c n t g g1 h k k1 is five put x at y set = subst (Emits (handled i a b) g) (sym set) (record {
  code = λ texts l.
      let w : length g1.waiting ≡ length g.waiting = ap (λ (z : Gen). length z.waiting) put in
      let o : length g1.code ≡ length g.code + 5 = ap (λ (z : Gen). length z.code) put ∙ instr_behind g.code (i n) ∙ ap (λ m. length g.code + m) (five n) in
      let l1 : Longer h.texts texts = longer_trans h.texts k.texts texts (subst (λ t. Longer h.texts t) (sym y.texts) (longer_texts b.texts h.texts)) l in
      let first : List Instr = a.code texts (length g.waiting) (length g.code + 5) in
      let whole : List Instr = (a >> b).code texts (length g.waiting) (length g.code + 5) in
      let begins : h.code ≡ g1.code ++ code_bytes first = x.code texts l1 ∙ ap (λ m. g1.code ++ code_bytes (a.code texts m (length g1.code))) w ∙ ap (λ m. g1.code ++ code_bytes (a.code texts (length g.waiting) m)) o in
      let all : k.code ≡ (g.code ++ c ∷ []) ++ (u32 n ++ code_bytes whole) = (both x y).code texts l ∙ ap (λ m. g1.code ++ code_bytes ((a >> b).code texts m (length g1.code))) w ∙ ap (λ m. g1.code ++ code_bytes ((a >> b).code texts (length g.waiting) m)) o
      ∙ ap (λ (z : Gen). z.code ++ code_bytes whole) put ∙ ap (λ z. (g.code ++ z) ++ code_bytes whole) (is n) ∙ append_assoc g.code (c ∷ u32 n) (code_bytes whole) ∙ sym (append_assoc g.code (c ∷ []) (u32 n ++ code_bytes whole)) in
      let there : t ≡ length g.code + 5 + code_size first = at ∙ ap length begins ∙ bytes_behind g1.code first ∙ ap (λ m. m + code_size first) o in
      ap (overwritten (length g.code + 1) t) all ∙ ap (λ m. overwritten m t ((g.code ++ c ∷ []) ++ (u32 n ++ code_bytes whole))) (sym (length-append g.code (c ∷ [])))
      ∙ number_set (g.code ++ c ∷ []) (code_bytes whole) n t ∙ append_assoc g.code (c ∷ []) (u32 t ++ code_bytes whole) ∙ ap (λ z. g.code ++ (z ++ code_bytes whole)) (sym (is t)) ∙ ap (λ m. g.code ++ (spelt (i m) ++ code_bytes whole)) there;
  texts = (both x y).texts ∙ ap (λ (z : Gen). with_texts (a.texts ++ b.texts) z.texts) put;
  waiting = (both x y).waiting ∙ ap (λ (z : Gen). z.waiting ++ (a.later ++ b.later)) put;
  taken = (both x y).taken ∙ ap (λ (z : Gen). z.taken) put;
})

-- and until then its bytes are there
pub stays : {p : Part} (i : Instr) (at : ℕ) (g g1 h : Gen) → at ≡ length g.code → g1 ≡ with_instr i g → Emits p g1 h → instr_size i ≡ 5 → at + 5 ≤ length h.code
stays {p} i at g g1 h place put x five =
    let more : List Instr = p.code h.texts (length g1.waiting) (length g1.code) in
    let all : length h.code ≡ length g1.code + code_size more = ap length (x.code h.texts ([], nil_right h.texts)) ∙ bytes_behind g1.code more in
    let o : length g1.code ≡ length g.code + instr_size i = ap (λ (z : Gen). length z.code) put ∙ instr_behind g.code i in
    omega (arith, place, all, o, five)
