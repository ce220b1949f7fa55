-- Lists of notes in a log that only grows, and logs that are cut to marks.
use Rattle.std.proofs.Common.{◌≡◌, ℕ, zero, suc, ◌+◌, ◌-◌, ◌<◌, ◌≤◌, List, [], ◌∷◌, ◌++◌, reverse, length, refl, sym, ◌∙◌, ap, subst, arith, ◌⊎◌, inl, inr, Option, Some, None, Bool, true, false, cond, take}
use Rattle.std.proofs.Math.Dec.{eqb, ltb, eqb-suc-zero}
use Rattle.std.proofs.Math.Seq.{drop-append_seam}
use Rattle.std.specs.Prelude.{slice_get, get_or, drop, min}
use Rattle.std.proofs.lemmas.Bool.{ne_eqb, ltb-true, ltb-false}
use Rattle.std.proofs.lemmas.Bool.Decides.{eqb_tells}
use Rattle.std.proofs.lemmas.List.{reverse-append, reverse-reverse, length-reverse, length-append, length-drop, length-take, take-append-le, take-append-drop, take_all, append-nil}
use Rattle.std.proofs.lemmas.Option.{none-some, same_Some, slice_get_cases}
use Rattle.model.specs.Pattern.Steps as s
use Rattle.model.specs.Pattern.Steps.{Code}
use Rattle.backtrack.specs.declared.assignment.Assignment.{Assignment}
use Rattle.backtrack.specs.declared.trail.Entry.{Entry}
use Rattle.backtrack.specs.declared.trail.Trail.TheInside.{Inside}
use Rattle.backtrack.specs.declared.way_back.Choice.{Choice}
use Rattle.backtrack.specs.declared.way_back.WayBack.{WayBack}
use Rattle.backtrack.specs.declared.way_back.WayBack.TheVariants as kept
use Rattle.backtrack.specs.Standing.{Back, Standing, IsAtArb, IsOfCode, from_kept, no_backs, oldest, with_choice}
use Rattle.backtrack.specs.Logs.{IsChoice, kept_by, note_of, pending_of, chain, last_code, Logs, logs_of, standing, cut, back_of, backs, Marks}

-- ---- lists of notes
pub chain_top : (e : Entry) (es : List Entry) (h : ℕ) → h ≡ suc (length es) → chain (e ∷ es) h ≡ note_of e.note ∷ chain es e.below
chain_top e es h q = go (eqb_tells h (suc (length es)))
  where
    go : ((eqb h (suc (length es)) ≡ true) × (h ≡ suc (length es))) ⊎ ((eqb h (suc (length es)) ≡ false) × (h ≡ suc (length es) → ⊥)) → chain (e ∷ es) h ≡ note_of e.note ∷ chain es e.below
    go (inl (t, p)) = ap (λ b. cond b (note_of e.note ∷ chain es e.below) (chain es h)) t
    go (inr (f, n)) = absurd (n q)

chain_more : (e : Entry) (es : List Entry) (h : ℕ) → (h ≡ suc (length es) → ⊥) → chain (e ∷ es) h ≡ chain es h
chain_more e es h n = ap (λ b. cond b (note_of e.note ∷ chain es e.below) (chain es h)) (ne_eqb h (suc (length es)) n)

not_top : (h n : ℕ) → h ≤ n → h ≡ suc n → ⊥
not_top h n l e = omega arith

not_past : (h n : ℕ) → suc n < h → h ≡ suc n → ⊥
not_past h n l e = omega arith

not_zero : (n : ℕ) → 0 ≡ suc n → ⊥
not_zero n e = omega arith

pub chain_zero : (es : List Entry) → chain es 0 ≡ []
chain_zero [] = refl
chain_zero (e ∷ es) = chain_more e es 0 (not_zero (length es)) ∙ chain_zero es

chain_past : (es : List Entry) (h : ℕ) → length es < h → chain es h ≡ []
chain_past [] h l = refl
chain_past (e ∷ es) h l = chain_more e es h (not_past h (length es) l) ∙ chain_past es h (omega (arith, l))

-- the list below an entry of the list h
abbrev pub below_of : ℕ → ℕ → ℕ
below_of h b = cond (ltb b h) b 0

chain_limit : (e : Entry) (es : List Entry) (h b : ℕ) → h ≡ suc (length es) → chain (e ∷ es) (below_of h b) ≡ chain es b
chain_limit e es h b q = go (ltb b h) refl
  where
    go : (t : Bool) → ltb b h ≡ t → chain (e ∷ es) (cond t b 0) ≡ chain es b
    go true p = let l : b ≤ length es = omega (arith, ltb-true b h p) in chain_more e es b (not_top b (length es) l)
    go false p =
        let l : length es < b = omega (arith, ltb-false b h p) in
        chain_more e es 0 (not_zero (length es)) ∙ chain_zero es ∙ sym (chain_past es b l)

below_le : (k b : ℕ) → below_of (suc k) b ≤ k
below_le k b = go (ltb b (suc k)) refl
  where
    go : (t : Bool) → ltb b (suc k) ≡ t → cond t b 0 ≤ k
    go true p = omega (arith, ltb-true b (suc k) p)
    go false p = omega arith

get_push : {A : Type 0} (xs : List A) (y z : A) (k : ℕ) → slice_get (xs ++ y ∷ []) k ≡ Some z → ((slice_get xs k ≡ Some z) × (k < length xs)) ⊎ ((k ≡ length xs) × (y ≡ z))
get_push [] y z zero h = inr (refl, same_Some y z h)
get_push [] y z (suc k) h = absurd (none-some z h)
get_push (x ∷ xs) y z zero h = inl (h, omega arith)
get_push (x ∷ xs) y z (suc k) h = go (get_push xs y z k h)
  where
    go : ((slice_get xs k ≡ Some z) × (k < length xs)) ⊎ ((k ≡ length xs) × (y ≡ z)) → ((slice_get xs k ≡ Some z) × (suc k < suc (length xs))) ⊎ ((suc k ≡ suc (length xs)) × (y ≡ z))
    go (inl (g, l)) = inl (g, omega (arith, l))
    go (inr (q, e)) = inr (ap suc q, e)

chain_entry : (es : List Entry) (k : ℕ) (x : Entry) → slice_get (reverse es) k ≡ Some x → chain es (suc k) ≡ note_of x.note ∷ chain es (below_of (suc k) x.below)
chain_entry [] k x h = absurd (none-some x h)
chain_entry (e ∷ es) k x h =
    go (chain_entry es k x) (get_push (reverse es) e x k (ap (λ l. slice_get l k) (sym (reverse-append (e ∷ []) es)) ∙ h))
  where
    go : (slice_get (reverse es) k ≡ Some x → chain es (suc k) ≡ note_of x.note ∷ chain es (below_of (suc k) x.below)) → ((slice_get (reverse es) k ≡ Some x) × (k < length (reverse es))) ⊎ ((k ≡ length (reverse es)) × (e ≡ x)) → chain (e ∷ es) (suc k) ≡ note_of x.note ∷ chain (e ∷ es) (below_of (suc k) x.below)
    go deep (inl (g, l)) =
        let m : suc k ≤ length es = omega (arith, l, length-reverse es) in
        let b : below_of (suc k) x.below ≤ length es = omega (arith, m, below_le k x.below) in
        chain_more e es (suc k) (not_top (suc k) (length es) m) ∙ deep g
        ∙ ap (λ ns. note_of x.note ∷ ns) (sym (chain_more e es (below_of (suc k) x.below) (not_top (below_of (suc k) x.below) (length es) b)))
    go deep (inr (q, p)) =
        let m : suc k ≡ suc (length es) = omega (arith, q, length-reverse es) in
        chain_top e es (suc k) m ∙ ap (λ ns. note_of e.note ∷ ns) (sym (chain_limit e es (suc k) e.below m))
        ∙ ap (λ y. note_of y.note ∷ chain (e ∷ es) (below_of (suc k) y.below)) p

-- the newest note, by its entry
pub chain_head : (log : List Entry) (h b : ℕ) (x : Entry) → 0 < h → slice_get log (h - 1) ≡ Some x → b ≡ below_of h x.below → chain (reverse log) h ≡ note_of x.note ∷ chain (reverse log) b
chain_head log zero b x l e q = absurd (omega (arith, l))
chain_head log (suc k) b x l e q =
    let here : suc k - 1 ≡ k = omega arith in
    chain_entry (reverse log) k x (ap (λ l. slice_get l k) (reverse-reverse log) ∙ ap (slice_get log) (sym here) ∙ e)
    ∙ ap (λ n. note_of x.note ∷ chain (reverse log) n) (sym q)

pub chain_no_head : (log : List Entry) (h : ℕ) → 0 < h → length log ≤ h - 1 → chain (reverse log) h ≡ []
chain_no_head log h l m = chain_past (reverse log) h (omega (arith, l, m, length-reverse log))

-- with an entry more
pub chain_push : (log : List Entry) (e : Entry) (h : ℕ) → h ≡ length log + 1 → chain (reverse (log ++ e ∷ [])) h ≡ note_of e.note ∷ chain (reverse log) e.below
chain_push log e h q =
    ap (λ es. chain es h) (reverse-append log (e ∷ [])) ∙ chain_top e (reverse log) h (omega (arith, q, length-reverse log))

-- ---- cuts
pub last_code_push : (cs : List Code) (c : Code) → last_code (cs ++ c ∷ []) ≡ c
last_code_push cs c = go (slice_get_cases (cs ++ c ∷ []) (length (cs ++ c ∷ []) - 1)).1
  where
    n : ℕ
    n = length (cs ++ c ∷ []) - 1

    size : length (cs ++ c ∷ []) ≡ length cs + 1
    size = length-append cs (c ∷ [])

    found : (x : Code) → ((slice_get cs n ≡ Some x) × (n < length cs)) ⊎ ((n ≡ length cs) × (c ≡ x)) → x ≡ c
    found x (inl (g, l)) = absurd (omega (arith, l, size))
    found x (inr (q, e)) = sym e

    go : ((x : Code) × (n < length (cs ++ c ∷ [])) × (slice_get (cs ++ c ∷ []) n ≡ Some x) × (get_or (cs ++ c ∷ []) n x ≡ x)) ⊎ ((length (cs ++ c ∷ []) ≤ n) × (slice_get (cs ++ c ∷ []) n ≡ None)) → last_code (cs ++ c ∷ []) ≡ c
    go (inl (x, l, g, o)) =
        ap (λ (o : Option Code). elim o [ None ↦ [] | Some d ↦ d ]) g ∙ found x (get_push cs c x n g)
    go (inr (l, g)) = absurd (omega (arith, l, size))

-- the choices are the same for logs whose cuts are the same
pub record Same (l l' : Logs) (xs : List Choice) : Type 0 where
  pub marks : Marks l' xs
  pub backs : backs l' xs ≡ backs l xs

pub more_log : (cs : List Code) (log more : List Entry) (ps : List Assignment) (xs : List Choice) → Marks (record { codes = cs; log = log; pending = ps }) xs → Same (record { codes = cs; log = log; pending = ps }) (record { codes = cs; log = log ++ more; pending = ps }) xs
more_log cs log more ps [] m = record { marks = tt; backs = refl }
more_log cs log more ps (x ∷ xs) m =
    let l : Logs = record { codes = cs; log = log; pending = ps } in
    let l' : Logs = record { codes = cs; log = log ++ more; pending = ps } in
    let e : cut l' x ≡ cut l x = ap (λ (es : List Entry). record { codes = take x.codes cs; log = es; pending = take x.pending ps }) (take-append-le x.log log more m.1) in
    record {
      marks = (m.0, omega (arith, m.1, length-append log more), m.2, subst (λ (k : Logs). Marks k xs) (sym e) m.3);
      backs = ap (λ (k : Logs). back_of k x ∷ backs k xs) e;
    }

pub more_pending : (cs : List Code) (log : List Entry) (ps more : List Assignment) (xs : List Choice) → Marks (record { codes = cs; log = log; pending = ps }) xs → Same (record { codes = cs; log = log; pending = ps }) (record { codes = cs; log = log; pending = ps ++ more }) xs
more_pending cs log ps more [] m = record { marks = tt; backs = refl }
more_pending cs log ps more (x ∷ xs) m =
    let l : Logs = record { codes = cs; log = log; pending = ps } in
    let l' : Logs = record { codes = cs; log = log; pending = ps ++ more } in
    let e : cut l' x ≡ cut l x = ap (λ (as' : List Assignment). record { codes = take x.codes cs; log = take x.log log; pending = as' }) (take-append-le x.pending ps more m.2) in
    record {
      marks = (m.0, m.1, omega (arith, m.2, length-append ps more), subst (λ (k : Logs). Marks k xs) (sym e) m.3);
      backs = ap (λ (k : Logs). back_of k x ∷ backs k xs) e;
    }

pub more_codes : (cs more : List Code) (log : List Entry) (ps : List Assignment) (xs : List Choice) → Marks (record { codes = cs; log = log; pending = ps }) xs → Same (record { codes = cs; log = log; pending = ps }) (record { codes = cs ++ more; log = log; pending = ps }) xs
more_codes cs more log ps [] m = record { marks = tt; backs = refl }
more_codes cs more log ps (x ∷ xs) m =
    let l : Logs = record { codes = cs; log = log; pending = ps } in
    let l' : Logs = record { codes = cs ++ more; log = log; pending = ps } in
    let e : cut l' x ≡ cut l x = ap (λ (c : List Code). record { codes = c; log = take x.log log; pending = take x.pending ps }) (take-append-le x.codes cs more m.0) in
    record {
      marks = (omega (arith, m.0, length-append cs more), m.1, m.2, subst (λ (k : Logs). Marks k xs) (sym e) m.3);
      backs = ap (λ (k : Logs). back_of k x ∷ backs k xs) e;
    }

-- a choice whose marks don't cut
uncut_by : (l : Logs) (x : Choice) → length l.codes ≤ x.codes → length l.log ≤ x.log → length l.pending ≤ x.pending → cut l x ≡ l
uncut_by l x c n p =
    let e : take x.codes l.codes ≡ l.codes = take_all x.codes l.codes c in
    let f : take x.log l.log ≡ l.log = take_all x.log l.log n in
    let g : take x.pending l.pending ≡ l.pending = take_all x.pending l.pending p in
    λ i. record { codes = e i; log = f i; pending = g i }

-- a choice whose marks are the lengths
uncut : (l : Logs) (x : Choice) → x.codes ≡ length l.codes → x.log ≡ length l.log → x.pending ≡ length l.pending → cut l x ≡ l
uncut l x c n p = uncut_by l x (omega (arith, c)) (omega (arith, n)) (omega (arith, p))

-- a choice more, with codes added before it
pub keep_marks : (cs cs' more : List Code) (log : List Entry) (ps : List Assignment) (xs xs' : List Choice) (x : Choice) → cs' ≡ cs ++ more → xs' ≡ xs ++ x ∷ [] → x.codes ≡ length cs' → x.log ≡ length log → x.pending ≡ length ps → Marks (record { codes = cs; log = log; pending = ps }) (reverse xs) → Marks (record { codes = cs'; log = log; pending = ps }) (reverse xs')
keep_marks cs cs' more log ps xs xs' x e f c n p m =
    let l : Logs = record { codes = cs'; log = log; pending = ps } in
    let g : Marks l (reverse xs) = subst (λ (k : List Code). Marks (record { codes = k; log = log; pending = ps }) (reverse xs)) (sym e) (more_codes cs more log ps (reverse xs) m).marks in
    let all : Marks l (x ∷ reverse xs) = (omega (arith, c), omega (arith, n), omega (arith, p), subst (λ (k : Logs). Marks k (reverse xs)) (sym (uncut l x c n p)) g) in
    subst (λ (ys : List Choice). Marks l ys) (sym (ap reverse f ∙ reverse-append xs (x ∷ []))) all

pub keep_backs : (cs cs' more : List Code) (log : List Entry) (ps : List Assignment) (xs xs' : List Choice) (x : Choice) → cs' ≡ cs ++ more → xs' ≡ xs ++ x ∷ [] → x.codes ≡ length cs' → x.log ≡ length log → x.pending ≡ length ps → Marks (record { codes = cs; log = log; pending = ps }) (reverse xs) → backs (record { codes = cs'; log = log; pending = ps }) (reverse xs') ≡ back_of (record { codes = cs'; log = log; pending = ps }) x ∷ backs (record { codes = cs; log = log; pending = ps }) (reverse xs)
keep_backs cs cs' more log ps xs xs' x e f c n p m =
    let l : Logs = record { codes = cs'; log = log; pending = ps } in
    ap (backs l) (ap reverse f ∙ reverse-append xs (x ∷ [])) ∙ ap (λ (k : Logs). back_of k x ∷ backs k (reverse xs)) (uncut l x c n p)
    ∙ ap (λ (k : List Code). back_of l x ∷ backs (record { codes = k; log = log; pending = ps }) (reverse xs)) e
    ∙ ap (λ (bs : List Back). back_of l x ∷ bs) (more_codes cs more log ps (reverse xs) m).backs

-- the code is the last of the codes, and all else as it was
pub record IsReady (a b : Inside) : Type 0 where
  pub code : b.code ≡ a.code
  pub head : b.head ≡ a.head
  pub log : b.log.items ≡ a.log.items
  pub pending : b.pending.items ≡ a.pending.items
  pub choices : b.choices.items ≡ a.choices.items
  pub more : (cs : List Code) × (b.codes.items ≡ a.codes.items ++ cs)
  pub last : last_code b.codes.items ≡ a.code

pub ready_now : (a : Inside) → last_code a.codes.items ≡ a.code → IsReady a a
ready_now a last =
    record { code = refl; head = refl; log = refl; pending = refl; choices = refl; more = ([], sym (append-nil a.codes.items)); last = last }

pub ready_marks : (a b : Inside) → IsReady a b → Marks (logs_of a) (reverse a.choices.items) → Marks (logs_of b) (reverse b.choices.items)
ready_marks a b r m =
    rw (r.log, r.pending, r.choices, r.more.1) (more_codes a.codes.items r.more.0 a.log.items a.pending.items (reverse a.choices.items) m).marks

-- with a choice more
module _ (a b : Inside) (r : IsReady a b) (x : Choice) (xs : List Choice) (k : WayBack) (q c h j i : ℕ) (new : IsChoice x k q c b.head (h, j, i)) (is : xs ≡ b.choices.items ++ x ∷ []) (l : h ≡ length b.log.items) (p : j ≡ length b.pending.items) (n : i ≡ length b.codes.items) (m : Marks (logs_of a) (reverse a.choices.items)) where
  all : xs ≡ a.choices.items ++ x ∷ []
  all = is ∙ ap (λ ys. ys ++ x ∷ []) r.choices

  pub kept_marks : Marks (logs_of b) (reverse xs)
  kept_marks =
      rw (r.log, r.pending) (keep_marks a.codes.items b.codes.items r.more.0 a.log.items a.pending.items a.choices.items xs x r.more.1 all (new.codes ∙ n) (new.log ∙ l ∙ ap length r.log) (new.pending ∙ p ∙ ap length r.pending) m)

  pub kept_standing : record { code = b.code; notes = chain (reverse b.log.items) b.head; pending = pending_of b.pending.items; backs = backs (logs_of b) (reverse xs) } ≡ with_choice (standing a) k q c
  kept_standing =
      let newest : back_of (record { codes = b.codes.items; log = a.log.items; pending = a.pending.items }) x ≡ record { kept = k; thread = record { code = a.code; place = q; cursor = c; notes = chain (reverse a.log.items) a.head; pending = pending_of a.pending.items } } =
      λ t. record { kept = new.kept t; thread = record { code = r.last t; place = new.place t; cursor = new.cursor t; notes = chain (reverse a.log.items) ((new.head ∙ r.head) t); pending = pending_of a.pending.items } } in
      let backs_are : backs (record { codes = b.codes.items; log = a.log.items; pending = a.pending.items }) (reverse xs) ≡ (with_choice (standing a) k q c).backs =
      keep_backs a.codes.items b.codes.items r.more.0 a.log.items a.pending.items a.choices.items xs x r.more.1 all (new.codes ∙ n) (new.log ∙ l ∙ ap length r.log) (new.pending ∙ p ∙ ap length r.pending) m ∙ ap (λ (y : Back). y ∷ backs (logs_of a) (reverse a.choices.items)) newest in
      rw (r.code, r.head, r.log, r.pending)
      (λ t. record { code = a.code; notes = chain (reverse a.log.items) a.head; pending = pending_of a.pending.items; backs = backs_are t })

no_backs_of : (l : Logs) (xs : List Choice) → no_backs (backs l xs) ≡ eqb (length xs) 0
no_backs_of l [] = refl
no_backs_of l (x ∷ xs) = sym (eqb-suc-zero (length xs))

pub no_choices : (l : Logs) (xs : List Choice) → no_backs (backs l (reverse xs)) ≡ eqb (length xs) 0
no_choices l xs = no_backs_of l (reverse xs) ∙ ap (λ n. eqb n 0) (length-reverse xs)

-- ---- the newest choice
pub last_is : (xs : List Choice) (x : Choice) → slice_get xs (length xs - 1) ≡ Some x → (ys : List Choice) × (reverse xs ≡ x ∷ ys)
last_is xs x h = go (reverse xs) refl
  where
    go : (zs : List Choice) → reverse xs ≡ zs → (ys : List Choice) × (reverse xs ≡ x ∷ ys)
    go [] e =
        let q : xs ≡ [] = sym (reverse-reverse xs) ∙ ap reverse e in
        absurd (none-some x (ap (λ (l : List Choice). slice_get l (length l - 1)) (sym q) ∙ h))
    go (z ∷ zs) e =
        let q : xs ≡ reverse zs ++ z ∷ [] = sym (reverse-reverse xs) ∙ ap reverse e ∙ reverse-append (z ∷ []) zs in
        let n : length xs - 1 ≡ length (reverse zs) = omega (arith, ap length q ∙ length-append (reverse zs) (z ∷ [])) in
        last (get_push (reverse zs) z x (length (reverse zs)) (ap (λ (l : List Choice). slice_get l (length (reverse zs))) (sym q) ∙ ap (slice_get xs) (sym n) ∙ h))
      where
        last : ((slice_get (reverse zs) (length (reverse zs)) ≡ Some x) × (length (reverse zs) < length (reverse zs))) ⊎ ((length (reverse zs) ≡ length (reverse zs)) × (z ≡ x)) → (ys : List Choice) × (reverse xs ≡ x ∷ ys)
        last (inl (g, l)) = absurd (omega (arith, l))
        last (inr (g, p)) = (zs, e ∙ ap (λ (y : Choice). y ∷ zs) p)

-- it is what is gone back to
pub newest_of : (l : Logs) (xs : List Choice) (x : Choice) → slice_get xs (length xs - 1) ≡ Some x → (ys : List Choice) × (backs l (reverse xs) ≡ back_of (cut l x) x ∷ backs (cut l x) ys)
newest_of l xs x h = go (last_is xs x h)
  where
    go : (ys : List Choice) × (reverse xs ≡ x ∷ ys) → (ys : List Choice) × (backs l (reverse xs) ≡ back_of (cut l x) x ∷ backs (cut l x) ys)
    go (ys, q) = (ys, ap (backs l) q)

-- and its code is the last of those that its cut leaves
pub here_is : (l : Logs) (xs : List Choice) (x : Choice) (code : Code) → slice_get xs (length xs - 1) ≡ Some x → last_code (take x.codes l.codes) ≡ code → IsOfCode code (backs l (reverse xs))
here_is l xs x code h e = subst (IsOfCode code) (sym (newest_of l xs x h).1) e

pub code_is : (l : Logs) (xs : List Choice) (x : Choice) (code : Code) → slice_get xs (length xs - 1) ≡ Some x → IsOfCode code (backs l (reverse xs)) → last_code (take x.codes l.codes) ≡ code
code_is l xs x code h e = subst (IsOfCode code) (newest_of l xs x h).1 e

pub at_arb : (l : Logs) (xs : List Choice) (x : Choice) (e : ℕ) (st : Standing) → slice_get xs (length xs - 1) ≡ Some x → kept_by x.kind x.target ≡ kept.Arb e → last_code (take x.codes l.codes) ≡ st.code → st.backs ≡ backs l (reverse xs) → IsAtArb st x.place e
at_arb l xs x e st h k c b =
    let t : s.Thread = (back_of (cut l x) x).thread in
    let newest = newest_of l xs x h in
    let bs : List Back = backs (cut l x) newest.0 in
    (t, bs, b ∙ newest.1 ∙ ap (λ (y : WayBack). let all : List Back = record { kept = y; thread = t } ∷ bs in all) k, refl, c)

-- ---- the oldest choices
-- the marks of older choices are those of the whole logs too
uncut_same : (l : Logs) (x : Choice) (xs : List Choice) → Marks (cut l x) xs → Same (cut l x) l xs
uncut_same l x xs m =
    let codes = take x.codes l.codes in
    let log = take x.log l.log in
    let pending = take x.pending l.pending in
    let a = more_codes codes (drop x.codes l.codes) log pending xs m in
    let b = more_log (codes ++ drop x.codes l.codes) log (drop x.log l.log) pending xs a.marks in
    let c = more_pending (codes ++ drop x.codes l.codes) (log ++ drop x.log l.log) pending (drop x.pending l.pending) xs b.marks in
    let e : record { codes = codes ++ drop x.codes l.codes; log = log ++ drop x.log l.log; pending = pending ++ drop x.pending l.pending } ≡ l =
    λ i. record { codes = take-append-drop x.codes l.codes i; log = take-append-drop x.log l.log i; pending = take-append-drop x.pending l.pending i } in
    record {
      marks = subst (λ (k : Logs). Marks k xs) e c.marks;
      backs = ap (λ (k : Logs). backs k xs) (sym e) ∙ c.backs ∙ b.backs ∙ a.backs;
    }

pub older_marks : (n : ℕ) (l : Logs) (xs : List Choice) → Marks l xs → Marks l (drop n xs)
older_marks zero l xs m = m
older_marks (suc n) l [] m = m
older_marks (suc n) l (x ∷ xs) m = older_marks n l xs (uncut_same l x xs m.3).marks

older_backs : (n : ℕ) (l : Logs) (xs : List Choice) → Marks l xs → backs l (drop n xs) ≡ drop n (backs l xs)
older_backs zero l xs m = refl
older_backs (suc n) l [] m = refl
older_backs (suc n) l (x ∷ xs) m =
    let same = uncut_same l x xs m.3 in
    older_backs n l xs same.marks ∙ ap (drop n) same.backs

length_backs : (l : Logs) (xs : List Choice) → length (backs l xs) ≡ length xs
length_backs l [] = refl
length_backs l (x ∷ xs) = ap suc (length_backs (cut l x) xs)

pub count_choices : (l : Logs) (xs : List Choice) → length (backs l (reverse xs)) ≡ length xs
count_choices l xs = length_backs l (reverse xs) ∙ length-reverse xs

-- without the newest
pub rest_marks : (l : Logs) (xs rest : List Choice) (x : Choice) → xs ≡ rest ++ x ∷ [] → Marks l (reverse xs) → Marks l (reverse rest)
rest_marks l xs rest x e m =
    older_marks 1 l (x ∷ reverse rest) (subst (Marks l) (ap reverse e ∙ reverse-append rest (x ∷ [])) m)

-- without the newest
pub rest_backs : (l : Logs) (xs rest : List Choice) (x : Choice) → xs ≡ rest ++ x ∷ [] → Marks l (reverse xs) → backs l (reverse rest) ≡ from_kept None (backs l (reverse xs))
rest_backs l xs rest x e m =
    let r : reverse xs ≡ x ∷ reverse rest = ap reverse e ∙ reverse-append rest (x ∷ []) in
    (uncut_same l x (reverse rest) (subst (Marks l) r m).3).backs ∙ sym (ap (λ ys. from_kept None (backs l ys)) r)

-- the logs cut no further than the newest cuts them, which stays
module _ (l m : Logs) (xs : List Choice) (x : Choice) (h : slice_get xs (length xs - 1) ≡ Some x) (same : cut m x ≡ cut l x) where
  pub cut_same : x.codes ≤ length m.codes → x.log ≤ length m.log → x.pending ≤ length m.pending → Marks l (reverse xs) → Same l m (reverse xs)
  cut_same c n p all = go (last_is xs x h)
    where
      go : (ys : List Choice) × (reverse xs ≡ x ∷ ys) → Same l m (reverse xs)
      go (ys, q) =
          record {
            marks = subst (Marks m) (sym q) (c, n, p, subst (λ k. Marks k ys) (sym same) (subst (Marks l) q all).3);
            backs = ap (backs m) q ∙ ap (λ (k : Logs). back_of k x ∷ backs k ys) same ∙ sym (ap (backs l) q);
          }

take_twice : {A : Type 0} (n : ℕ) (xs : List A) → take n (take n xs) ≡ take n xs
take_twice n xs = take_all n (take n xs) (omega (arith, length-take n xs))

-- its own marks
newest_marks : (l : Logs) (xs : List Choice) (x : Choice) → slice_get xs (length xs - 1) ≡ Some x → Marks l (reverse xs) → (x.codes ≤ length l.codes) × (x.log ≤ length l.log) × (x.pending ≤ length l.pending)
newest_marks l xs x h m = go (last_is xs x h)
  where
    go : (ys : List Choice) × (reverse xs ≡ x ∷ ys) → (x.codes ≤ length l.codes) × (x.log ≤ length l.log) × (x.pending ≤ length l.pending)
    go (ys, q) = let marks : Marks l (x ∷ ys) = subst (Marks l) q m in (marks.0, marks.1, marks.2)

-- its code recovered
pub recovered : (l : Logs) (xs : List Choice) (x : Choice) → slice_get xs (length xs - 1) ≡ Some x → Marks l (reverse xs) → Same l (record { codes = take x.codes l.codes; log = l.log; pending = l.pending }) (reverse xs)
recovered l xs x h all =
    let m = newest_marks l xs x h all in
    let codes : length (take x.codes l.codes) ≡ min x.codes (length l.codes) = length-take x.codes l.codes in
    cut_same l (record { codes = take x.codes l.codes; log = l.log; pending = l.pending }) xs x h (ap (λ cs. let logs : Logs = record { codes = cs; log = take x.log l.log; pending = take x.pending l.pending } in logs) (take_twice x.codes l.codes)) (omega (arith, codes, m.0)) m.1 m.2 all

-- the logs cut to it, but for the codes
abbrev pub cut_here : Logs → Choice → Logs
cut_here l x = record { codes = l.codes; log = take x.log l.log; pending = take x.pending l.pending }

cut_here_is : (l : Logs) (x : Choice) → cut (cut_here l x) x ≡ cut l x
cut_here_is l x = λ i. record { codes = take x.codes l.codes; log = take_twice x.log l.log i; pending = take_twice x.pending l.pending i }

pub rewound : (l : Logs) (xs : List Choice) (x : Choice) → slice_get xs (length xs - 1) ≡ Some x → Marks l (reverse xs) → Same l (cut_here l x) (reverse xs)
rewound l xs x h all =
    let m = newest_marks l xs x h all in
    let log : length (take x.log l.log) ≡ min x.log (length l.log) = length-take x.log l.log in
    let pending : length (take x.pending l.pending) ≡ min x.pending (length l.pending) = length-take x.pending l.pending in
    cut_same l (cut_here l x) xs x h (cut_here_is l x) m.0 (omega (arith, log, m.1)) (omega (arith, pending, m.2)) all

pub rewound_to : (l : Logs) (xs : List Choice) (x : Choice) (code : Code) → slice_get xs (length xs - 1) ≡ Some x → IsOfCode code (backs l (reverse xs))
    → (bs : List Back) × (backs (cut_here l x) (reverse xs) ≡ record { kept = kept_by x.kind x.target; thread = record { code = code; place = x.place; cursor = x.cursor; notes = chain (reverse (take x.log l.log)) x.head; pending = pending_of (take x.pending l.pending) } } ∷ bs)
rewound_to l xs x code h here =
    let newest = newest_of (cut_here l x) xs x h in
    let bs : List Back = backs (cut (cut_here l x) x) newest.0 in (
      bs,
      newest.1 ∙ ap (λ (k : Logs). back_of k x ∷ bs) (cut_here_is l x)
          ∙ ap (λ (code' : Code). let all : List Back = record { kept = kept_by x.kind x.target; thread = record { code = code'; place = x.place; cursor = x.cursor; notes = chain (reverse (take x.log l.log)) x.head; pending = pending_of (take x.pending l.pending) } } ∷ bs in all) (code_is l xs x code h here),
    )

-- the choices that are left of the k oldest
oldest_choices : (k : ℕ) (xs : List Choice) → reverse (take k xs) ≡ drop (length xs - k) (reverse xs)
oldest_choices k xs =
    let n : length (reverse (drop k xs)) ≡ length xs - k = length-reverse (drop k xs) ∙ length-drop k xs in
    sym (drop-append_seam (reverse (drop k xs)) (reverse (take k xs)))
    ∙ ap (λ m. drop m (reverse (drop k xs) ++ reverse (take k xs))) n
    ∙ ap (drop (length xs - k)) (sym (reverse-append (take k xs) (drop k xs)) ∙ ap reverse (take-append-drop k xs))

pub oldest_marks : (k : ℕ) (l : Logs) (xs : List Choice) → Marks l (reverse xs) → Marks l (reverse (take k xs))
oldest_marks k l xs m = subst (Marks l) (sym (oldest_choices k xs)) (older_marks (length xs - k) l (reverse xs) m)

pub oldest_backs : (k : ℕ) (l : Logs) (xs : List Choice) → Marks l (reverse xs) → backs l (reverse (take k xs)) ≡ oldest k (backs l (reverse xs))
oldest_backs k l xs m =
    ap (backs l) (oldest_choices k xs) ∙ older_backs (length xs - k) l (reverse xs) m
    ∙ ap (λ n. drop (n - k) (backs l (reverse xs))) (sym (count_choices l xs))
