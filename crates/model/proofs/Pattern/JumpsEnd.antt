-- In code that stands for a pattern a JMP leads to no JMP but one that leads back, and that one leads to a SPLIT.
use Rattle.std.proofs.Common.{◌≡◌, ℕ, ℤ, zero, suc, ◌+◌, [], ◌∷◌, ◌++◌, length, refl, sym, ◌∙◌, ap, subst, arith, ◌≤◌, ◌<◌, ◌⊎◌, inl, inr, Option, Some, None, length-append}
use Rattle.std.specs.Prelude.{slice_get, pos, negsuc}
use Rattle.std.proofs.lemmas.Option.{slice_get_past}
use Rattle.model.specs.Pattern.Patterns.{Lit, Pat, Plain, Succeed, Abort, Fence, Cat, Alt, Arbno, FenceOf, Cond, Imm, At, Defer, DeferBasic, Instr, Split, Jmp, Open, OpenFence, CloseFence, Close, Say}
use Rattle.model.specs.Pattern.Steps.{Code, at_distance, past_jump, on_after}
use Rattle.model.specs.Pattern.Stands.{Stands}
use Rattle.model.specs.Pattern.Code.{led_past, exit_past, exits_past, alt_code, arbno_code}
use Rattle.model.specs.Deck.Trees.{Expr}
use Rattle.model.proofs.Pattern.Exits.{led_here, Within, exits_none, exits_length, exits_before, exits_last, exits_twice}
use Rattle.model.proofs.Pattern.StandsAt.{HasAt, has_front, has_back, has_all, stands_within, none_or_some, null_code, behind, alt_length}

abbrev pub NotForward : Option Instr → Type 0
NotForward (Some (Jmp (pos d))) = ⊥
NotForward _ = Unit {0}

abbrev pub NotJump : Option Instr → Type 0
NotJump (Some (Jmp d)) = ⊥
NotJump _ = Unit {0}

abbrev pub IsSplit : Option Instr → Type 0
IsSplit (Some (Split d)) = Unit {0}
IsSplit _ = ⊥

-- where a JMP at p leads
abbrev pub Lands : Code → ℕ → ℤ → Type 0
Lands code p (pos d) = NotForward (slice_get code (at_distance code p (pos d)))
Lands code p (negsuc d) = IsSplit (slice_get code (at_distance code p (negsuc d)))

abbrev pub FineAt : Code → ℕ → Type 0
FineAt code p = (d : ℤ) → slice_get code p ≡ Some (Jmp d) → Lands code p d

abbrev pub Fine : Code → Type 0
Fine code = (p : ℕ) → FineAt code p

plain_fine : (code : Code) (p : ℕ) (i : Instr) → slice_get code p ≡ Some i → NotJump (Some i) → FineAt code p
plain_fine code p i e n d g = absurd (subst NotJump (sym e ∙ g) n)

jump_fine : (code : Code) (p : ℕ) (c : ℤ) → slice_get code p ≡ Some (Jmp c) → Lands code p c → FineAt code p
jump_fine code p c e h d g = let q : c ≡ d = cc in subst (Lands code p) q h

-- all places from o on, n of them
abbrev Spans : Code → ℕ → ℕ → Type 0
Spans code o n = (p : ℕ) → o ≤ p → p < o + n → FineAt code p

pub below_or : (m n : ℕ) → (m < n) ⊎ (n ≤ m)
below_or m zero = inr (omega arith)
below_or zero (suc n) = inl (omega arith)
below_or (suc m) (suc n) = go (below_or m n)
  where
    go : (m < n) ⊎ (n ≤ m) → (suc m < suc n) ⊎ (suc n ≤ suc m)
    go (inl h) = inl (omega arith)
    go (inr h) = inr (omega arith)

spans_one : (code : Code) (o : ℕ) → FineAt code o → Spans code o 1
spans_one code o f p le lt = let e : o ≡ p = omega arith in subst (FineAt code) e f

spans_append : (code : Code) (o n m : ℕ) → Spans code o n → Spans code (o + n) m → Spans code o (n + m)
spans_append code o n m f g p le lt = go (below_or p (o + n))
  where
    go : (p < o + n) ⊎ (o + n ≤ p) → FineAt code p
    go (inl h) = f p le h
    go (inr h) = g p h (omega arith)

spans_as : (code : Code) (o n m : ℕ) → n ≡ m → Spans code o n → Spans code o m
spans_as code o n m e f p le lt = f p le (omega arith)

spans_at : (code : Code) (o o' n : ℕ) → o ≡ o' → Spans code o n → Spans code o' n
spans_at code o o' n e f p le lt = f p (omega arith) (omega arith)

-- where its ways out lead to no JMP that leads on, each JMP of it is fine
abbrev FineIn : Code → Code → Type 0
FineIn code cq = (k o : ℕ) → HasAt code o (exits_past k cq) → o + length cq + k ≤ length code → NotForward (slice_get code (o + length cq + k)) → Spans code o (length cq)

-- its first instruction is no JMP
abbrev NoJump : Instr → Type 0
NoJump (Jmp d) = ⊥
NoJump _ = Unit {0}

abbrev Calm : Code → Type 0
Calm [] = Unit {0}
Calm (i ∷ is) = NoJump i

calm_append : (a b : Code) → Calm a → Calm b → Calm (a ++ b)
calm_append [] b f g = g
calm_append (i ∷ a) b f g = f

stands_calm : (xs : ℕ → Option Expr) (q : Pat) (cq : Code) → Stands xs q cq → Calm cq
stands_calm xs (Plain (Lit [])) cq st = subst Calm (sym st) tt
stands_calm xs (Plain (Lit (b ∷ w))) cq st = subst Calm (sym st) tt
stands_calm xs (Plain k) cq st = subst Calm (sym st) tt
stands_calm xs Succeed cq st = subst Calm (sym st) tt
stands_calm xs Abort cq st = subst Calm (sym st) tt
stands_calm xs Fence cq st = subst Calm (sym st) tt
stands_calm xs (Cat q r) cq (ca, cb, sa, sb, e) = subst Calm (sym e) (calm_append ca cb (stands_calm xs q ca sa) (stands_calm xs r cb sb))
stands_calm xs (Alt q r) cq (ca, cb, sa, sb, e) = subst Calm (sym e) tt
stands_calm xs (Arbno q) cq (ca, sa, e) = subst Calm (sym e) tt
stands_calm xs (FenceOf q) cq (ca, sa, e) = subst Calm (sym e) tt
stands_calm xs (Cond q n) cq (ca, sa, e) = subst Calm (sym e) tt
stands_calm xs (Imm q n) cq (ca, sa, e) = subst Calm (sym e) tt
stands_calm xs (At n) cq st = subst Calm (sym st) tt
stands_calm xs (Defer e) cq (k, ek, st) = subst Calm (sym st) tt
stands_calm xs (DeferBasic j e) cq (k, ek, st) = subst Calm (sym st) tt

head_here : (code : Code) (p k n : ℕ) (i : Instr) → NoJump i → slice_get code p ≡ Some (exit_past k n i) → NotForward (slice_get code p)
head_here code p k n (Jmp d) c e = absurd c
head_here code p k n (Split (pos d)) c e = subst NotForward (sym e) tt
head_here code p k n (Split (negsuc d)) c e = subst NotForward (sym e) tt
head_here code p k n i c e = subst NotForward (sym e) tt

calm_head : (code : Code) (p k : ℕ) (cb : Code) → Calm cb → 0 < length cb → HasAt code p (exits_past k cb) → NotForward (slice_get code p)
calm_head code p k [] c z h = absurd (omega arith)
calm_head code p k (i ∷ is) c z h = head_here code p k (length (i ∷ is)) i c h.0

-- the same where the ways out lead to its end
plainly : (code cq : Code) (o : ℕ) → FineIn code cq → HasAt code o cq → o + length cq ≤ length code → NotForward (slice_get code (o + length cq)) → Spans code o (length cq)
plainly code cq o f h le n =
    let e : o + length cq ≡ o + length cq + 0 = omega arith in
    f 0 o (subst (HasAt code o) (sym (exits_none cq)) h) (omega (arith, le)) (subst (λ y. NotForward (slice_get code y)) e n)

cat_in : (code ca cb cq : Code) → Within 0 ca → Calm cb → FineIn code ca → FineIn code cb → cq ≡ ca ++ cb → FineIn code cq
cat_in code ca cb cq wa cal fa fb e k o h le f = go (none_or_some (length cb))
  where
    n : length cq ≡ length ca + length cb
    n = ap length e ∙ length-append ca cb

    placed : HasAt code o (exits_past k (ca ++ cb))
    placed = subst (λ z. HasAt code o (exits_past k z)) e h

    go : (length cb ≡ 0) ⊎ (0 < length cb) → Spans code o (length cq)
    go (inl z) =
        let m : length ca ≡ length cq = omega (arith, n, z) in
        let end : o + length cq + k ≡ o + length ca + k = omega (arith, m) in
        spans_as code o (length ca) (length cq) m
        (fa k o (subst (HasAt code o) (exits_last k ca cb (null_code cb z)) placed) (omega (arith, m, le)) (subst (λ y. NotForward (slice_get code y)) end f))
    go (inr z) =
        let b = subst (HasAt code o) (exits_before k ca cb wa z) placed in
        let back = has_back code o ca (exits_past k cb) b in
        let end : o + length cq + k ≡ o + length ca + length cb + k = omega (arith, n) in
        spans_as code o (length ca + length cb) (length cq) (sym n)
        (spans_append code o (length ca) (length cb)
        (plainly code ca o fa (has_front code o ca (exits_past k cb) b) (omega (arith, n, le)) (calm_head code (o + length ca) k cb cal z back))
        (fb k (o + length ca) back (omega (arith, n, le)) (subst (λ y. NotForward (slice_get code y)) end f)))

alt_in : (code ca cb cq : Code) → Within 0 ca → FineIn code ca → FineIn code cb → cq ≡ alt_code ca cb → FineIn code cq
alt_in code ca cb cq wa fa fb e k o h le f =
    let out : Code = exits_past (length cb + 1 + k) ca in
    let n : length cq ≡ length ca + 2 + length cb = ap length e ∙ alt_length ca cb in
    let m : length out ≡ length ca = exits_length (length cb + 1 + k) ca in
    let placed = subst (λ z. HasAt code o (exits_past k z)) e h in
    let b = subst (HasAt code (o + 1)) (exits_twice k (length cb + 1) ca (behind cb) wa (omega arith) (omega arith)) placed.1 in
    let seam : o + 1 + length out ≡ o + 1 + length ca = omega (arith, m) in
    let back = subst (λ z. HasAt code z (exits_past k (behind cb))) seam (has_back code (o + 1) out (exits_past k (behind cb)) b) in
    let over : ℕ = led_past k (length (behind cb)) (length cb + 1) in
    let is : over ≡ length cb + 1 + k = led_here k (length (behind cb)) (length cb + 1) (omega arith) in
    let there : o + length cq + k ≡ at_distance code (o + 1 + length ca) (pos over) = omega (arith, n, is, le) in
    let first : o + length cq + k ≡ o + 1 + length ca + (length cb + 1 + k) = omega (arith, n) in
    let last : o + length cq + k ≡ o + 1 + length ca + 1 + length cb + k = omega (arith, n) in
    let size : 1 + (length ca + (1 + length cb)) ≡ length cq = omega (arith, n) in
    spans_as code o (1 + (length ca + (1 + length cb))) (length cq) size
    (spans_append code o 1 (length ca + (1 + length cb)) (spans_one code o (plain_fine code o (Split (pos (led_past k (length (alt_code ca cb)) (length ca + 2)))) placed.0 tt))
    (spans_append code (o + 1) (length ca) (1 + length cb)
    (fa (length cb + 1 + k) (o + 1) (has_front code (o + 1) out (exits_past k (behind cb)) b) (omega (arith, n, le)) (subst (λ y. NotForward (slice_get code y)) first f))
    (spans_append code (o + 1 + length ca) 1 (length cb)
    (spans_one code (o + 1 + length ca) (jump_fine code (o + 1 + length ca) (pos over) back.0 (subst (λ y. NotForward (slice_get code y)) there f)))
    (fb k (o + 1 + length ca + 1) back.1 (omega (arith, n, le)) (subst (λ y. NotForward (slice_get code y)) last f)))))

arbno_in : (code ca cq : Code) → Within 0 ca → FineIn code ca → cq ≡ arbno_code ca → FineIn code cq
arbno_in code ca cq wa fa e k o h le f =
    let j : Code = Jmp (negsuc (length ca + 1)) ∷ [] in
    let l = length-append ca j in
    let n : length cq ≡ length ca + 3 = omega (arith, ap length e, l) in
    let placed = subst (λ z. HasAt code o (exits_past k z)) e h in
    let two = led_here k (length (Jmp (pos (length ca + 2)) ∷ (ca ++ j))) (length ca + 2) (omega (arith, l)) in
    let b = subst (HasAt code (o + 1 + 1)) (exits_before k ca j wa (omega arith)) placed.1.1 in
    let back = has_back code (o + 1 + 1) ca j b in
    let over : ℕ = led_past k (length (Jmp (pos (length ca + 2)) ∷ (ca ++ j))) (length ca + 2) in
    let there : o + length cq + k ≡ at_distance code (o + 1) (pos over) = omega (arith, n, two, le) in
    let again : o ≡ at_distance code (o + 1 + 1 + length ca) (negsuc (length ca + 1)) = omega (arith, n, le) in
    let size : 1 + (1 + (length ca + 1)) ≡ length cq = omega (arith, n) in
    spans_as code o (1 + (1 + (length ca + 1))) (length cq) size
    (spans_append code o 1 (1 + (length ca + 1)) (spans_one code o (plain_fine code o (Split (pos (led_past k (length (arbno_code ca)) 2))) placed.0 tt))
    (spans_append code (o + 1) 1 (length ca + 1) (spans_one code (o + 1) (jump_fine code (o + 1) (pos over) placed.1.0 (subst (λ y. NotForward (slice_get code y)) there f)))
    (spans_append code (o + 1 + 1) (length ca) 1
    (plainly code ca (o + 1 + 1) fa (has_front code (o + 1 + 1) ca j b) (omega (arith, n, le)) (subst NotForward (sym back.0) tt))
    (spans_one code (o + 1 + 1 + length ca) (jump_fine code (o + 1 + 1 + length ca) (negsuc (length ca + 1)) back.0
    (subst (λ y. IsSplit (slice_get code y)) again (subst IsSplit (sym placed.0) tt)))))))

-- p's code between OPEN and a last instruction
between_in : (code : Code) (i j : Instr) (ca cq : Code) → NoJump i → NoJump j → (k o : ℕ) → exit_past k (length (i ∷ (ca ++ j ∷ []))) i ≡ i → exit_past k 1 j ≡ j → NotJump (Some i) → NotJump (Some j) → NotForward (Some j) → Within 0 ca → FineIn code ca → cq ≡ i ∷ (ca ++ j ∷ []) → HasAt code o (exits_past k cq) → o + length cq + k ≤ length code → Spans code o (length cq)
between_in code i j ca cq ci cj k o hi hj ni nj fj wa fa e h le =
    let n : length cq ≡ length ca + 2 = omega (arith, ap length e, length-append ca (j ∷ [])) in
    let placed = subst (λ z. HasAt code o (exits_past k z)) e h in
    let b = subst (HasAt code (o + 1)) (exits_before k ca (j ∷ []) wa (omega arith)) placed.1 in
    let back = has_back code (o + 1) ca (exit_past k 1 j ∷ []) b in
    let last : slice_get code (o + 1 + length ca) ≡ Some j = back.0 ∙ ap Some hj in
    let size : 1 + (length ca + 1) ≡ length cq = omega (arith, n) in
    spans_as code o (1 + (length ca + 1)) (length cq) size
    (spans_append code o 1 (length ca + 1) (spans_one code o (plain_fine code o i (placed.0 ∙ ap Some hi) ni))
    (spans_append code (o + 1) (length ca) 1
    (plainly code ca (o + 1) fa (has_front code (o + 1) ca (exit_past k 1 j ∷ []) b) (omega (arith, n, le)) (subst NotForward (sym last) fj))
    (spans_one code (o + 1 + length ca) (plain_fine code (o + 1 + length ca) j last nj))))

one_in : (code cq : Code) (k : ℕ) (i : Instr) (o : ℕ) → cq ≡ i ∷ [] → exit_past k 1 i ≡ i → NotJump (Some i) → HasAt code o (exits_past k cq) → Spans code o (length cq)
one_in code cq k i o e same n h =
    let b = subst (λ z. HasAt code o (exits_past k z)) e h in
    spans_as code o 1 (length cq) (sym (ap length e)) (spans_one code o (plain_fine code o i (b.0 ∙ ap Some same) n))

none_in : (code cq : Code) (o : ℕ) → cq ≡ [] → Spans code o (length cq)
none_in code cq o e p le lt = absurd (omega (arith, ap length e))

fine_in : (xs : ℕ → Option Expr) (code : Code) (q : Pat) (cq : Code) → Stands xs q cq → FineIn code cq
fine_in xs code (Plain (Lit [])) cq st = λ k o h le f. none_in code cq o st
fine_in xs code (Plain (Lit (b ∷ w))) cq st = λ k o h le f. one_in code cq k (Rattle.model.specs.Pattern.Patterns.Do (Lit (b ∷ w))) o st refl tt h
fine_in xs code (Plain j) cq st = λ k o h le f. one_in code cq k (Rattle.model.specs.Pattern.Patterns.Do j) o st refl tt h
fine_in xs code Succeed cq st = λ k o h le f. one_in code cq k Rattle.model.specs.Pattern.Patterns.DoSucceed o st refl tt h
fine_in xs code Abort cq st = λ k o h le f. one_in code cq k Rattle.model.specs.Pattern.Patterns.DoAbort o st refl tt h
fine_in xs code Fence cq st = λ k o h le f. one_in code cq k Rattle.model.specs.Pattern.Patterns.DoFence o st refl tt h
fine_in xs code (Cat q r) cq (ca, cb, sa, sb, e) =
    cat_in code ca cb cq (stands_within xs q ca sa) (stands_calm xs r cb sb) (fine_in xs code q ca sa) (fine_in xs code r cb sb) e
fine_in xs code (Alt q r) cq (ca, cb, sa, sb, e) = alt_in code ca cb cq (stands_within xs q ca sa) (fine_in xs code q ca sa) (fine_in xs code r cb sb) e
fine_in xs code (Arbno q) cq (ca, sa, e) = arbno_in code ca cq (stands_within xs q ca sa) (fine_in xs code q ca sa) e
fine_in xs code (FenceOf q) cq (ca, sa, e) = λ k o h le f. between_in code OpenFence CloseFence ca cq tt tt k o refl refl tt tt tt (stands_within xs q ca sa) (fine_in xs code q ca sa) e h le
fine_in xs code (Cond q n) cq (ca, sa, e) = λ k o h le f. between_in code Open (Close n) ca cq tt tt k o refl refl tt tt tt (stands_within xs q ca sa) (fine_in xs code q ca sa) e h le
fine_in xs code (Imm q n) cq (ca, sa, e) = λ k o h le f. between_in code Open (Say n) ca cq tt tt k o refl refl tt tt tt (stands_within xs q ca sa) (fine_in xs code q ca sa) e h le
fine_in xs code (At n) cq st = λ k o h le f. one_in code cq k (Rattle.model.specs.Pattern.Patterns.AtCursor n) o st refl tt h
fine_in xs code (Defer e) cq (i, ek, st) = λ k o h le f. one_in code cq k (Rattle.model.specs.Pattern.Patterns.Eval i) o st refl tt h
fine_in xs code (DeferBasic j e) cq (i, ek, st) = λ k o h le f. one_in code cq k (Rattle.model.specs.Pattern.Patterns.EvalBasic j i) o st refl tt h

abbrev IsThere : Option Instr → Type 0
IsThere None = ⊥
IsThere (Some i) = Unit {0}

pub stands_fine : (xs : ℕ → Option Expr) (q : Pat) (code : Code) → Stands xs q code → Fine code
stands_fine xs q code st p = go (below_or p (length code))
  where
    all : Spans code 0 (length code)
    all = plainly code code 0 (fine_in xs code q code st) (has_all code []) (omega arith)
        (let e : length code ≡ 0 + length code = omega arith in subst (λ y. NotForward (slice_get code y)) e (subst NotForward (sym (slice_get_past code (length code) (omega arith))) tt))

    go : (p < length code) ⊎ (length code ≤ p) → FineAt code p
    go (inl h) = all p (omega arith) (omega arith)
    go (inr h) = λ d g. let e = slice_get_past code p h in absurd (subst IsThere (sym g ∙ e) tt)

-- where one goes on after an entered pattern no JMP leads on
pub after_fine : (code : Code) (p : ℕ) → Fine code → NotForward (slice_get code (on_after code p))
after_fine code p f = go (slice_get code p) refl
  where
    go : (o : Option Instr) → slice_get code p ≡ o → NotForward (slice_get code (past_jump code p o))
    go (Some (Jmp (pos d))) e = f p (pos d) e
    go (Some (Jmp (negsuc d))) e = split (slice_get code (at_distance code p (negsuc d))) (f p (negsuc d) e)
      where
        split : (o : Option Instr) → IsSplit o → NotForward o
        split (Some (Split c)) h = tt
        split (Some (Jmp c)) h = absurd h
        split None h = tt
        split (Some _) h = tt
    go None e = subst NotForward (sym e) tt
    go (Some i) e = subst NotForward (sym e) tt
