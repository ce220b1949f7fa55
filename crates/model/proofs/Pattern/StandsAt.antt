-- Code at a place, and what is still to match there.
use Rattle.std.proofs.Common.{◌≡◌, ℕ, ℤ, zero, suc, ◌+◌, List, [], ◌∷◌, ◌++◌, length, refl, sym, ◌∙◌, ap, subst, arith, ◌≤◌, ◌<◌, ◌⊎◌, inl, inr, Option, Some, None, append_assoc, length-append}
use Rattle.std.specs.Prelude.{slice_get, pos, negsuc}
use Rattle.std.proofs.Math.Seq.{get_or-append_seam}
use Rattle.std.proofs.lemmas.Option.{slice_get-get_or, slice_get_past}
use Rattle.model.specs.Pattern.Patterns.{Lit, Pat, Plain, Succeed, Abort, Fence, Cat, Alt, Arbno, FenceOf, Cond, Imm, At, Defer, DeferBasic, Instr, Do, Split, Jmp, DoSucceed, DoAbort, DoFence, Open, OpenFence, CloseFence, Close, Say, AtCursor, Eval, EvalBasic}
use Rattle.model.specs.Pattern.Search.{Goal, Part, Closing, Saying}
use Rattle.model.specs.Pattern.Steps.{Code, Note, Opened, Fenced, Left, at_distance, past_jump, on_after}
use Rattle.model.specs.Pattern.Stands.{Stands}
use Rattle.model.specs.Pattern.Code.{led_past, exit_past, exits_past, alt_code, arbno_code}
use Rattle.model.specs.Deck.Target.{Name}
use Rattle.model.specs.Deck.Trees.{Expr}
use Rattle.model.proofs.Pattern.Exits.{led_here, led_not, Within, exits_none, exits_length, exits_before, exits_last, exits_twice, within_append, within_exits}

-- from p to x by k jumps
abbrev pub Jumps : Code → ℕ → ℕ → ℕ → Type 0
Jumps code zero p x = p ≡ x
Jumps code (suc k) p x = (d : ℤ) × (slice_get code p ≡ Some (Jmp d)) × Jumps code k (at_distance code p d) x

abbrev pub Leads : Code → ℕ → ℕ → Type 0
Leads code p x = (k : ℕ) × Jumps code k p x

-- the code at p stands for the pattern, and each of its ends leads to x
abbrev pub StandsAt : (ℕ → Option Expr) → Code → Pat → ℕ → ℕ → Type 0
StandsAt xs code (Plain k) p x =
    ((k ≡ Lit []) × Leads code p x) ⊎ ((slice_get code p ≡ Some (Do k)) × Leads code (p + 1) x)
StandsAt xs code Succeed p x = (slice_get code p ≡ Some DoSucceed) × Leads code (p + 1) x
StandsAt xs code Abort p x = slice_get code p ≡ Some DoAbort
StandsAt xs code Fence p x = (slice_get code p ≡ Some DoFence) × Leads code (p + 1) x
StandsAt xs code (Cat q r) p x = (y : ℕ) × StandsAt xs code q p y × StandsAt xs code r y x
StandsAt xs code (Alt q r) p x =
    (d : ℤ) × (slice_get code p ≡ Some (Split d)) × StandsAt xs code q (p + 1) x × StandsAt xs code r (at_distance code p d) x
StandsAt xs code (Arbno q) p x =
    (d : ℤ) × (slice_get code p ≡ Some (Split d)) × Leads code (p + 1) x × StandsAt xs code q (at_distance code p d) p
StandsAt xs code (FenceOf q) p x =
    (slice_get code p ≡ Some OpenFence) × (y : ℕ) × StandsAt xs code q (p + 1) y × (slice_get code y ≡ Some CloseFence) × Leads code (y + 1) x
StandsAt xs code (Cond q n) p x =
    (slice_get code p ≡ Some Open) × (y : ℕ) × StandsAt xs code q (p + 1) y × (slice_get code y ≡ Some (Close n)) × Leads code (y + 1) x
StandsAt xs code (Imm q n) p x =
    (slice_get code p ≡ Some Open) × (y : ℕ) × StandsAt xs code q (p + 1) y × (slice_get code y ≡ Some (Say n)) × Leads code (y + 1) x
StandsAt xs code (At n) p x = (slice_get code p ≡ Some (AtCursor n)) × Leads code (p + 1) x
StandsAt xs code (Defer e) p x =
    (k : ℕ) × (xs k ≡ Some e) × (slice_get code p ≡ Some (Eval k)) × Leads code (p + 1) x
StandsAt xs code (DeferBasic j e) p x =
    (k : ℕ) × (xs k ≡ Some e) × (slice_get code p ≡ Some (EvalBasic j k)) × Leads code (p + 1) x

-- where the goals end: with the whole code, or at an FCLOSE of the code, with the number that its FOPEN noted
-- and the notes before it
pub data Ending : Type 0 where
  Whole : Ending
  InFence : ℕ → Code → ℕ → List Note → Ending

-- at p, with these notes, these goals are still to match
pub data RestAt (xs : ℕ → Option Expr) : Ending → Code → ℕ → List Note → List Goal → Type 0 where
  ended : {code : Code} {p : ℕ} → slice_get code p ≡ None → RestAt xs Whole code p [] []
  fence_ended : {code : Code} {p k : ℕ} {notes : List Note} → slice_get code p ≡ Some CloseFence → RestAt xs (InFence k code p notes) code p (Fenced k ∷ notes) []
  left : {en : Ending} {code code' : Code} {p p' : ℕ} {notes : List Note} {rest : List Goal} → slice_get code p ≡ None → RestAt xs en code' p' notes rest → RestAt xs en code p (Left code' p' ∷ notes) rest
  jump : {en : Ending} {code : Code} {p : ℕ} {notes : List Note} {rest : List Goal} {d : ℤ} → slice_get code p ≡ Some (Jmp d) → RestAt xs en code (at_distance code p d) notes rest → RestAt xs en code p notes rest
  part : {en : Ending} {code : Code} {p x : ℕ} {notes : List Note} {rest : List Goal} {q : Pat} → StandsAt xs code q p x → RestAt xs en code x notes rest → RestAt xs en code p notes (Part q ∷ rest)
  closing : {en : Ending} {code : Code} {p b : ℕ} {notes : List Note} {rest : List Goal} {n : Name} → slice_get code p ≡ Some (Close n) → RestAt xs en code (p + 1) notes rest → RestAt xs en code p (Opened b ∷ notes) (Closing n b ∷ rest)
  saying : {en : Ending} {code : Code} {p b : ℕ} {notes : List Note} {rest : List Goal} {n : Name} → slice_get code p ≡ Some (Say n) → RestAt xs en code (p + 1) notes rest → RestAt xs en code p (Opened b ∷ notes) (Saying n b ∷ rest)

pub jumps_rest : (xs : ℕ → Option Expr) {en : Ending} (code : Code) (notes : List Note) (rest : List Goal) (k p x : ℕ) → Jumps code k p x → RestAt xs en code x notes rest → RestAt xs en code p notes rest
jumps_rest xs {en = en} code notes rest zero p x h r = subst (λ y. RestAt xs en code y notes rest) (sym h) r
jumps_rest xs code notes rest (suc k) p x h r = jump h.1 (jumps_rest xs code notes rest k (at_distance code p h.0) x h.2 r)

-- the instructions stand in the code at this place
abbrev pub HasAt : Code → ℕ → Code → Type 0
HasAt code p [] = Unit {0}
HasAt code p (i ∷ is) = (slice_get code p ≡ Some i) × HasAt code (p + 1) is

pub has_front : (code : Code) (p : ℕ) (a b : Code) → HasAt code p (a ++ b) → HasAt code p a
has_front code p [] b h = tt
has_front code p (i ∷ a) b h = (h.0, has_front code (p + 1) a b h.1)

pub has_back : (code : Code) (p : ℕ) (a b : Code) → HasAt code p (a ++ b) → HasAt code (p + length a) b
has_back code p [] b h = let e : p ≡ p + 0 = omega arith in subst (λ n. HasAt code n b) e h
has_back code p (i ∷ a) b h =
    let e : p + 1 + length a ≡ p + length (i ∷ a) = omega arith in
    subst (λ n. HasAt code n b) e (has_back code (p + 1) a b h.1)

pub has_all : (is pre : Code) → HasAt (pre ++ is) (length pre) is
has_all [] pre = tt
has_all (i ∷ is) pre =
    let within : length pre < length (pre ++ i ∷ is) = omega (arith, length-append pre (i ∷ is)) in
    let here = slice_get-get_or (pre ++ i ∷ is) (length pre) i within ∙ ap Some (get_or-append_seam pre i is i) in
    let n : length (pre ++ i ∷ []) ≡ length pre + 1 = omega (arith, length-append pre (i ∷ [])) in
    let rest = has_all is (pre ++ i ∷ []) in
    let rest' = subst (λ l. HasAt l (length (pre ++ i ∷ [])) is) (append_assoc pre (i ∷ []) is) rest in
    (here, subst (λ m. HasAt (pre ++ i ∷ is) m is) n rest')

leads_on : (code : Code) (k p y x : ℕ) → Leads code y x → Jumps code k p y → Leads code p x
leads_on code zero p y x g h = subst (λ z. Leads code z x) (sym h) g
leads_on code (suc k) p y x g h = let r = leads_on code k (at_distance code p h.0) y x g h.2 in (suc r.0, (h.0, h.1, r.1))

-- what has no instruction stands wherever its end is led to
empty_stands : (xs : ℕ → Option Expr) (code : Code) (q : Pat) (cq : Code) (p x : ℕ) → Stands xs q cq → length cq ≡ 0 → Leads code p x → StandsAt xs code q p x
empty_stands xs code (Plain (Lit [])) cq p x st z g = inl (refl, g)
empty_stands xs code (Plain (Lit (b ∷ w))) cq p x st z g = absurd (omega (arith, ap length st, z))
empty_stands xs code (Plain k) cq p x st z g = absurd (omega (arith, ap length st, z))
empty_stands xs code Succeed cq p x st z g = absurd (omega (arith, ap length st, z))
empty_stands xs code Abort cq p x st z g = absurd (omega (arith, ap length st, z))
empty_stands xs code Fence cq p x st z g = absurd (omega (arith, ap length st, z))
empty_stands xs code (Cat q r) cq p x (ca, cb, sa, sb, e) z g =
    let n : length cq ≡ length ca + length cb = ap length e ∙ length-append ca cb in
    (x, empty_stands xs code q ca p x sa (omega (arith, n, z)) g, empty_stands xs code r cb x x sb (omega (arith, n, z)) (0, refl))
empty_stands xs code (Alt q r) cq p x (ca, cb, sa, sb, e) z g = absurd (omega (arith, ap length e, z))
empty_stands xs code (Arbno q) cq p x (ca, sa, e) z g = absurd (omega (arith, ap length e, z))
empty_stands xs code (FenceOf q) cq p x (ca, sa, e) z g = absurd (omega (arith, ap length e, z))
empty_stands xs code (Cond q n) cq p x (ca, sa, e) z g = absurd (omega (arith, ap length e, z))
empty_stands xs code (Imm q n) cq p x (ca, sa, e) z g = absurd (omega (arith, ap length e, z))
empty_stands xs code (At n) cq p x st z g = absurd (omega (arith, ap length st, z))
empty_stands xs code (Defer e) cq p x (k, ek, st) z g = absurd (omega (arith, ap length st, z))
empty_stands xs code (DeferBasic j e) cq p x (k, ek, st) z g = absurd (omega (arith, ap length st, z))

-- no distance of it leads past its end
pub stands_within : (xs : ℕ → Option Expr) (q : Pat) (cq : Code) → Stands xs q cq → Within 0 cq
stands_within xs (Plain (Lit [])) cq st = subst (Within 0) (sym st) tt
stands_within xs (Plain (Lit (b ∷ w))) cq st = subst (Within 0) (sym st) (tt, tt)
stands_within xs (Plain k) cq st = subst (Within 0) (sym st) (tt, tt)
stands_within xs Succeed cq st = subst (Within 0) (sym st) (tt, tt)
stands_within xs Abort cq st = subst (Within 0) (sym st) (tt, tt)
stands_within xs Fence cq st = subst (Within 0) (sym st) (tt, tt)
stands_within xs (Cat q r) cq (ca, cb, sa, sb, e) =
    subst (Within 0) (sym e) (within_append 0 0 ca cb (stands_within xs q ca sa) (omega arith) (stands_within xs r cb sb))
stands_within xs (Alt q r) cq (ca, cb, sa, sb, e) =
    let out : Code = exits_past (length cb + 1) ca in
    let j : Code = Jmp (pos (length cb + 1)) ∷ cb in
    subst (Within 0) (sym e) (
      omega (arith, length-append out j, exits_length (length cb + 1) ca),
      within_append 0 (length cb + 1) out j (within_exits (length cb + 1) ca (stands_within xs q ca sa)) (omega arith) (omega arith, stands_within xs r cb sb),
    )
stands_within xs (Arbno q) cq (ca, sa, e) =
    let j : Code = Jmp (negsuc (length ca + 1)) ∷ [] in
    let n = length-append ca j in
    subst (Within 0) (sym e) (omega (arith, n), (omega (arith, n), within_append 0 0 ca j (stands_within xs q ca sa) (omega arith) (tt, tt)))
stands_within xs (FenceOf q) cq (ca, sa, e) =
    subst (Within 0) (sym e) (tt, within_append 0 0 ca (CloseFence ∷ []) (stands_within xs q ca sa) (omega arith) (tt, tt))
stands_within xs (Cond q x) cq (ca, sa, e) =
    subst (Within 0) (sym e) (tt, within_append 0 0 ca (Close x ∷ []) (stands_within xs q ca sa) (omega arith) (tt, tt))
stands_within xs (Imm q x) cq (ca, sa, e) =
    subst (Within 0) (sym e) (tt, within_append 0 0 ca (Say x ∷ []) (stands_within xs q ca sa) (omega arith) (tt, tt))
stands_within xs (At n) cq st = subst (Within 0) (sym st) (tt, tt)
stands_within xs (Defer e) cq (k, ek, st) = subst (Within 0) (sym st) (tt, tt)
stands_within xs (DeferBasic j e) cq (k, ek, st) = subst (Within 0) (sym st) (tt, tt)

one : (code cq : Code) (k x : ℕ) (i : Instr) (p : ℕ) → cq ≡ i ∷ [] → exit_past k 1 i ≡ i → HasAt code p (exits_past k cq) → Leads code (p + length cq) x → (slice_get code p ≡ Some i) × Leads code (p + 1) x
one code cq k x i p e same h g =
    let b = subst (λ z. HasAt code p (exits_past k z)) e h in
    (b.0 ∙ ap Some same, subst (λ z. Leads code (p + z) x) (ap length e) g)

-- code that stands for q, with its ways out leading k further, where its end and that place both lead to x
abbrev Lasts : (ℕ → Option Expr) → Code → Pat → Code → Type 0
Lasts xs code q cq =
    (k p x : ℕ) → HasAt code p (exits_past k cq) → p + length cq + k ≤ length code → Leads code (p + length cq) x → Leads code (p + length cq + k) x → StandsAt xs code q p x

-- the same where the ways out lead to the end
plainly : (xs : ℕ → Option Expr) (code : Code) (q : Pat) (cq : Code) (p x : ℕ) → Lasts xs code q cq → HasAt code p cq → p + length cq ≤ length code → Leads code (p + length cq) x → StandsAt xs code q p x
plainly xs code q cq p x f h le g =
    f 0 p x (subst (HasAt code p) (sym (exits_none cq)) h) (omega (arith, le)) g (subst (λ y. Leads code y x) (omega arith) g)

pub none_or_some : (n : ℕ) → (n ≡ 0) ⊎ (0 < n)
none_or_some zero = inl refl
none_or_some (suc n) = inr (omega arith)

pub null_code : (c : Code) → length c ≡ 0 → c ≡ []
null_code [] z = refl
null_code (i ∷ is) z = absurd (omega (arith, z))

cat_at : (xs : ℕ → Option Expr) (code : Code) (q r : Pat) (ca cb cq : Code) → Within 0 ca → Stands xs r cb → Lasts xs code q ca → Lasts xs code r cb → cq ≡ ca ++ cb → Lasts xs code (Cat q r) cq
cat_at xs code q r ca cb cq wa sb fa fb e k p x h le g f = go (none_or_some (length cb))
  where
    n : length cq ≡ length ca + length cb
    n = ap length e ∙ length-append ca cb

    placed : HasAt code p (exits_past k (ca ++ cb))
    placed = subst (λ z. HasAt code p (exits_past k z)) e h

    go : (length cb ≡ 0) ⊎ (0 < length cb) → StandsAt xs code (Cat q r) p x
    go (inl z) =
        let m : p + length cq ≡ p + length ca = omega (arith, n, z) in (
          x,
          fa k p x (subst (HasAt code p) (exits_last k ca cb (null_code cb z)) placed) (omega (arith, m, le)) (subst (λ y. Leads code y x) m g) (subst (λ y. Leads code (y + k) x) m f),
          empty_stands xs code r cb x x sb z (0, refl),
        )
    go (inr z) =
        let b = subst (HasAt code p) (exits_before k ca cb wa z) placed in
        let m : p + length cq ≡ p + length ca + length cb = omega (arith, n) in (
          p + length ca,
          plainly xs code q ca p (p + length ca) fa (has_front code p ca (exits_past k cb) b) (omega (arith, m, le)) (0, refl),
          fb k (p + length ca) x (has_back code p ca (exits_past k cb) b) (omega (arith, m, le)) (subst (λ y. Leads code y x) m g) (subst (λ y. Leads code (y + k) x) m f),
        )

-- the JMP behind p's code, and q's code
abbrev pub behind : Code → Code
behind cb = Jmp (pos (length cb + 1)) ∷ cb

pub alt_length : (ca cb : Code) → length (alt_code ca cb) ≡ length ca + 2 + length cb
alt_length ca cb = omega (arith, length-append (exits_past (length cb + 1) ca) (behind cb), exits_length (length cb + 1) ca)

alt_at : (xs : ℕ → Option Expr) (code : Code) (q r : Pat) (ca cb cq : Code) → Within 0 ca → Stands xs r cb → Lasts xs code q ca → Lasts xs code r cb → cq ≡ alt_code ca cb → Lasts xs code (Alt q r) cq
alt_at xs code q r ca cb cq wa sb fa fb e k p x h le g f =
    let out : Code = exits_past (length cb + 1 + k) ca in
    let n : length cq ≡ length ca + 2 + length cb = ap length e ∙ alt_length ca cb in
    let m : length out ≡ length ca = exits_length (length cb + 1 + k) ca in
    let placed = subst (λ z. HasAt code p (exits_past k z)) e h in
    let b = subst (HasAt code (p + 1)) (exits_twice k (length cb + 1) ca (behind cb) wa (omega arith) (omega arith)) placed.1 in
    let seam : p + 1 + length out ≡ p + 1 + length ca = omega (arith, m) in
    let back = subst (λ z. HasAt code z (exits_past k (behind cb))) seam (has_back code (p + 1) out (exits_past k (behind cb)) b) in
    let over : ℕ = led_past k (length (behind cb)) (length cb + 1) in
    let is : over ≡ length cb + 1 + k = led_here k (length (behind cb)) (length cb + 1) (omega arith) in
    let there : p + length cq + k ≡ at_distance code (p + 1 + length ca) (pos over) = omega (arith, n, is, le) in
    let here : p + length cq + k ≡ p + 1 + length ca + (length cb + 1 + k) = omega (arith, n) in (
      pos (led_past k (length (alt_code ca cb)) (length ca + 2)),
      placed.0,
      fa (length cb + 1 + k) (p + 1) x (has_front code (p + 1) out (exits_past k (behind cb)) b) (omega (arith, n, le)) (suc f.0, (pos over, back.0, subst (λ y. Jumps code f.0 y x) there f.1)) (subst (λ y. Leads code y x) here f),
      second n back.1 (none_or_some (length cb)),
    )
  where
    second : length cq ≡ length ca + 2 + length cb → HasAt code (p + 1 + length ca + 1) (exits_past k cb) → (length cb ≡ 0) ⊎ (0 < length cb) → StandsAt xs code r (at_distance code p (pos (led_past k (length (alt_code ca cb)) (length ca + 2)))) x
    second n b (inl z) =
        let is = led_here k (length (alt_code ca cb)) (length ca + 2) (omega (arith, alt_length ca cb, z)) in
        let there : p + length cq + k ≡ at_distance code p (pos (led_past k (length (alt_code ca cb)) (length ca + 2))) = omega (arith, n, is, le, z) in
        empty_stands xs code r cb (at_distance code p (pos (led_past k (length (alt_code ca cb)) (length ca + 2)))) x sb z (subst (λ y. Leads code y x) there f)
    second n b (inr z) =
        let is = led_not k (length (alt_code ca cb)) (length ca + 2) (λ w. absurd (omega (arith, alt_length ca cb, z, w))) in
        let there : p + 1 + length ca + 1 ≡ at_distance code p (pos (led_past k (length (alt_code ca cb)) (length ca + 2))) = omega (arith, n, is, le) in
        let end : p + length cq ≡ p + 1 + length ca + 1 + length cb = omega (arith, n) in
        subst (λ y. StandsAt xs code r y x) there (fb k (p + 1 + length ca + 1) x b (omega (arith, n, le)) (subst (λ y. Leads code y x) end g) (subst (λ y. Leads code (y + k) x) end f))

arbno_at : (xs : ℕ → Option Expr) (code : Code) (q : Pat) (ca cq : Code) → Within 0 ca → Lasts xs code q ca → cq ≡ arbno_code ca → Lasts xs code (Arbno q) cq
arbno_at xs code q ca cq wa fa e k p x h le g f =
    let j : Code = Jmp (negsuc (length ca + 1)) ∷ [] in
    let l = length-append ca j in
    let n : length cq ≡ length ca + 3 = omega (arith, ap length e, l) in
    let placed = subst (λ z. HasAt code p (exits_past k z)) e h in
    let one = led_not k (length (arbno_code ca)) 2 (λ w. absurd (omega (arith, w, l))) in
    let two = led_here k (length (Jmp (pos (length ca + 2)) ∷ (ca ++ j))) (length ca + 2) (omega (arith, l)) in
    let b = subst (HasAt code (p + 1 + 1)) (exits_before k ca j wa (omega arith)) placed.1.1 in
    let back = has_back code (p + 1 + 1) ca j b in
    let over : ℕ = led_past k (length (Jmp (pos (length ca + 2)) ∷ (ca ++ j))) (length ca + 2) in
    let there : p + length cq + k ≡ at_distance code (p + 1) (pos over) = omega (arith, n, two, le) in
    let in_at : p + 1 + 1 ≡ at_distance code p (pos (led_past k (length (arbno_code ca)) 2)) = omega (arith, n, one, le) in
    let again : at_distance code (p + 1 + 1 + length ca) (negsuc (length ca + 1)) ≡ p = omega (arith, n, le) in (
      pos (led_past k (length (arbno_code ca)) 2),
      placed.0,
      (suc f.0, (pos over, placed.1.0, subst (λ y. Jumps code f.0 y x) there f.1)),
      subst (λ y. StandsAt xs code q y p) in_at (plainly xs code q ca (p + 1 + 1) p fa (has_front code (p + 1 + 1) ca j b) (omega (arith, n, le)) (1, (negsuc (length ca + 1), back.0, again))),
    )

-- p's code between OPEN and a last instruction
abbrev Between : (ℕ → Option Expr) → Code → Pat → (i j : Instr) → ℕ → ℕ → Type 0
Between xs code q i j p x =
    (slice_get code p ≡ Some i) × (y : ℕ) × StandsAt xs code q (p + 1) y × (slice_get code y ≡ Some j) × Leads code (y + 1) x

between_at : (xs : ℕ → Option Expr) (code : Code) (q : Pat) (i j : Instr) (ca cq : Code) → (k p x : ℕ) → exit_past k (length (i ∷ (ca ++ j ∷ []))) i ≡ i → exit_past k 1 j ≡ j → Within 0 ca → Lasts xs code q ca → cq ≡ i ∷ (ca ++ j ∷ []) → HasAt code p (exits_past k cq) → p + length cq + k ≤ length code → Leads code (p + length cq) x → Between xs code q i j p x
between_at xs code q i j ca cq k p x hi hj wa fa e h le g =
    let n : length cq ≡ length ca + 2 = omega (arith, ap length e, length-append ca (j ∷ [])) in
    let placed = subst (λ z. HasAt code p (exits_past k z)) e h in
    let b = subst (HasAt code (p + 1)) (exits_before k ca (j ∷ []) wa (omega arith)) placed.1 in
    let back = has_back code (p + 1) ca (exit_past k 1 j ∷ []) b in
    let end : p + length cq ≡ p + 1 + length ca + 1 = omega (arith, n) in (
      placed.0 ∙ ap Some hi,
      p + 1 + length ca,
      plainly xs code q ca (p + 1) (p + 1 + length ca) fa (has_front code (p + 1) ca (exit_past k 1 j ∷ []) b) (omega (arith, n, le)) (0, refl),
      back.0 ∙ ap Some hj,
      subst (λ y. Leads code y x) end g,
    )

pub stands_at : (xs : ℕ → Option Expr) (code : Code) (q : Pat) (cq : Code) → Stands xs q cq → Lasts xs code q cq
stands_at xs code (Plain (Lit [])) cq st = λ k p x h le g f. inl (refl, subst (λ z. Leads code z x) (omega (arith, ap length st)) g)
stands_at xs code (Plain (Lit (b ∷ w))) cq st = λ k p x h le g f. inr (one code cq k x (Do (Lit (b ∷ w))) p st refl h g)
stands_at xs code (Plain j) cq st = λ k p x h le g f. inr (one code cq k x (Do j) p st refl h g)
stands_at xs code Succeed cq st = λ k p x h le g f. one code cq k x DoSucceed p st refl h g
stands_at xs code Abort cq st = λ k p x h le g f. (one code cq k x DoAbort p st refl h g).0
stands_at xs code Fence cq st = λ k p x h le g f. one code cq k x DoFence p st refl h g
stands_at xs code (Cat q r) cq (ca, cb, sa, sb, e) =
    cat_at xs code q r ca cb cq (stands_within xs q ca sa) sb (stands_at xs code q ca sa) (stands_at xs code r cb sb) e
stands_at xs code (Alt q r) cq (ca, cb, sa, sb, e) =
    alt_at xs code q r ca cb cq (stands_within xs q ca sa) sb (stands_at xs code q ca sa) (stands_at xs code r cb sb) e
stands_at xs code (Arbno q) cq (ca, sa, e) = arbno_at xs code q ca cq (stands_within xs q ca sa) (stands_at xs code q ca sa) e
stands_at xs code (FenceOf q) cq (ca, sa, e) = λ k p x h le g f.
    between_at xs code q OpenFence CloseFence ca cq k p x refl refl (stands_within xs q ca sa) (stands_at xs code q ca sa) e h le g
stands_at xs code (Cond q n) cq (ca, sa, e) = λ k p x h le g f.
    between_at xs code q Open (Close n) ca cq k p x refl refl (stands_within xs q ca sa) (stands_at xs code q ca sa) e h le g
stands_at xs code (Imm q n) cq (ca, sa, e) = λ k p x h le g f.
    between_at xs code q Open (Say n) ca cq k p x refl refl (stands_within xs q ca sa) (stands_at xs code q ca sa) e h le g
stands_at xs code (At n) cq st = λ k p x h le g f. one code cq k x (AtCursor n) p st refl h g
stands_at xs code (Defer e) cq (i, ek, st) = λ k p x h le g f. let o = one code cq k x (Eval i) p st refl h g in (i, ek, o.0, o.1)
stands_at xs code (DeferBasic j e) cq (i, ek, st) = λ k p x h le g f. let o = one code cq k x (EvalBasic j i) p st refl h g in (i, ek, o.0, o.1)

-- code by itself
pub stands_alone : (xs : ℕ → Option Expr) (code : Code) (q : Pat) → Stands xs q code → StandsAt xs code q 0 (length code)
stands_alone xs code q st =
    plainly xs code q code 0 (length code) (stands_at xs code q code st) (has_all code []) (omega arith) (0, omega arith)

pub past_end : (code : Code) → slice_get code (length code) ≡ None
past_end code = slice_get_past code (length code) (omega arith)

-- where a JMP stands and what is to match is not there, it stands where the JMP leads
IsJump : Option Instr → Type 0
IsJump None = ⊥
IsJump (Some (Jmp d)) = Unit {0}
IsJump (Some _) = ⊥

dist_of : Option Instr → ℤ
dist_of (Some (Jmp d)) = d
dist_of _ = pos 0

two_of : {i j : Option Instr} {A : Type 0} → i ≡ j → IsJump j → (IsJump i → ⊥) → A
two_of e h n = absurd (n (subst IsJump (sym e) h))

jump_is : (code : Code) (p : ℕ) (d : ℤ) → slice_get code p ≡ Some (Jmp d) → IsJump (slice_get code p)
unfolding IsJump
jump_is code p d e = subst IsJump (sym e) tt

no_jump : {A : Type 0} (code : Code) (p : ℕ) (d : ℤ) (o : Option Instr) → slice_get code p ≡ Some (Jmp d) → slice_get code p ≡ o → (IsJump o → ⊥) → A
no_jump code p d o e g n = absurd (n (subst IsJump g (jump_is code p d e)))

same_jump : (code : Code) (p : ℕ) (d c : ℤ) → slice_get code p ≡ Some (Jmp d) → slice_get code p ≡ Some (Jmp c) → c ≡ d
unfolding dist_of
same_jump code p d c e g = ap dist_of (sym g ∙ e)

-- from p, where a JMP stands, to x: by that JMP first, or x is p
abbrev Skips : (code : Code) (p x : ℕ) (d : ℤ) → Type 0
Skips code p x d = Leads code (at_distance code p d) x ⊎ (p ≡ x)

leads_skip : (code : Code) (p x : ℕ) (d : ℤ) → slice_get code p ≡ Some (Jmp d) → Leads code p x → Skips code p x d
leads_skip code p x d e (zero, h) = inr h
leads_skip code p x d e (suc k, (c, g, h)) =
    inl (k, subst (λ z. Jumps code k (at_distance code p z) x) (same_jump code p d c e g) h)

part_skip : (xs : ℕ → Option Expr) (code : Code) (q : Pat) (p x : ℕ) (d : ℤ) → slice_get code p ≡ Some (Jmp d) → StandsAt xs code q p x → StandsAt xs code q (at_distance code p d) x ⊎ ((p ≡ x) × ((y : ℕ) → StandsAt xs code q y y))
unfolding IsJump
part_skip xs code (Plain k) p x d e (inl (n, l)) = go (leads_skip code p x d e l)
  where
    go : Skips code p x d → StandsAt xs code (Plain k) (at_distance code p d) x ⊎ ((p ≡ x) × ((y : ℕ) → StandsAt xs code (Plain k) y y))
    go (inl m) = inl (inl (n, m))
    go (inr q) = inr (q, (λ y. inl (n, (0, refl))))
part_skip xs code (Plain k) p x d e (inr (g, l)) = no_jump code p d (Some (Do k)) e g (λ z. z)
part_skip xs code Succeed p x d e (g, l) = no_jump code p d (Some DoSucceed) e g (λ z. z)
part_skip xs code Abort p x d e g = no_jump code p d (Some DoAbort) e g (λ z. z)
part_skip xs code Fence p x d e (g, l) = no_jump code p d (Some DoFence) e g (λ z. z)
part_skip xs code (Cat q r) p x d e (y, h, k) = go (λ z. part_skip xs code r p x d e z) (part_skip xs code q p y d e h)
  where
    next : p ≡ y → ((z : ℕ) → StandsAt xs code q z z) → StandsAt xs code r (at_distance code p d) x ⊎ ((p ≡ x) × ((y : ℕ) → StandsAt xs code r y y)) → StandsAt xs code (Cat q r) (at_distance code p d) x ⊎ ((p ≡ x) × ((y : ℕ) → StandsAt xs code (Cat q r) y y))
    next s all (inl m) = inl (at_distance code p d, all (at_distance code p d), m)
    next s all (inr (t, more)) = inr (t, (λ z. (z, all z, more z)))

    go : (StandsAt xs code r p x → StandsAt xs code r (at_distance code p d) x ⊎ ((p ≡ x) × ((y : ℕ) → StandsAt xs code r y y))) → StandsAt xs code q (at_distance code p d) y ⊎ ((p ≡ y) × ((z : ℕ) → StandsAt xs code q z z)) → StandsAt xs code (Cat q r) (at_distance code p d) x ⊎ ((p ≡ x) × ((y : ℕ) → StandsAt xs code (Cat q r) y y))
    go f (inl m) = inl (y, m, k)
    go f (inr (s, all)) = next s all (f (subst (λ z. StandsAt xs code r z x) (sym s) k))
part_skip xs code (Alt q r) p x d e (c, g, h, k) = no_jump code p d (Some (Split c)) e g (λ z. z)
part_skip xs code (Arbno q) p x d e (c, g, l, h) = no_jump code p d (Some (Split c)) e g (λ z. z)
part_skip xs code (FenceOf q) p x d e (g, y, h, k, l) = no_jump code p d (Some OpenFence) e g (λ z. z)
part_skip xs code (Cond q n) p x d e (g, y, h, k, l) = no_jump code p d (Some Open) e g (λ z. z)
part_skip xs code (Imm q n) p x d e (g, y, h, k, l) = no_jump code p d (Some Open) e g (λ z. z)
part_skip xs code (At n) p x d e (g, h) = no_jump code p d (Some (AtCursor n)) e g (λ z. z)
part_skip xs code (Defer y) p x d e (k, ek, g, h) = no_jump code p d (Some (Eval k)) e g (λ z. z)
part_skip xs code (DeferBasic j y) p x d e (k, ek, g, h) = no_jump code p d (Some (EvalBasic j k)) e g (λ z. z)

rest_skip : (xs : ℕ → Option Expr) {en : Ending} (code : Code) (p : ℕ) (notes : List Note) (rest : List Goal) (d : ℤ) → slice_get code p ≡ Some (Jmp d) → RestAt xs en code p notes rest → RestAt xs en code (at_distance code p d) notes rest
unfolding IsJump
rest_skip xs code p notes rest d e (ended g) = no_jump code p d None e g (λ z. z)
rest_skip xs code p notes rest d e (fence_ended g) = no_jump code p d (Some CloseFence) e g (λ z. z)
rest_skip xs code p notes rest d e (left g r) = no_jump code p d None e g (λ z. z)
rest_skip xs {en = en} code p notes rest d e (jump {d = c} g r) = subst (λ z. RestAt xs en code (at_distance code p z) notes rest) (same_jump code p d c e g) r
rest_skip xs {en = en} code p notes goals d e (part {x = x} {rest = rest} {q = q} st r) = go (λ s. rest_skip xs code x notes rest d (subst (λ z. slice_get code z ≡ Some (Jmp d)) s e) r) (part_skip xs code q p x d e st)
  where
    go : (p ≡ x → RestAt xs en code (at_distance code x d) notes rest) → StandsAt xs code q (at_distance code p d) x ⊎ ((p ≡ x) × ((y : ℕ) → StandsAt xs code q y y)) → RestAt xs en code (at_distance code p d) notes (Part q ∷ rest)
    go f (inl m) = part m r
    go f (inr (s, all)) = part (all (at_distance code p d)) (subst (λ z. RestAt xs en code (at_distance code z d) notes rest) (sym s) (f s))
rest_skip xs code p notes goals d e (closing {n = n} g r) = no_jump code p d (Some (Close n)) e g (λ z. z)
rest_skip xs code p notes goals d e (saying {n = n} g r) = no_jump code p d (Some (Say n)) e g (λ z. z)

pub rest_after : (xs : ℕ → Option Expr) {en : Ending} (code : Code) (p : ℕ) (notes : List Note) (rest : List Goal) → RestAt xs en code p notes rest → RestAt xs en code (on_after code p) notes rest
rest_after xs {en = en} code p notes rest r = go (slice_get code p) refl
  where
    go : (o : Option Instr) → slice_get code p ≡ o → RestAt xs en code (past_jump code p o) notes rest
    go (Some (Jmp d)) e = rest_skip xs code p notes rest d e r
    go None e = r
    go (Some _) e = r
