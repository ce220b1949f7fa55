-- The worked cases of flow: where all that is known of a module's offsets is kept by each instruction, nothing breaks the flow.
use Rattle.std.proofs.Common.{◌≡◌, ℕ, zero, suc, ◌+◌, ◌<◌, List, [], ◌∷◌, length, refl, sym, ap, ◌∙◌, subst, arith, ◌⊎◌, inl, inr, Option, Some, None, true, false, ◌==◌, if◌then◌else◌}
use Rattle.std.specs.List.{Contains}
use Rattle.model.specs.declared.image.Image.{Image}
use Rattle.model.specs.declared.instr.Instr.{Instr}
use Rattle.model.specs.declared.instr.Instr.TheVariants as op
use Rattle.model.specs.Machine.Steps.{OnBegin, OnTry, At}
use Rattle.model.specs.Module.Images.{instr_size, fetch_from}
use Rattle.model.specs.Module.Flow.{Shape, shape, V, N, R, InBody, InGoto, InEvaluation, bare, asked, Asks, leads, Begins, Reach, BreaksFlow, IsLeast}
use Rattle.model.specs.Rows.Flow.{joined, fetched_under_try, joined_under_try, body_under_try, name_for_value, value_in_goto, goto_in_body, operand_left, FlowRows}

module _ (im : Image) (known : ℕ → Option Shape) where
  abbrev Led : List (ℕ × Shape) → Type 0
  Led [] = Unit {0}
  Led (l ∷ ls) = (known l.0 ≡ Some l.1) × Led ls

  -- an instruction that is reached has what it asks, and leads to what is known
  abbrev Kept : ℕ → ℕ → Instr → Option Shape → Type 0
  Kept at next i None = Unit {0}
  Kept at next i (Some s) = Asks i s × Led (leads im i at next s)

  abbrev AllKept : ℕ → List Instr → Type 0
  AllKept at [] = Unit {0}
  AllKept at (i ∷ is) = Kept at (at + instr_size i) i (known at) × AllKept (at + instr_size i) is

  kept_here : (at next : ℕ) (i : Instr) (o : ℕ) (j : Instr) → o ≡ at → At j (o + instr_size j) ≡ At i next → Kept o (o + instr_size j) j (known o) → Kept at next i (known at)
  kept_here at next i o j same e k =
      let instr : j ≡ i = cc in
      let after : o + instr_size j ≡ next = cc in
      subst (λ a. Kept a next i (known a)) same (subst (λ n. Kept o n i (known o)) after (subst (λ y. Kept o (o + instr_size j) y (known o)) instr k))

  kept_at : (o : ℕ) (is : List Instr) → AllKept o is → (at : ℕ) (i : Instr) (next : ℕ) → fetch_from o is at ≡ At i next → Kept at next i (known at)
  kept_at o [] k at i next e = absurd (cc)
  kept_at o (j ∷ is) k at i next e = elim (o == at) as (λ b. (o == at) ≡ b → (if b then At j (o + instr_size j) else fetch_from (o + instr_size j) is at) ≡ At i next → Kept at next i (known at)) [
    | true ↦ λ h f. kept_here at next i o j (grind (arith, h)) f k.0
    | false ↦ λ h f. kept_at (o + instr_size j) is k.1 at i next f
  ] refl e

  led_to : (ls : List (ℕ × Shape)) → Led ls → (at : ℕ) (s : Shape) → Contains ls (at, s) → known at ≡ Some s
  led_to [] l at s (k, lt, e) = absurd (omega (arith, lt))
  led_to (x ∷ ls) l at s (zero, lt, e) = subst (λ (y : ℕ × Shape). known y.0 ≡ Some y.1) e l.0
  led_to (x ∷ ls) l at s (suc k, lt, e) = led_to ls l.1 at s (k, omega (arith, lt), e)

  module _ (begun : (at : ℕ) (s : Shape) → Begins im at s → known at ≡ Some s) (kept : AllKept 0 im.code) where
    reached : (n at : ℕ) (s : Shape) → Reach im n at s → known at ≡ Some s
    reached zero at s b = begun at s b
    reached (suc n) at s (before, next, s', i, r, f, a, c) =
        let k : Kept before next i (Some s') = subst (Kept before next i) (reached n before s' r) (kept_at 0 im.code kept before i next f) in
        led_to (leads im i before next s') k.1 at s c

    unbroken : IsLeast (BreaksFlow im) None
    unbroken at (i, next, f, inl (s, (n, r), lacks)) =
        let k : Kept at next i (Some s) = subst (Kept at next i) (reached n at s r) (kept_at 0 im.code kept at i next f) in
        lacks k.0
    unbroken at (i, next, f, inr (s, t, (n, r), (m, q), differ)) =
        let e : Some s ≡ Some t = sym (reached n at s r) ∙ reached m at t q in
        differ (cc)

-- ---- the module whose ways join

abbrev joined_known : ℕ → Option Shape
joined_known at =
    if at == 0 then Some bare
    else (if at == 5 then Some (shape InBody [] (OnBegin 23 ∷ []))
    else (if at == 10 then Some (shape InBody (N ∷ []) (OnBegin 23 ∷ []))
    else (if at == 15 then Some (shape InBody (N ∷ []) (OnTry 16 1 ∷ OnBegin 23 ∷ []))
    else (if at == 16 then Some (shape InBody (N ∷ []) (OnBegin 23 ∷ []))
    else (if at == 17 then Some (shape InBody (V ∷ N ∷ []) (OnBegin 23 ∷ []))
    else (if at == 18 then Some (shape InBody (V ∷ V ∷ N ∷ []) (OnBegin 23 ∷ []))
    else (if at == 19 then Some (shape InBody (R ∷ N ∷ []) (OnBegin 23 ∷ []))
    else (if at == 20 then Some (shape InBody (V ∷ R ∷ N ∷ []) (OnBegin 23 ∷ []))
    else (if at == 21 then Some (shape InBody [] (OnBegin 23 ∷ []))
    else (if at == 22 then Some bare
    else (if at == 23 then Some bare
    else (if at == 24 then Some asked
    else (if at == 25 then Some (shape InEvaluation (V ∷ []) [])
    else None)))))))))))))

at_one : {A : Type 0} (x y : A) → Contains (x ∷ []) y → x ≡ y
at_one x y (zero, lt, e) = e
at_one x y (suc k, lt, e) = absurd (omega (arith, lt))

at_two : {A : Type 0} (x z y : A) → Contains (x ∷ z ∷ []) y → (x ≡ y) ⊎ (z ≡ y)
at_two x z y (zero, lt, e) = inl e
at_two x z y (suc k, lt, e) = inr (at_one z y (k, omega (arith, lt), e))

joined_begun : (at : ℕ) (s : Shape) → Begins joined at s → joined_known at ≡ Some s
joined_begun at s (inl (c, e)) = elim (at_two 0 23 at c) [
  | inl z ↦ subst (λ a. joined_known a ≡ Some s) z (ap Some (sym e))
  | inr z ↦ subst (λ a. joined_known a ≡ Some s) z (ap Some (sym e))
]
joined_begun at s (inr (c, e)) = subst (λ a. joined_known a ≡ Some s) (at_one 24 at c) (ap Some (sym e))

-- of each instruction: what it asks, and the places that it leads to
joined_kept : AllKept joined joined_known 0 joined.code
joined_kept = (
  (refl, (refl, (refl, tt))),
  (
    (([], refl, omega arith), (refl, tt)),
    (
      ((N ∷ [], refl, omega arith), (refl, (refl, tt))),
      (
        (tt, (refl, tt)),
        (
          (([], refl, omega arith), (refl, tt)),
          (
            ((V ∷ N ∷ [], refl, omega arith), (refl, tt)),
            (
              (([], refl, omega arith), (refl, tt)),
              (
                ((R ∷ N ∷ [], refl, omega arith), (refl, tt)),
                (
                  (([], refl, omega arith), (refl, tt)),
                  (
                    ((23, refl), (refl, tt)),
                    (
                      (refl, tt),
                      (
                        (refl, tt),
                        (
                          (([], refl, omega arith), (refl, tt)),
                          (
                            (refl, tt),
                            tt,
                          ),
                        ),
                      ),
                    ),
                  ),
                ),
              ),
            ),
          ),
        ),
      ),
    ),
  ),
)

-- ---- modules that break it

-- the first statement is reached, and then its body
body : (im : Image) (end : ℕ) (more : List ℕ) → im.statements ≡ 0 ∷ more → fetch_from 0 im.code 0 ≡ At (op.Begin end) 5 → Reach im 1 5 (shape InBody [] (OnBegin end ∷ []))
body im end more e f = (0, 5, bare, op.Begin end, inl (subst (λ os. Contains os 0) (sym e) (0, omega arith, refl), refl), f, refl, (0, omega arith, refl))

fewer : (s t : Shape) → length t.handlers < length s.handlers → s ≡ t → ⊥
fewer s t lt e = let h : length s.handlers ≡ length t.handlers = ap (λ u. length u.handlers) e in omega (arith, lt, h)

-- ` A` and a TRY, and then what takes the name
named : Reach fetched_under_try 2 10 (shape InBody (N ∷ []) (OnBegin 22 ∷ []))
named = (5, 10, _, op.Var 0, body fetched_under_try 22 (22 ∷ []) refl refl, refl, ([], refl, omega arith), (0, omega arith, refl))

tried : Reach fetched_under_try 3 15 (shape InBody (N ∷ []) (OnTry 16 1 ∷ OnBegin 22 ∷ []))
tried = (10, 15, _, op.Try 16, named, refl, (N ∷ [], refl, omega arith), (0, omega arith, refl))

no_name : Asks op.FetchK (shape InBody (N ∷ []) (OnTry 16 1 ∷ OnBegin 22 ∷ [])) → ⊥
no_name (below, e, le) =
    let tail : [] ≡ below = cc in
    let short : 0 ≡ length below = ap length tail in
    omega (arith, le, short)

-- a TRY that leads to the next instruction
under_try : Reach joined_under_try 2 10 (shape InBody [] (OnTry 10 0 ∷ OnBegin 14 ∷ []))
under_try = (5, 10, _, op.Try 10, body joined_under_try 14 (14 ∷ []) refl refl, refl, ([], refl, omega arith), (0, omega arith, refl))

from_try : Reach joined_under_try 2 10 (shape InBody [] (OnBegin 14 ∷ []))
from_try = (5, 10, _, op.Try 10, body joined_under_try 14 (14 ∷ []) refl refl, refl, ([], refl, omega arith), (1, omega arith, refl))

still_tried : Reach body_under_try 2 10 (shape InBody [] (OnTry 11 0 ∷ OnBegin 12 ∷ []))
still_tried = (5, 10, _, op.Try 11, body body_under_try 12 (12 ∷ []) refl refl, refl, ([], refl, omega arith), (0, omega arith, refl))

a_name : Reach name_for_value 2 10 (shape InBody (N ∷ []) (OnBegin 13 ∷ []))
a_name = (5, 10, _, op.Var 0, body name_for_value 13 (13 ∷ []) refl refl, refl, ([], refl, omega arith), (0, omega arith, refl))

no_value : Asks op.Drop (shape InBody (N ∷ []) (OnBegin 13 ∷ [])) → ⊥
no_value (below, e, le) = cc

-- BODY and NULL
a_goto : Reach value_in_goto 2 6 bare
a_goto = (5, 6, _, op.Body, body value_in_goto 8 (8 ∷ []) refl refl, refl, (8, refl), (0, omega arith, refl))

a_value : Reach value_in_goto 3 7 (shape InGoto (V ∷ []) [])
a_value = (6, 7, _, op.Null, a_goto, refl, ([], refl, omega arith), (0, omega arith, refl))

no_evaluation : shape InGoto (V ∷ []) [] ≡ shape InEvaluation (V ∷ []) [] → ⊥
no_evaluation e = let m : InGoto ≡ InEvaluation = ap (λ s. s.mode) e in cc

an_operand : Reach operand_left 2 6 (shape InBody (V ∷ []) (OnBegin 8 ∷ []))
an_operand = (5, 6, _, op.Null, body operand_left 8 (8 ∷ []) refl refl, refl, ([], refl, omega arith), (0, omega arith, refl))

left_over : Asks op.Body (shape InBody (V ∷ []) (OnBegin 8 ∷ [])) → ⊥
left_over (t, e) = let n : 1 ≡ 0 = ap (λ s. length s.kinds) e in omega (arith, n)

pub flow_rows : FlowRows
flow_rows = record {
  joins = record { parts = refl; flow = unbroken joined joined_known joined_begun joined_kept };
  fetches_under_try = (op.FetchK, 16, refl, inl (_, (3, tried), no_name));
  joins_under_try = (op.Null, 11, refl, inr (_, _, (2, under_try), (2, from_try), fewer _ _ (omega arith)));
  ends_body_under_try = (op.Body, 11, refl, inl (_, (2, still_tried), λ (t, e). fewer _ _ (omega arith) e));
  takes_name_for_value = (op.Drop, 11, refl, inl (_, (2, a_name), no_value));
  gives_value_in_goto = (op.Ret, 8, refl, inl (_, (3, a_value), no_evaluation));
  goes_in_body = (op.Goto 1, 10, refl, inl (_, (1, body goto_in_body 10 (10 ∷ []) refl refl), fewer _ _ (omega arith)));
  leaves_operand = (op.Body, 7, refl, inl (_, (2, an_operand), left_over));
}
