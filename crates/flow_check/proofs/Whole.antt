-- The whole walk.
use Rattle.std.proofs.Common.{◌≡◌, ℕ, zero, suc, ◌+◌, ◌^◌, ◌<◌, ◌≤◌, List, [], ◌∷◌, length, drop, get_or, refl, sym, ap, ◌∙◌, subst, arith, Option, Some, None, Bool, true, false, inl, inr}
use Rattle.model.specs.declared.instr.Instr.{Instr}
use Rattle.model.specs.declared.image.Image.{Image}
use Rattle.model.specs.Machine.Steps.{At}
use Rattle.model.specs.Module.Images.{instr_size, fetch_from, code_size}
use Rattle.model.specs.Module.Spelling.{code_bytes}
use Rattle.model.specs.Module.Flow as flow
use Rattle.model.specs.Module.Flow.{Reaches, BreaksFlow, IsLeast, begins_at}
use Rattle.model.proofs.Module.CodeBytes.{some_bytes, code_long, fetch_here, fetch_past, fetch_lies}
use Rattle.flow_check.specs.declared.pool.Node.{Node}
use Rattle.flow_check.specs.declared.shapes.Shape.{Shape}
use Rattle.flow_check.specs.declared.shapes.Mode.TheVariants.{Goto, Evaluation}
use Rattle.flow_check.specs.declared.marks.Mark.{Mark}
use Rattle.flow_check.specs.declared.marks.Mark.TheVariants.{One, Torn}
use Rattle.flow_check.specs.Numbers.{Distinct}
use Rattle.flow_check.specs.Rules.{rule_of, next_of}
use Rattle.flow_check.specs.Shapes.{IsShape, IsNext, empty_shape}
use Rattle.flow_check.specs.Marks.{met, seeded, Followed, Stepped}
use Rattle.flow_check.proofs.Stacks.{distinct_none}
use Rattle.flow_check.proofs.Forward.{Known, short}
use Rattle.flow_check.proofs.SameShapes.{empty_is}
use Rattle.flow_check.proofs.Telling.{Tells, tells_same, tells_seeded}
use Rattle.flow_check.proofs.Walking.{Told, here_tells, told_skip, told_step, no_fault_none, no_fault_one, clear_more, least_lacks, least_torn}

-- ---- bytes

-- ---- the place in the code

drop_one : (is : List Instr) (k : ℕ) (d : Instr) → k < length is → drop k is ≡ get_or is k d ∷ drop (k + 1) is
drop_one [] k d lt = absurd (omega (arith, lt))
drop_one (i ∷ is) zero d lt = refl
drop_one (i ∷ is) (suc k) d lt =
    let e : suc k + 1 ≡ suc (k + 1) = omega arith in
    drop_one is k d (omega (arith, lt)) ∙ ap (λ n. get_or is k d ∷ drop n (i ∷ is)) (sym e)

drop_done : (is : List Instr) (k : ℕ) → length is ≤ k → drop k is ≡ []
drop_done [] zero e = refl
drop_done [] (suc k) e = refl
drop_done (i ∷ is) zero e = absurd (omega (arith, e))
drop_done (i ∷ is) (suc k) e = drop_done is k (omega (arith, e))

-- k instructions stand before o
pub record Stands (im : Image) (k o : ℕ) : Type 0 where
  pub tail : (x : ℕ) → o ≤ x → fetch_from 0 im.code x ≡ fetch_from o (drop k im.code) x
  pub whole : o + code_size (drop k im.code) ≡ code_size im.code

pub record Walked (im : Image) (ns : List Node) (m : ℕ → Option Mark) (c : Option Shape) (k o : ℕ) : Type 0 where
  pub stands : Stands im k o
  pub told : Told im ns m c o
  pub clear : (y : ℕ) → y < o → BreaksFlow im y → ⊥
  pub distinct : Distinct ns

-- the same, where these instructions are left
pub record WalkedTo (im : Image) (left : List Instr) (ns : List Node) (m : ℕ → Option Mark) (c : Option Shape) (o : ℕ) : Type 0 where
  pub place : ℕ
  pub code : drop place im.code ≡ left
  pub walked : Walked im ns m c place o

begins_known : (im : Image) (y : ℕ) (t : flow.Shape) → Known im 0 y t → flow.Begins im y t
begins_known im y t (inl h) = h
begins_known im y t (inr k) = absurd (let e = k.earlier in omega (arith, e))

pub walk_starts : (im : Image) (ns : List Node) (m : ℕ → Option Mark) → ns ≡ []
    → ((y : ℕ) → m y ≡ seeded im.expressions (empty_shape Evaluation) (seeded im.statements (empty_shape Goto) (λ z. None)) y) → Walked im ns m None 0 0
walk_starts im ns m e h = record {
  stands = record { tail = λ x le. refl; whole = omega arith };
  told = record { here = λ b. tells 0; later = λ y lt b. tells y };
  clear = λ y lt b. absurd (omega (arith, lt));
  distinct = none_twice;
}
  where
    none_twice : Distinct ns
    none_twice = subst Distinct (sym e) distinct_none

    tells : (y : ℕ) → Tells ns (Known im 0 y) (m y)
    tells y =
        subst (λ z. Tells ns (Known im 0 y) z) (sym (h y))
        (tells_same ns _ (Known im 0 y) (seeded im.expressions (empty_shape Evaluation) (seeded im.statements (empty_shape Goto) (λ z. None)) y)
        (λ t k. elim k [ inl x ↦ elim x [ inl f ↦ absurd f | inr q ↦ inl (inl q) ] | inr q ↦ inl (inr q) ])
        (λ t k. elim (begins_known im y t k) [ inl q ↦ inl (inr q) | inr q ↦ inr q ])
        (tells_seeded ns none_twice (empty_shape Evaluation) flow.asked (empty_is ns Evaluation) im.expressions _ _
        (tells_seeded ns none_twice (empty_shape Goto) flow.bare (empty_is ns Goto) im.statements (λ z t. ⊥) (λ z. None) (λ z t x. x)) y))

pub walk_ends : (im : Image) (ns : List Node) (m : ℕ → Option Mark) (c : Option Shape) (k o : ℕ) → Walked im ns m c k o → length im.code ≤ k → IsLeast (BreaksFlow im) None
walk_ends im ns m c k o w e = λ y b.
    let f = fetch_lies 0 im.code y b.0 b.1 b.2 in
    let a = w.stands.whole in
    let d : code_size (drop k im.code) ≡ 0 = ap code_size (drop_done im.code k e) in
    w.clear y (omega (arith, f.2, a, d)) b

module _ (im : Image) (ns : List Node) (m : ℕ → Option Mark) (c : Option Shape) (k o : ℕ) (w : Walked im ns m c k o) (i : Instr) (lt : k < length im.code) (item : i ≡ get_or im.code k i) where
  front : drop k im.code ≡ i ∷ drop (k + 1) im.code
  front = drop_one im.code k i lt ∙ ap (λ x. x ∷ drop (k + 1) im.code) (sym item)

  at : fetch_from 0 im.code o ≡ At i (o + instr_size i)
  at = w.stands.tail o (omega arith) ∙ ap (λ l. fetch_from o l o) front ∙ fetch_here i (drop (k + 1) im.code) o

  behind : (x : ℕ) → o < x → fetch_from 0 im.code x ≡ fetch_from (o + instr_size i) (drop (k + 1) im.code) x
  behind x less = w.stands.tail x (omega (arith, less)) ∙ ap (λ l. fetch_from o l x) front ∙ fetch_past i (drop (k + 1) im.code) o x less

  gap : (y : ℕ) (j : Instr) (n : ℕ) → o < y → fetch_from 0 im.code y ≡ At j n → o + instr_size i ≤ y
  gap y j n less e = (fetch_lies (o + instr_size i) (drop (k + 1) im.code) y j n (sym (behind y less) ∙ e)).1

  before : o < o + instr_size i
  before = let p = some_bytes i in omega (arith, p)

  whole_next : o + instr_size i + code_size (drop (k + 1) im.code) ≡ code_size im.code
  whole_next = let a = w.stands.whole in let b = ap code_size front in omega (arith, a, b)

  walk_fits : o + instr_size i ≤ code_size im.code
  walk_fits = let a = whole_next in omega (arith, a)

  pub walk_sum : (n : ℕ) → n ≡ instr_size i → code_size im.code ≤ 2 ^ 30 → o + n ≤ 2 ^ 30
  walk_sum n e few = let f = walk_fits in omega (arith, e, f, few)

  stands_next : Stands im (k + 1) (o + instr_size i)
  stands_next = record { tail = λ x le. behind x (let b = before in omega (arith, b, le)); whole = whole_next }

  here : Tells ns (Reaches im o) (met c (m o))
  here = here_tells im o (o + instr_size i) i at gap ns m c w.told

  module _ (a : Shape) (one : met c (m o) ≡ Some (One a)) where
    told_one : Tells ns (Reaches im o) (Some (One a))
    told_one = subst (λ x. Tells ns (Reaches im o) x) one here

    pub walk_short : code_size im.code ≤ 2 ^ 30 → (s : flow.Shape) × IsShape ns a s × (length s.kinds < 2 ^ 31)
    walk_short few =
        let t = told_one in
        let p = short im o t.0 t.2 in
        let b = before in
        let f = walk_fits in
        (t.0, t.1, omega (arith, p, b, f, few))

  module _ (more : List Node) (m' : ℕ → Option Mark) (c' : Option Shape) where
    walk_skip : Tells ns (Reaches im o) None → more ≡ ns → c' ≡ None → ((y : ℕ) → m' y ≡ m y) → Walked im more m' c' (k + 1) (o + instr_size i)
    walk_skip none e f g = record {
      stands = stands_next;
      told = same_told (told_skip im o (o + instr_size i) i at gap ns m c none w.told);
      clear = clear_more im o (o + instr_size i) i at gap w.clear (no_fault_none im o (o + instr_size i) i at gap none);
      distinct = subst Distinct (sym e) w.distinct;
    }
      where
        same_told : Told im ns m None (o + instr_size i) → Told im more m' c' (o + instr_size i)
        same_told t = record {
          here = λ b. subst (λ x. Tells x (Known im (o + instr_size i) (o + instr_size i)) (met c' (m' (o + instr_size i)))) (sym e)
              (subst (λ x. Tells ns (Known im (o + instr_size i) (o + instr_size i)) (met x (m' (o + instr_size i)))) (sym f)
              (subst (λ x. Tells ns (Known im (o + instr_size i) (o + instr_size i)) x) (sym (g (o + instr_size i))) (t.here b)));
          later = λ y less b. subst (λ x. Tells x (Known im (o + instr_size i) y) (m' y)) (sym e) (subst (λ x. Tells ns (Known im (o + instr_size i) y) x) (sym (g y)) (t.later y less b));
        }

    walk_one : (a : Shape) → Tells ns (Reaches im o) (Some (One a)) → Followed ns more m m' c' o (rule_of i) a true → Walked im more m' c' (k + 1) (o + instr_size i)
    walk_one a t (g, None, adv, goes) = absurd (cc)
    walk_one a t (g, Some led, adv, goes) =
        let d = g.distinct w.distinct in
        let s = adv t.0 t.1 in
        record {
          stands = stands_next;
          told = told_step im o (o + instr_size i) i at gap ns more m m' c c' led.target t.0 g d t.2 t.3 s.0 (subst (λ x. IsNext more x (next_of (rule_of i) t.0)) (sym goes.1) s.1) s.2 goes.2 w.told;
          clear = clear_more im o (o + instr_size i) i at gap w.clear (no_fault_one im o (o + instr_size i) i at gap t.0 t.3 s.0);
          distinct = d;
        }

    walk_by : (mark : Option Mark) → Tells ns (Reaches im o) mark → Stepped ns more m m' c' o (rule_of i) mark true → Walked im more m' c' (k + 1) (o + instr_size i)
    walk_by None t h = walk_skip t h.1 h.2 h.3
    walk_by (Some (One a)) t h = walk_one a t h
    walk_by (Some Torn) t h = absurd (cc)

    pub walk_on : (n : ℕ) (fine : Bool) → n ≡ instr_size i → fine ≡ true → Stepped ns more m m' c' o (rule_of i) (met c (m o)) fine → Walked im more m' c' (k + 1) (o + n)
    walk_on n fine e f h =
        subst (λ x. Walked im more m' c' (k + 1) (o + x)) (sym e)
        (walk_by (met c (m o)) here (subst (λ x. Stepped ns more m m' c' o (rule_of i) (met c (m o)) x) f h))

    stop_one : (a : Shape) → Tells ns (Reaches im o) (Some (One a)) → Followed ns more m m' c' o (rule_of i) a false → IsLeast (BreaksFlow im) (Some o)
    stop_one a t (g, None, adv, goes) = least_lacks im o (o + instr_size i) i at gap w.clear t.0 t.2 (adv t.0 t.1)
    stop_one a t (g, Some led, adv, goes) = let e = goes.0 in absurd (cc)

    stop_by : (mark : Option Mark) → Tells ns (Reaches im o) mark → Stepped ns more m m' c' o (rule_of i) mark false → IsLeast (BreaksFlow im) (Some o)
    stop_by None t h = let e = h.0 in absurd (cc)
    stop_by (Some (One a)) t h = stop_one a t h
    stop_by (Some Torn) t h = least_torn im o (o + instr_size i) i at gap w.clear t.0 t.1 t.2 t.3 t.4

    pub walk_stops : (fine : Bool) → fine ≡ false → Stepped ns more m m' c' o (rule_of i) (met c (m o)) fine → IsLeast (BreaksFlow im) (Some o)
    walk_stops fine f h = stop_by (met c (m o)) here (subst (λ x. Stepped ns more m m' c' o (rule_of i) (met c (m o)) x) f h)

pub code_few : (im : Image) → length (code_bytes im.code) ≤ 1073741824 → code_size im.code ≤ 2 ^ 30
code_few im h = let e = code_long im.code in omega (arith, e, h)
