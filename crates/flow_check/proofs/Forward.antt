-- The code leads forward: what is known from the instructions before an offset is all that reaches it.
use Rattle.std.proofs.Common.{◌≡◌, ℕ, zero, suc, ◌+◌, ◌*◌, ◌<◌, ◌≤◌, [], ◌∷◌, ◌++◌, length, drop, sym, subst, arith, Option, Some, true, inl, inr, ◌⊎◌, nat_lt}
use Rattle.std.proofs.lemmas.Bool.Decides.{nat_tests}
use Rattle.std.proofs.lemmas.List.{length-drop}
use Rattle.std.proofs.lemmas.Bool.{and_parts}
use Rattle.model.specs.declared.instr.Instr.{Instr}
use Rattle.model.specs.declared.image.Image.{Image}
use Rattle.model.specs.Machine.Steps.{At, OnBegin, OnTry}
use Rattle.model.specs.Module.Images.{fetch_from}
use Rattle.model.specs.Module.Flow as flow
use Rattle.model.specs.Module.Flow.{Shape, shape, bare, asked, Asks, Begins, Reach, Reaches, BreaksFlow, IsLeast, begins_at, is_jump_target, leads}
use Rattle.model.proofs.Module.CodeBytes.{fetch_lies, some_bytes}
use Rattle.flow_check.specs.declared.rules.Leaves.{Leaves}
use Rattle.flow_check.specs.declared.rules.Leaves.TheVariants as leaves
use Rattle.flow_check.specs.declared.rules.Rule.{Rule}
use Rattle.flow_check.specs.declared.rules.Rule.TheVariants.{Leave, Begin, Body, Jump, Answer, Try, Untry, Fail, Operate}
use Rattle.flow_check.specs.Rules.{rule_of, taken, left, Asked, next_of, target_of}
use Rattle.flow_check.proofs.ByRule.{asks_are, LedTo, led_from, led_to}
use Rattle.flow_check.proofs.Steps.{length_both}

-- from an instruction before x
pub record Comes (im : Image) (x y : ℕ) (t : Shape) : Type 0 where
  pub before : ℕ
  pub next : ℕ
  pub first : Shape
  pub instr : Instr
  pub earlier : before < x
  pub reached : Reaches im before first
  pub fetched : fetch_from 0 im.code before ≡ At instr next
  pub met : Asked (rule_of instr) first
  pub led : LedTo im before next (rule_of instr) first y t

-- the shapes at y that are known before x
abbrev pub Known : Image → ℕ → ℕ → Shape → Type 0
Known im x y t = Begins im y t ⊎ Comes im x y t

led_on : (im : Image) (before next : ℕ) (i : Instr) (s : Shape) (y : ℕ) (t : Shape) → fetch_from 0 im.code before ≡ At i next → LedTo im before next (rule_of i) s y t → before < y
led_on im before next i s y t e (inl h) = let f = fetch_lies 0 im.code before i next e in let p = some_bytes i in omega (arith, f.0, h.0, p)
led_on im before next i s y t e (inr h) = let l : nat_lt before y ≡ true = (and_parts (nat_lt before y) (begins_at im y) h.1).0 in grind (arith, nat_tests, l)

pub known_reaches : (im : Image) (x y : ℕ) (t : Shape) → Known im x y t → Reaches im y t
known_reaches im x y t (inl h) = (0, h)
known_reaches im x y t (inr k) = (
  suc k.reached.0,
  (k.before, k.next, k.first, k.instr, k.reached.1, k.fetched, (asks_are k.instr k.first).1 k.met, led_to im k.before y t k.instr k.next k.first k.led),
)

pub reaches_known : (im : Image) (y : ℕ) (t : Shape) → Reaches im y t → Known im y y t
reaches_known im y t (zero, h) = inl h
reaches_known im y t (suc n, (before, next, s, i, r, e, a, l)) =
    let led = led_from im before y t i next s l in
    inr (record {
      before = before;
      next = next;
      first = s;
      instr = i;
      earlier = led_on im before next i s y t e led;
      reached = (n, r);
      fetched = e;
      met = (asks_are i s).0 a;
      led = led;
    })

-- ---- at most two operands more at each instruction

left_two : (ls : Leaves) → length (left ls) ≤ 2
left_two leaves.Nothing = omega arith
left_two leaves.Value = omega arith
left_two leaves.Name = omega arith
left_two leaves.ValueName = omega arith
left_two leaves.SpanName = omega arith

shown : (s t : Shape) (n : ℕ) → Some s ≡ Some t → length s.kinds ≤ n → length t.kinds ≤ n
shown s t n e h = let f : s ≡ t = cc in subst (λ (x : Shape). length x.kinds ≤ n) f h

next_short : (r : Rule) (s t : Shape) → next_of r s ≡ Some t → length t.kinds ≤ 2 + length s.kinds
next_short Leave s t e = absurd (cc)
next_short (Begin f) s t e = shown (shape flow.InBody [] (OnBegin f ∷ [])) t (2 + length s.kinds) e (omega arith)
next_short Body s t e = shown bare t (2 + length s.kinds) e (omega arith)
next_short Jump s t e = absurd (cc)
next_short Answer s t e = absurd (cc)
next_short (Try f) s t e = shown (shape s.mode s.kinds (OnTry f (length s.kinds) ∷ s.handlers)) t (2 + length s.kinds) e (omega arith)
next_short Untry s t e = shown (shape s.mode s.kinds (drop 1 s.handlers)) t (2 + length s.kinds) e (omega arith)
next_short Fail s t e = absurd (cc)
next_short (Operate ts ls) s t e =
    let a = length_both (left ls) (drop (length (taken ts)) s.kinds) in
    let b = left_two ls in
    let c = length-drop (length (taken ts)) s.kinds in
    let d : length (left ls ++ drop (length (taken ts)) s.kinds) ≤ 2 + length s.kinds = omega (arith, a, b, c) in
    shown (shape s.mode (left ls ++ drop (length (taken ts)) s.kinds) s.handlers) t (2 + length s.kinds) e d

target_shown : (f y : ℕ) (s t : Shape) (n : ℕ) → ◌≡◌ {A = Option (ℕ × Shape)} (Some (f, s)) (Some (y, t)) → length s.kinds ≤ n → length t.kinds ≤ n
target_shown f y s t n e h =
    let p : ℕ × Shape = (f, s) in
    let q : ℕ × Shape = (y, t) in
    let g : p ≡ q = cc in
    subst (λ (x : ℕ × Shape). length x.1.kinds ≤ n) g h

target_short : (r : Rule) (s : Shape) (y : ℕ) (t : Shape) → target_of r s ≡ Some (y, t) → length t.kinds ≤ length s.kinds
target_short (Begin f) s y t e = target_shown f y bare t (length s.kinds) e (omega arith)
target_short (Try f) s y t e = target_shown f y s t (length s.kinds) e (omega arith)
target_short Leave s y t e = absurd (cc)
target_short Body s y t e = absurd (cc)
target_short Jump s y t e = absurd (cc)
target_short Answer s y t e = absurd (cc)
target_short Untry s y t e = absurd (cc)
target_short Fail s y t e = absurd (cc)
target_short (Operate ts ls) s y t e = absurd (cc)

begins_short : (im : Image) (y : ℕ) (t : Shape) → Begins im y t → length t.kinds ≤ 0
begins_short im y t (inl h) = subst (λ (x : Shape). length x.kinds ≤ 0) (sym h.1) (omega arith)
begins_short im y t (inr h) = subst (λ (x : Shape). length x.kinds ≤ 0) (sym h.1) (omega arith)

led_short : (im : Image) (before next : ℕ) (i : Instr) (s : Shape) (y : ℕ) (t : Shape) → fetch_from 0 im.code before ≡ At i next → length s.kinds ≤ 2 * before
    → LedTo im before next (rule_of i) s y t → length t.kinds ≤ 2 * y
led_short im before next i s y t e h (inl l) = let f = fetch_lies 0 im.code before i next e in let p = some_bytes i in let q = next_short (rule_of i) s t l.1 in omega (arith, f.0, l.0, p, q, h)
led_short im before next i s y t e h (inr l) =
    let q = target_short (rule_of i) s y t l.0 in
    let o = led_on im before next i s y t e (inr l) in
    omega (arith, q, o, h)

reach_short : (im : Image) (n y : ℕ) (t : Shape) → Reach im n y t → length t.kinds ≤ 2 * y
reach_short im zero y t h = let b = begins_short im y t h in omega (arith, b)
reach_short im (suc n) y t (before, next, s, i, r, e, a, l) =
    led_short im before next i s y t e (reach_short im n before s r) (led_from im before y t i next s l)

pub short : (im : Image) (y : ℕ) (t : Shape) → Reaches im y t → length t.kinds ≤ 2 * y
short im y t r = reach_short im r.0 y t r.1
