-- One step of the walk over the code.
use Rattle.std.proofs.Common.{◌≡◌, ℕ, ◌<◌, ◌≤◌, List, refl, sym, ap, ◌∙◌, subst, arith, Option, Some, None, true, inl, inr, ◌⊎◌}
use Rattle.std.proofs.lemmas.Bool.{cases_eq, cases_lt}
use Rattle.model.specs.declared.instr.Instr.{Instr}
use Rattle.model.specs.declared.image.Image.{Image}
use Rattle.model.specs.Machine.Steps.{At}
use Rattle.model.specs.Module.Images.{fetch_from}
use Rattle.model.specs.Module.Flow as flow
use Rattle.model.specs.Module.Flow.{Asks, Reaches, BreaksFlow, IsLeast, begins_at, is_jump_target}
use Rattle.model.proofs.Module.CodeBytes.{fetch_lies, some_bytes}
use Rattle.flow_check.specs.declared.pool.Node.{Node}
use Rattle.flow_check.specs.declared.shapes.Shape.{Shape}
use Rattle.flow_check.specs.declared.marks.Mark.{Mark}
use Rattle.flow_check.specs.Numbers.{Distinct, Grows}
use Rattle.flow_check.specs.Rules.{rule_of, Asked, next_of, target_of}
use Rattle.flow_check.specs.Shapes.{IsNext, IsTarget}
use Rattle.flow_check.specs.Marks.{met, followed}
use Rattle.flow_check.proofs.ByRule.{asks_are, LedTo}
use Rattle.flow_check.proofs.Forward.{Known, Comes, known_reaches, reaches_known}
use Rattle.flow_check.proofs.Telling.{Tells, tells_same, tells_grown, tells_next, tells_followed}

-- what is marked, and carried to o, tells what is known before o
pub record Told (im : Image) (ns : List Node) (m : ℕ → Option Mark) (c : Option Shape) (o : ℕ) : Type 0 where
  pub here : begins_at im o ≡ true → Tells ns (Known im o o) (met c (m o))
  pub later : (y : ℕ) → o < y → begins_at im y ≡ true → Tells ns (Known im o y) (m y)

module _ (im : Image) (o next : ℕ) (i : Instr) (at : fetch_from 0 im.code o ≡ At i next)
    (gap : (y : ℕ) (j : Instr) (n : ℕ) → o < y → fetch_from 0 im.code y ≡ At j n → next ≤ y) where
  begins : begins_at im o ≡ true
  begins = rw at refl

  onward : o < next
  onward = let f = fetch_lies 0 im.code o i next at in let p = some_bytes i in omega (arith, f.0, p)

  pub here_tells : (ns : List Node) (m : ℕ → Option Mark) (c : Option Shape) → Told im ns m c o → Tells ns (Reaches im o) (met c (m o))
  here_tells ns m c h = tells_same ns (Known im o o) (Reaches im o) (met c (m o)) (known_reaches im o o) (reaches_known im o) (h.here begins)

  comes_at : (x : ℕ) (y : ℕ) (t : flow.Shape) (k : Comes im next y t) → k.before < x → Comes im x y t
  comes_at x y t k lt = record { before = k.before; next = k.next; first = k.first; instr = k.instr; earlier = lt; reached = k.reached; fetched = k.fetched; met = k.met; led = k.led }

  comes_cases : (y : ℕ) (t : flow.Shape) (k : Comes im next y t) → Comes im o y t ⊎ (k.before ≡ o)
  comes_cases y t k =
      elim (cases_eq k.before o) [
        | inl same ↦ inr same
        | inr ne ↦ elim (cases_lt o k.before) [
          | inl lt ↦ let g = gap k.before k.instr k.next lt k.fetched in let e = k.earlier in absurd (omega (arith, g, e))
          | inr le ↦ inl (comes_at o y t k (omega (arith, ne, le)))
        ]
      ]

  known_more : (y : ℕ) (t : flow.Shape) → Known im o y t → Known im next y t
  known_more y t (inl h) = inl h
  known_more y t (inr k) = inr (record { before = k.before; next = k.next; first = k.first; instr = k.instr; earlier = (let e = k.earlier in let n = onward in omega (arith, e, n)); reached = k.reached; fetched = k.fetched; met = k.met; led = k.led })

  known_skip : ((s : flow.Shape) → Reaches im o s → ⊥) → (y : ℕ) (t : flow.Shape) → Known im next y t → Known im o y t
  known_skip none y t (inl h) = inl h
  known_skip none y t (inr k) = elim (comes_cases y t k) [
    | inl c ↦ inr c
    | inr same ↦ absurd (none k.first (subst (λ z. Reaches im z k.first) same k.reached))
  ]

  module _ (s : flow.Shape) (only : (t : flow.Shape) → Reaches im o t → t ≡ s) where
    led_here : (y : ℕ) (t : flow.Shape) (k : Comes im next y t) → k.before ≡ o → LedTo im o next (rule_of i) s y t
    led_here y t k same =
        let first : k.first ≡ s = only k.first (subst (λ z. Reaches im z k.first) same k.reached) in
        let e : At k.instr k.next ≡ At i next = sym k.fetched ∙ ap (fetch_from 0 im.code) same ∙ at in
        let instr : k.instr ≡ i = cc in
        let after : k.next ≡ next = cc in
        subst (λ z. LedTo im z next (rule_of i) s y t) same
        (subst (λ z. LedTo im k.before z (rule_of i) s y t) after
        (subst (λ z. LedTo im k.before k.next (rule_of z) s y t) instr
        (subst (λ z. LedTo im k.before k.next (rule_of k.instr) z y t) first k.led)))

    known_step : (y : ℕ) (t : flow.Shape) → Known im next y t → Known im o y t ⊎ LedTo im o next (rule_of i) s y t
    known_step y t (inl h) = inl (inl h)
    known_step y t (inr k) = elim (comes_cases y t k) [ inl c ↦ inl (inr c) | inr same ↦ inr (led_here y t k same) ]

    known_back : Reaches im o s → Asked (rule_of i) s → (y : ℕ) (t : flow.Shape) → Known im o y t ⊎ LedTo im o next (rule_of i) s y t → Known im next y t
    known_back r a y t (inl k) = known_more y t k
    known_back r a y t (inr l) = inr (record { before = o; next = next; first = s; instr = i; earlier = onward; reached = r; fetched = at; met = a; led = l })

  -- nothing comes here
  pub told_skip : (ns : List Node) (m : ℕ → Option Mark) (c : Option Shape) → ((s : flow.Shape) → Reaches im o s → ⊥) → Told im ns m c o → Told im ns m None next
  told_skip ns m c none h = record {
    here = λ b. tells_same ns (Known im o next) (Known im next next) (m next) (known_more next) (known_skip none next) (h.later next onward b);
    later = λ y lt b. tells_same ns (Known im o y) (Known im next y) (m y) (known_more y) (known_skip none y) (h.later y (let n = onward in omega (arith, lt, n)) b);
  }

  -- one shape comes here, and has what is asked
  pub told_step : (ns more : List Node) (m m' : ℕ → Option Mark) (c c' : Option Shape) (l : Option (ℕ × Shape)) (s : flow.Shape) → Grows ns more → Distinct more
      → Reaches im o s → ((t : flow.Shape) → Reaches im o t → t ≡ s) → Asked (rule_of i) s → IsNext more c' (next_of (rule_of i) s) → IsTarget more l (target_of (rule_of i) s)
      → ((y : ℕ) → m' y ≡ followed o l m y) → Told im ns m c o → Told im more m' c' next
  told_step ns more m m' c c' l s g d r only a n t e h = record {
    here = λ b.
        tells_same more (λ u. (Known im o next u ⊎ To next u) ⊎ (next_of (rule_of i) s ≡ Some u)) (Known im next next) (met c' (m' next))
        (λ u k. back next u (elim k [ inl x ↦ elim x [ inl p ↦ inl p | inr q ↦ inr (inr q) ] | inr w ↦ inr (inl (refl, w)) ]))
        (λ u k. elim (known_step s only next u k) [ inl p ↦ inl (inl p) | inr led ↦ elim led [ inl w ↦ inr w.1 | inr q ↦ inl (inr q) ] ])
        (tells_next more d (λ u. Known im o next u ⊎ To next u) c' (next_of (rule_of i) s) (m' next) n (at_target next onward b));
    later = λ y lt b.
        tells_same more (λ u. Known im o y u ⊎ To y u) (Known im next y) (m' y)
        (λ u k. back y u (elim k [ inl p ↦ inl p | inr q ↦ inr (inr q) ]))
        (λ u k. elim (known_step s only y u k) [ inl p ↦ inl p | inr led ↦ elim led [ inl w ↦ (let z = w.0 in absurd (omega (arith, z, lt))) | inr q ↦ inr q ] ])
        (at_target y (let z = onward in omega (arith, lt, z)) b);
  }
    where
      To : ℕ → flow.Shape → Type 0
      To y u = (target_of (rule_of i) s ≡ Some (y, u)) × (is_jump_target im o y ≡ true)

      back : (y : ℕ) (u : flow.Shape) → Known im o y u ⊎ LedTo im o next (rule_of i) s y u → Known im next y u
      back y u k = known_back s only r a y u k

      at_target : (y : ℕ) → o < y → begins_at im y ≡ true → Tells more (λ u. Known im o y u ⊎ To y u) (m' y)
      at_target y lt b =
          subst (λ z. Tells more (λ u. Known im o y u ⊎ To y u) z) (sym (e y))
          (tells_followed im more d (Known im o y) o l (target_of (rule_of i) s) m y lt b t (tells_grown ns more (Known im o y) (m y) g (h.later y lt b)))

  -- ---- faults

  pub no_fault_none : ((s : flow.Shape) → Reaches im o s → ⊥) → BreaksFlow im o → ⊥
  no_fault_none none (j, n, f, inl b) = none b.0 b.1
  no_fault_none none (j, n, f, inr b) = none b.0 b.2

  pub no_fault_one : (s : flow.Shape) → ((t : flow.Shape) → Reaches im o t → t ≡ s) → Asked (rule_of i) s → BreaksFlow im o → ⊥
  no_fault_one s only a (j, n, f, inl (t, r, lacks)) =
      let e : At i next ≡ At j n = sym at ∙ f in
      let one : i ≡ j = cc in
      lacks (subst (λ x. Asks j x) (sym (only t r)) (subst (λ x. Asks x s) one ((asks_are i s).1 a)))
  no_fault_one s only a (j, n, f, inr (t, u, p, q, ne)) = ne (only t p ∙ sym (only u q))

  pub clear_more : ((y : ℕ) → y < o → BreaksFlow im y → ⊥) → (BreaksFlow im o → ⊥) → (y : ℕ) → y < next → BreaksFlow im y → ⊥
  clear_more below here y lt b =
      elim (cases_eq y o) [
        | inl same ↦ here (subst (BreaksFlow im) same b)
        | inr ne ↦ elim (cases_lt o y) [
          | inl after ↦ let g = gap y b.0 b.1 after b.2 in absurd (omega (arith, g, lt))
          | inr le ↦ below y (omega (arith, ne, le)) b
        ]
      ]

  pub least_lacks : ((y : ℕ) → y < o → BreaksFlow im y → ⊥) → (s : flow.Shape) → Reaches im o s → (Asked (rule_of i) s → ⊥) → IsLeast (BreaksFlow im) (Some o)
  least_lacks below s r lacks = (
    (i, next, at, inl (s, r, λ h. lacks ((asks_are i s).0 h))),
    λ y b. elim (cases_lt y o) [ inl lt ↦ absurd (below y lt b) | inr le ↦ le ],
  )

  pub least_torn : ((y : ℕ) → y < o → BreaksFlow im y → ⊥) → (s t : flow.Shape) → Reaches im o s → Reaches im o t → (s ≡ t → ⊥) → IsLeast (BreaksFlow im) (Some o)
  least_torn below s t r q ne = (
    (i, next, at, inr (s, t, r, q, ne)),
    λ y b. elim (cases_lt y o) [ inl lt ↦ absurd (below y lt b) | inr le ↦ le ],
  )
