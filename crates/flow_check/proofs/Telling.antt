-- Marks tell which shapes reach the offsets from here on, and an instruction is one step of that.
use Rattle.std.proofs.Common.{◌≡◌, ℕ, zero, suc, ◌<◌, List, [], ◌∷◌, refl, sym, ap, ◌∙◌, subst, arith, Option, Some, None, Bool, true, false, inl, inr, ◌⊎◌, nat_lt, nat_eq, if◌then◌else◌}
use Rattle.std.specs.List.{Contains}
use Rattle.std.proofs.lemmas.Bool.{cases_eq, cases_lt}
use Rattle.std.proofs.lemmas.Bool.Decides.{nat_tests}
use Rattle.model.specs.declared.image.Image.{Image}
use Rattle.model.specs.Module.Flow as flow
use Rattle.model.specs.Module.Flow.{Asks, Begins, Reaches, BreaksFlow, IsLeast, begins_at, is_jump_target}
use Rattle.flow_check.specs.declared.pool.Node.{Node}
use Rattle.flow_check.specs.declared.shapes.Shape.{Shape}
use Rattle.flow_check.specs.declared.marks.Mark.{Mark}
use Rattle.flow_check.specs.declared.marks.Mark.TheVariants.{One, Torn}
use Rattle.flow_check.specs.Numbers.{Distinct, Grows}
use Rattle.flow_check.specs.Shapes.{IsShape, IsNext, IsTarget, same_shape}
use Rattle.flow_check.specs.Marks.{joined, met, noted, followed, seeded}
use Rattle.flow_check.proofs.SameShapes.{same_true, same_back, shape_grown}

-- a mark tells the shapes of which R holds: none, just one, or two that differ
abbrev pub Tells : List Node → (flow.Shape → Type 0) → Option Mark → Type 0
Tells ns R None = (s : flow.Shape) → R s → ⊥
Tells ns R (Some (One a)) = (s : flow.Shape) × IsShape ns a s × R s × ((t : flow.Shape) → R t → t ≡ s)
Tells ns R (Some Torn) = (s t : flow.Shape) × R s × R t × (s ≡ t → ⊥)

pub tells_same : (ns : List Node) (R Q : flow.Shape → Type 0) (m : Option Mark) → ((s : flow.Shape) → R s → Q s) → ((s : flow.Shape) → Q s → R s) → Tells ns R m → Tells ns Q m
tells_same ns R Q None f b h = λ s q. h s (b s q)
tells_same ns R Q (Some (One a)) f b h = (h.0, h.1, f h.0 h.2, λ t q. h.3 t (b t q))
tells_same ns R Q (Some Torn) f b h = (h.0, h.1, f h.0 h.2, f h.1 h.3, h.4)

pub tells_grown : (ns more : List Node) (R : flow.Shape → Type 0) (m : Option Mark) → Grows ns more → Tells ns R m → Tells more R m
tells_grown ns more R None g h = h
tells_grown ns more R (Some (One a)) g h = (h.0, shape_grown ns more g a h.0 h.1, h.2, h.3)
tells_grown ns more R (Some Torn) g h = h

tells_with : (ns : List Node) → Distinct ns → (R : flow.Shape → Type 0) (a b : Shape) (e s : flow.Shape) → IsShape ns a e → IsShape ns b s → R s → ((t : flow.Shape) → R t → t ≡ s)
    → (c : Bool) → same_shape a b ≡ c → Tells ns (λ t. R t ⊎ (t ≡ e)) (if c then Some (One b) else Some Torn)
tells_with ns d R a b e s ha hb r u true c = (s, hb, inl r, λ t k. elim k [ inl q ↦ u t q | inr q ↦ q ∙ same_true ns a b e s ha hb c ])
tells_with ns d R a b e s ha hb r u false c = (s, e, inl r, inr refl, λ q. let f = same_back ns d a b e s ha hb (sym q) in absurd (cc))

pub tells_joined : (ns : List Node) → Distinct ns → (R : flow.Shape → Type 0) (a : Shape) (e : flow.Shape) (m : Option Mark) → IsShape ns a e → Tells ns R m → Tells ns (λ t. R t ⊎ (t ≡ e)) (joined a m)
tells_joined ns d R a e None ha h = (e, ha, inr refl, λ t k. elim k [ inl r ↦ absurd (h t r) | inr q ↦ q ])
tells_joined ns d R a e (Some (One b)) ha h = tells_with ns d R a b e h.0 ha h.1 h.2 h.3 (same_shape a b) refl
tells_joined ns d R a e (Some Torn) ha h = (h.0, h.1, inl h.2, inl h.3, h.4)

-- with what was carried here
pub tells_next : (ns : List Node) → Distinct ns → (R : flow.Shape → Type 0) (c : Option Shape) (o : Option flow.Shape) (m : Option Mark) → IsNext ns c o → Tells ns R m → Tells ns (λ t. R t ⊎ (o ≡ Some t)) (met c m)
tells_next ns d R None None m n h = tells_same ns R _ m (λ t r. inl r) (λ t k. elim k [ inl r ↦ r | inr q ↦ absurd (cc) ]) h
tells_next ns d R None (Some e) m n h = absurd n
tells_next ns d R (Some a) None m n h = absurd n
tells_next ns d R (Some a) (Some e) m n h =
    tells_same ns _ _ (joined a m)
    (λ t k. elim k [ inl r ↦ inl r | inr q ↦ inr (ap Some (sym q)) ])
    (λ t k. elim k [ inl r ↦ inl r | inr q ↦ inr (let z : e ≡ t = cc in sym z) ])
    (tells_joined ns d R a e m n h)

-- with one more way to an offset
tells_noted : (ns : List Node) → Distinct ns → (R : flow.Shape → Type 0) (o : ℕ) (a : Shape) (e : flow.Shape) (m : ℕ → Option Mark) (y : ℕ) → IsShape ns a e → Tells ns R (m y)
    → Tells ns (λ t. R t ⊎ ((o ≡ y) × (t ≡ e))) (noted o a m y)
tells_noted ns d R o a e m y ha h =
    elim (cases_eq o y) [
      | inl same ↦
          let b : nat_eq o y ≡ true = grind (arith, nat_tests, same) in
          let g : Tells ns R (m o) = subst (λ z. Tells ns R (m z)) (sym same) h in
          rw b (tells_same ns _ _ (joined a (m o))
          (λ t k. elim k [ inl r ↦ inl r | inr q ↦ inr (same, q) ])
          (λ t k. elim k [ inl r ↦ inl r | inr q ↦ inr q.1 ])
          (tells_joined ns d R a e (m o) ha g))
      | inr ne ↦
          let b : nat_eq o y ≡ false = grind (arith, nat_tests, ne) in
          rw b (tells_same ns _ _ (m y) (λ t r. inl r) (λ t k. elim k [ inl r ↦ r | inr q ↦ absurd (ne q.0) ]) h)
    ]

in_cons : (q p : ℕ) (ps : List ℕ) → Contains (q ∷ ps) p → (q ≡ p) ⊎ Contains ps p
in_cons q p ps (zero, lt, e) = inl e
in_cons q p ps (suc k, lt, e) = inr (k, omega (arith, lt), e)

to_tail : (q p : ℕ) (ps : List ℕ) → Contains ps p → Contains (q ∷ ps) p
to_tail q p ps (k, lt, e) = (suc k, omega (arith, lt), e)

pub tells_seeded : (ns : List Node) → Distinct ns → (a : Shape) (e : flow.Shape) → IsShape ns a e → (os : List ℕ) (K : ℕ → flow.Shape → Type 0) (m : ℕ → Option Mark)
    → ((y : ℕ) → Tells ns (K y) (m y)) → (y : ℕ) → Tells ns (λ t. K y t ⊎ (Contains os y × (t ≡ e))) (seeded os a m y)
tells_seeded ns d a e ha [] K m h y = tells_same ns _ _ (m y) (λ t r. inl r) (λ t k. elim k [ inl r ↦ r | inr q ↦ absurd (let p = q.0 in omega (arith, p.1)) ]) (h y)
tells_seeded ns d a e ha (o ∷ os) K m h y =
    tells_same ns _ _ (seeded os a (noted o a m) y)
    (λ t k. elim k [ inl r ↦ elim r [ inl u ↦ inl u | inr v ↦ inr (first v.0, v.1) ] | inr q ↦ inr (to_tail o y os q.0, q.1) ])
    (λ t k. elim k [ inl r ↦ inl (inl r) | inr q ↦ elim (in_cons o y os q.0) [ inl u ↦ inl (inr (u, q.1)) | inr v ↦ inr (v, q.1) ] ])
    (tells_seeded ns d a e ha os (λ z t. K z t ⊎ ((o ≡ z) × (t ≡ e))) (noted o a m) (λ z. tells_noted ns d (K z) o a e m z ha (h z)) y)
  where
    first : o ≡ y → Contains (o ∷ os) y
    first same = (0, omega arith, same)

abbrev Place : Type 0
Place = ℕ × flow.Shape

abbrev pair : ℕ → flow.Shape → Place
pair y t = (y, t)

place_is : (b : Place) (y : ℕ) (t : flow.Shape) → b.0 ≡ y → t ≡ b.1 → Some b ≡ Some (y, t)
place_is b y t e f =
    ap (λ (x : ℕ). Some (pair x b.1)) e ∙ ap (λ (x : flow.Shape). Some (pair y x)) (sym f)

place_at : (b : Place) (y : ℕ) (t : flow.Shape) → Some b ≡ Some (y, t) → (b.0 ≡ y) × (t ≡ b.1)
place_at b y t e =
    let p : Place = (y, t) in
    let g : b ≡ p = cc in
    (ap (λ (x : Place). x.0) g, sym (ap (λ (x : Place). x.1) g))

pub tells_followed : (im : Image) (ns : List Node) → Distinct ns → (R : flow.Shape → Type 0) (o : ℕ) (c : Option (ℕ × Shape)) (p : Option Place) (m : ℕ → Option Mark) (y : ℕ)
    → o < y → begins_at im y ≡ true → IsTarget ns c p → Tells ns R (m y) → Tells ns (λ t. R t ⊎ ((p ≡ Some (y, t)) × (is_jump_target im o y ≡ true))) (followed o c m y)
tells_followed im ns d R o None None m y lt at n h = tells_same ns R _ (m y) (λ t k. inl k) (λ t k. elim k [ inl x ↦ x | inr q ↦ absurd (let z = q.0 in cc) ]) h
tells_followed im ns d R o None (Some b) m y lt at n h = absurd n
tells_followed im ns d R o (Some a) None m y lt at n h = absurd n
tells_followed im ns d R o (Some a) (Some b) m y lt at n h =
    let before : nat_lt o y ≡ true = grind (arith, nat_tests, lt) in
    let fits : is_jump_target im o y ≡ true = rw (before, at) refl in
    elim (cases_lt o a.0) [
      | inl after ↦
          let l : nat_lt o a.0 ≡ true = grind (arith, nat_tests, after) in
          rw l (tells_same ns (λ t. R t ⊎ ((a.0 ≡ y) × (t ≡ b.1))) (λ t. R t ⊎ ((Some b ≡ Some (pair y t)) × (is_jump_target im o y ≡ true))) (noted a.0 a.1 m y)
          (λ t k. elim k [ inl x ↦ inl x | inr q ↦ inr (place_is b y t (sym n.0 ∙ q.0) q.1, fits) ])
          (λ t k. elim k [ inl x ↦ inl x | inr q ↦ let z = place_at b y t q.0 in inr (n.0 ∙ z.0, z.1) ])
          (tells_noted ns d R a.0 a.1 b.1 m y n.1 h))
      | inr lacks ↦
          let l : nat_lt o a.0 ≡ false = grind (arith, nat_tests, lacks) in
          rw l (tells_same ns R (λ t. R t ⊎ ((Some b ≡ Some (pair y t)) × (is_jump_target im o y ≡ true))) (m y) (λ t k. inl k)
          (λ t k. elim k [ inl x ↦ x | inr q ↦ let z = place_at b y t q.0 in let w = z.0 in let v = n.0 in absurd (omega (arith, w, v, lacks, lt)) ]) h)
    ]
