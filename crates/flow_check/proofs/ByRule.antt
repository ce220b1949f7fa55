-- What an instruction asks and where it leads, by its rule.
use Rattle.std.proofs.Common.{◌≡◌, ℕ, zero, suc, List, [], ◌∷◌, ◌++◌, refl, sym, ap, subst, arith, Option, Some, None, Bool, true, false, inl, inr, ◌⊎◌, if◌then◌else◌}
use Rattle.std.specs.List.{Contains}
use Rattle.model.specs.declared.instr.Instr.{Instr}
use Rattle.model.specs.declared.instr.Instr.TheVariants as op
use Rattle.model.specs.declared.image.Image.{Image}
use Rattle.model.specs.Module.Flow.{Shape, Asks, leads, is_jump_target}
use Rattle.flow_check.specs.declared.rules.Rule.{Rule}
use Rattle.flow_check.specs.Rules.{rule_of, Asked, next_of, target_of, go_on, go_to}

pub asks_are : (i : Instr) (s : Shape) → (Asks i s → Asked (rule_of i) s) × (Asked (rule_of i) s → Asks i s)
asks_are op.End s = (λ h. h, λ h. h)
asks_are _ s = (λ h. h, λ h. h)

leads_are : (im : Image) (i : Instr) (at next : ℕ) (s : Shape) → leads im i at next s ≡ go_on next (next_of (rule_of i) s) ++ go_to im at (target_of (rule_of i) s)
leads_are im op.End at next s = refl
leads_are im (op.Begin f) at next s = refl
leads_are im (op.Try t) at next s = refl
leads_are im _ at next s = refl

-- to the next instruction, or to a target
abbrev pub LedTo : Image → (at next : ℕ) → Rule → Shape → ℕ → Shape → Type 0
LedTo im at next r s y t = ((next ≡ y) × (next_of r s ≡ Some t)) ⊎ ((target_of r s ≡ Some (y, t)) × (is_jump_target im at y ≡ true))

abbrev Place : Type 0
Place = ℕ × Shape

in_none : (p : Place) → Contains [] p → ⊥
in_none p (k, lt, e) = absurd (omega (arith, lt))

in_cons : (q p : Place) (ps : List Place) → Contains (q ∷ ps) p → (q ≡ p) ⊎ Contains ps p
in_cons q p ps (zero, lt, e) = inl e
in_cons q p ps (suc k, lt, e) = inr (k, omega (arith, lt), e)

to_head : (p : Place) (ps : List Place) → Contains (p ∷ ps) p
to_head p ps = (0, omega arith, refl)

to_tail : (q p : Place) (ps : List Place) → Contains ps p → Contains (q ∷ ps) p
to_tail q p ps (k, lt, e) = (suc k, omega (arith, lt), e)

module _ (im : Image) (at : ℕ) (y : ℕ) (t : Shape) where
  target_if : (q : Place) (b : Bool) → is_jump_target im at q.0 ≡ b → Contains {X = Place} (if b then (q.0, q.1) ∷ [] else []) (y, t) → (Some q ≡ Some (y, t)) × (is_jump_target im at y ≡ true)
  target_if q true e h = elim (in_cons q (y, t) [] h) [
    | inl f ↦ (ap Some f, subst (λ (z : Place). is_jump_target im at z.0 ≡ true) f e)
    | inr g ↦ absurd (in_none (y, t) g)
  ]
  target_if q false e h = absurd (in_none (y, t) h)

  target_from : (p : Option Place) → Contains (go_to im at p) (y, t) → (p ≡ Some (y, t)) × (is_jump_target im at y ≡ true)
  target_from None h = absurd (in_none (y, t) h)
  target_from (Some q) h = target_if q (is_jump_target im at q.0) refl h

  led_parts : (next : ℕ) (o : Option Shape) (p : Option Place) → Contains (go_on next o ++ go_to im at p) (y, t) → ((next ≡ y) × (o ≡ Some t)) ⊎ ((p ≡ Some (y, t)) × (is_jump_target im at y ≡ true))
  led_parts next None p h = inr (target_from p h)
  led_parts next (Some s) p h = elim (in_cons (next, s) (y, t) (go_to im at p) h) [
    | inl f ↦ inl (ap (λ (z : Place). z.0) f, ap (λ (z : Place). Some z.1) f)
    | inr g ↦ inr (target_from p g)
  ]

  go_target : (p : Option Place) → p ≡ Some (y, t) → is_jump_target im at y ≡ true → Contains (go_to im at p) (y, t)
  go_target p e g = subst (λ q. Contains (go_to im at q) (y, t)) (sym e) (rw g (to_head (y, t) []))

  after_next : (next : ℕ) (o : Option Shape) (ps : List Place) → Contains ps (y, t) → Contains (go_on next o ++ ps) (y, t)
  after_next next None ps h = h
  after_next next (Some s) ps h = to_tail (next, s) (y, t) ps h

  parts_led : (next : ℕ) (o : Option Shape) (p : Option Place) → ((next ≡ y) × (o ≡ Some t)) ⊎ ((p ≡ Some (y, t)) × (is_jump_target im at y ≡ true)) → Contains (go_on next o ++ go_to im at p) (y, t)
  parts_led next o p (inl h) =
      subst (λ z. Contains (go_on next z ++ go_to im at p) (y, t)) (sym h.1)
      (subst (λ z. Contains ((z, t) ∷ go_to im at p) (y, t)) (sym h.0) (to_head (y, t) (go_to im at p)))
  parts_led next o p (inr h) = after_next next o (go_to im at p) (go_target p h.0 h.1)

  pub led_from : (i : Instr) (next : ℕ) (s : Shape) → Contains (leads im i at next s) (y, t) → LedTo im at next (rule_of i) s y t
  led_from i next s h = led_parts next (next_of (rule_of i) s) (target_of (rule_of i) s) (subst (λ l. Contains l (y, t)) (leads_are im i at next s) h)

  pub led_to : (i : Instr) (next : ℕ) (s : Shape) → LedTo im at next (rule_of i) s y t → Contains (leads im i at next s) (y, t)
  led_to i next s h = subst (λ l. Contains l (y, t)) (sym (leads_are im i at next s)) (parts_led next (next_of (rule_of i) s) (target_of (rule_of i) s) h)

-- ---- offsets
