-- Slots, four in a byte, are read and put as a list of them is.
use Rattle.std.proofs.Common.{◌≡◌, ◌≢◌, ℕ, zero, suc, ◌+◌, ◌*◌, ◌/◌, ◌%◌, ◌<◌, ◌≤◌, ◌==◌, Bool, true, false, List, length, get_or, set, subst, cond, replicate, refl, sym, ap, ◌∙◌, ◌⊎◌, inl, inr, arith, nat_eq, if◌then◌else◌, Option, Some, None}
use Rattle.std.proofs.lemmas.List.{get_or-replicate, get_or-set_same, get_or-set_other, get_or_past, length-replicate}
use Rattle.std.proofs.lemmas.Bool.{cases_eq, cases_lt, eq-eqb, ne_eqb}
use Rattle.flow_check.specs.Marks.{slotted}
use Rattle.flow_check.specs.declared.marks.Mark.{Mark}
use Rattle.flow_check.specs.Slots.{code_of, coded, digit, slot_at}
use Rattle.flow_check.specs.declared.slots.Slot.{Slot}
use Rattle.flow_check.specs.declared.slots.Slot.TheVariants.{Free, Bare, Other}

-- ---- bytes that are the same at all places

full : (k : ℕ) → k < 4 → coded (digit 255 k) ≡ Other
full zero lt = refl
full (suc zero) lt = refl
full (suc (suc zero)) lt = refl
full (suc (suc (suc zero))) lt = refl
full (suc (suc (suc (suc k)))) lt = absurd (omega (arith, lt))

clear : (k : ℕ) → k < 4 → coded (digit 0 k) ≡ Free
clear zero lt = refl
clear (suc zero) lt = refl
clear (suc (suc zero)) lt = refl
clear (suc (suc (suc zero))) lt = refl
clear (suc (suc (suc (suc k)))) lt = absurd (omega (arith, lt))

-- an offset without a slot
pub past_slot : (bytes : List ℕ) (y : ℕ) → length bytes ≤ y / 4 → Other ≡ slot_at bytes y
past_slot bytes y le = sym (ap (λ (b : ℕ). coded (digit b (y % 4))) (get_or_past bytes (y / 4) 255 le) ∙ full (y % 4) (omega arith))

-- all slots of new bytes are free
pub new_slots : (bytes : List ℕ) (n y : ℕ) → bytes ≡ replicate n 0 → (slot_at bytes y ≡ Free) ⊎ (slot_at bytes y ≡ Other)
new_slots bytes n y e = elim (cases_lt (y / 4) n) [
  | inl lt ↦ inl (ap (λ (b : ℕ). coded (digit b (y % 4))) (ap (λ (l : List ℕ). get_or l (y / 4) 255) e ∙ get_or-replicate n (y / 4) 0 255 lt) ∙ clear (y % 4) (omega arith))
  | inr ge ↦ inr (sym (past_slot bytes y (omega (arith, ge, ap length e, length-replicate {A = ℕ} n 0))))
]

-- ---- one place of a byte

pub first : (byte code k : ℕ) → code < 4 → k < 4 → digit (byte / 4 * 4 + code) k ≡ (if nat_eq k 0 then code else digit byte k)
first byte code zero small lt = omega (arith, small)
first byte code (suc zero) small lt = omega (arith, small)
first byte code (suc (suc zero)) small lt = omega (arith, small)
first byte code (suc (suc (suc zero))) small lt = omega (arith, small)
first byte code (suc (suc (suc (suc k)))) small lt = absurd (omega (arith, lt))

pub second : (byte code k : ℕ) → code < 4 → k < 4 → digit (byte / 16 * 16 + 4 * code + byte % 4) k ≡ (if nat_eq k 1 then code else digit byte k)
second byte code zero small lt = omega (arith, small)
second byte code (suc zero) small lt = omega (arith, small)
second byte code (suc (suc zero)) small lt = omega (arith, small)
second byte code (suc (suc (suc zero))) small lt = omega (arith, small)
second byte code (suc (suc (suc (suc k)))) small lt = absurd (omega (arith, lt))

pub third : (byte code k : ℕ) → code < 4 → k < 4 → digit (byte / 64 * 64 + 16 * code + byte % 16) k ≡ (if nat_eq k 2 then code else digit byte k)
third byte code zero small lt = omega (arith, small)
third byte code (suc zero) small lt = omega (arith, small)
third byte code (suc (suc zero)) small lt = omega (arith, small)
third byte code (suc (suc (suc zero))) small lt = omega (arith, small)
third byte code (suc (suc (suc (suc k)))) small lt = absurd (omega (arith, lt))

pub fourth : (byte code k : ℕ) → code < 4 → k < 4 → digit (64 * code + byte % 64) k ≡ (if nat_eq k 3 then code else digit byte k)
fourth byte code zero small lt = omega (arith, small)
fourth byte code (suc zero) small lt = omega (arith, small)
fourth byte code (suc (suc zero)) small lt = omega (arith, small)
fourth byte code (suc (suc (suc zero))) small lt = omega (arith, small)
fourth byte code (suc (suc (suc (suc k)))) small lt = absurd (omega (arith, lt))

-- ---- one slot

coded_back : (s : Slot) → coded (code_of s) ≡ s
coded_back Free = refl
coded_back Bare = refl
coded_back Other = refl

module _ (old new : List ℕ) (at b : ℕ) (slot : Slot) (within : at / 4 < length old) (put : new ≡ set old (at / 4) b) (all : (k : ℕ) → k < 4 → digit b k ≡ (if nat_eq k (at % 4) then code_of slot else digit (get_or old (at / 4) 255) k)) where
  in_byte : (y : ℕ) → y / 4 ≡ at / 4 → slot_at new y ≡ coded (if nat_eq (y % 4) (at % 4) then code_of slot else digit (get_or old (at / 4) 255) (y % 4))
  in_byte y same =
      ap (λ (q : ℕ). coded (digit (get_or new q 255) (y % 4))) same
      ∙ ap (λ (l : List ℕ). coded (digit (get_or l (at / 4) 255) (y % 4))) put
      ∙ ap (λ (d : ℕ). coded (digit d (y % 4))) (get_or-set_same old (at / 4) b 255 within)
      ∙ ap coded (all (y % 4) (omega arith))

  pub put_slot : (y : ℕ) → slot_at new y ≡ (if nat_eq at y then slot else slot_at old y)
  put_slot y = elim (cases_eq (y / 4) (at / 4)) [
    | inl same ↦ elim (cases_eq (y % 4) (at % 4)) [
      | inl e ↦
          let is : at ≡ y = omega (arith, same, e) in
          rw (eq-eqb at y is) (in_byte y same ∙ ap (λ (t : Bool). coded (if t then code_of slot else digit (get_or old (at / 4) 255) (y % 4))) (eq-eqb (y % 4) (at % 4) e) ∙ coded_back slot)
      | inr ne ↦
          let other : at ≢ y = λ q. ne (sym (ap (λ (n : ℕ). n % 4) q)) in
          rw (ne_eqb at y other) (in_byte y same ∙ ap (λ (t : Bool). coded (if t then code_of slot else digit (get_or old (at / 4) 255) (y % 4))) (ne_eqb (y % 4) (at % 4) ne) ∙ ap (λ (q : ℕ). coded (digit (get_or old q 255) (y % 4))) (sym same))
    ]
    | inr ne ↦
        let other : at ≢ y = λ q. ne (sym (ap (λ (n : ℕ). n / 4) q)) in
        rw (ne_eqb at y other) (ap (λ (l : List ℕ). coded (digit (get_or l (y / 4) 255) (y % 4))) put ∙ ap (λ (d : ℕ). coded (digit d (y % 4))) (get_or-set_other old (at / 4) (y / 4) b 255 ne))
  ]

-- ---- the mark of an offset without a slot

pub put_past : (bytes : List ℕ) (t : ℕ) (mark : Mark) (old new : ℕ → Option Mark) → length bytes ≤ t / 4 → ((q : ℕ) → new q ≡ cond (nat_eq t q) (Some mark) (old q)) → (y : ℕ) → slotted (slot_at bytes y) (new y) ≡ (if nat_eq t y then Some mark else slotted (slot_at bytes y) (old y))
put_past bytes t mark old new le all y = elim (cases_eq t y) [
  | inl e ↦
      let far : length bytes ≤ y / 4 = subst (λ (q : ℕ). length bytes ≤ q / 4) e le in
      rw (eq-eqb t y e) (ap (slotted (slot_at bytes y)) (all y ∙ ap (λ (b : Bool). cond b (Some mark) (old y)) (eq-eqb t y e)) ∙ ap (λ (s : Slot). slotted s (Some mark)) (sym (past_slot bytes y far)))
  | inr ne ↦ rw (ne_eqb t y ne) (ap (slotted (slot_at bytes y)) (all y ∙ ap (λ (b : Bool). cond b (Some mark) (old y)) (ne_eqb t y ne)))
]
