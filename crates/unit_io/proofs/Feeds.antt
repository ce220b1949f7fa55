-- The first line feed of bytes whose first part was searched before.
use Rattle.std.proofs.Common.{◌≡◌, ℕ, ◌+◌, ◌-◌, ◌<◌, ◌≤◌, List, length, take, drop, get_or, Option, Some, None, inl, inr, sym, ap, subst, ◌∙◌, arith}
use Rattle.std.specs.Prelude.{◌==◌}
use Rattle.std.proofs.lemmas.List.{take_rest, length-drop, get_or-drop}
use Rattle.std.proofs.lemmas.Bool.{cases_lt}
use Rattle.memchr.specs.Find.{IsFirstByte, Nowhere, Passes, is_byte}

module _ (items : List ℕ) (start searched : ℕ) (low : start ≤ searched) (none : Nowhere (Passes (is_byte 10) items) start searched) where
  -- none up to `stop`, since none of those that weren't searched is one
  further : (stop : ℕ) → ((j : ℕ) → searched + j < stop → ¬ Passes (is_byte 10) (drop searched items) j) → Nowhere (Passes (is_byte 10) items) start stop
  further stop behind j from below is =
      elim (cases_lt j searched) [
        | inl before ↦ none j from before is
        | inr after ↦
            let same : searched + (j - searched) ≡ j = omega arith in
            behind (j - searched) (omega arith) (ap (λ v. v == 10) (get_or-drop searched items (j - searched) 0 ∙ ap (λ n. get_or items n 0) same) ∙ is)
      ]

  -- the same of the bytes from `start` on
  from_start : (stop : ℕ) → Nowhere (Passes (is_byte 10) items) start stop → (j : ℕ) → start + j < stop → ¬ Passes (is_byte 10) (drop start items) j
  from_start stop nowhere j below is =
      nowhere (start + j) (omega arith) below (ap (λ v. v == 10) (sym (get_or-drop start items j 0)) ∙ is)

  unseen : (r : Option ℕ) → IsFirstByte (is_byte 10) (take (length items - searched) (drop searched items)) r → IsFirstByte (is_byte 10) (drop searched items) r
  unseen r h = subst (λ xs. IsFirstByte (is_byte 10) xs r) (take_rest items searched) h

  pub none_before : (k : ℕ) → IsFirstByte (is_byte 10) (take (length items - searched) (drop searched items)) (Some k) → Nowhere (Passes (is_byte 10) items) start (searched + k)
  none_before k h =
      let found : IsFirstByte (is_byte 10) (drop searched items) (Some k) = unseen (Some k) h in
      further (searched + k) (λ j lt. found.0.before j (omega arith) (omega (arith, lt)))

  pub within : (k : ℕ) → IsFirstByte (is_byte 10) (take (length items - searched) (drop searched items)) (Some k) → searched + k < length items
  within k h =
      let found : IsFirstByte (is_byte 10) (drop searched items) (Some k) = unseen (Some k) h in
      omega (arith, found.0.high, length-drop searched items)

  pub found_there : (k : ℕ) → IsFirstByte (is_byte 10) (take (length items - searched) (drop searched items)) (Some k) → IsFirstByte (is_byte 10) (drop start items) (Some (searched + k - start))
  found_there k h =
      let found : IsFirstByte (is_byte 10) (drop searched items) (Some k) = unseen (Some k) h in
      let bound : searched + k < length items = within k h in
      let same : start + (searched + k - start) ≡ searched + k = omega arith in (
        record {
          low = omega arith;
          high = omega (arith, length-drop start items);
          before = λ j from below. from_start (searched + k) (none_before k h) j (omega arith);
        },
        ap (λ v. v == 10) (get_or-drop start items (searched + k - start) 0 ∙ ap (λ n. get_or items n 0) same ∙ sym (get_or-drop searched items k 0)) ∙ found.1,
      )

  pub none_left : IsFirstByte (is_byte 10) (take (length items - searched) (drop searched items)) None → Nowhere (Passes (is_byte 10) items) start (length items)
  none_left h =
      let found : IsFirstByte (is_byte 10) (drop searched items) None = unseen None h in
      further (length items) (λ j lt. found j (omega arith) (omega (arith, length-drop searched items)))

  pub none_there : IsFirstByte (is_byte 10) (take (length items - searched) (drop searched items)) None → IsFirstByte (is_byte 10) (drop start items) None
  none_there h j from below =
      from_start (length items) (none_left h) j (omega (arith, length-drop start items))
