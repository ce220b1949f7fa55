-- Tables: a count, and that many entries.
use Rattle.std.proofs.Common.{◌≡◌, ℕ, zero, suc, ◌^◌, ◌<◌, ◌≤◌, true, List, [], ◌∷◌, ◌++◌, length, Result, Ok, refl, sym, ap, subst, ◌∙◌, append_assoc, arith}
use Rattle.std.specs.Prelude.{nat_lt, not}
use Rattle.std.specs.List.{flat_map}
use Rattle.std.specs.Int.{w32}
use Rattle.std.proofs.lemmas.Bool.Decides.{nat_tests}
use Rattle.std.proofs.lemmas.List.{append-nil}
use Rattle.std.proofs.lemmas.List.Concat.{flat_map-cons}
use Rattle.model.specs.declared.format.Miss.{Miss}
use Rattle.model.specs.declared.format.FormatRule.TheVariants.{BadTable}
use Rattle.model.specs.Module.Spelling.{u32, counted, most, Follow, IsTable}
use Rattle.model.specs.Module.Reading.{◌>>=◌, number_at, checked, count_at, entries_from, table_at}
use Rattle.model.specs.Laws.OneSpelling.{IsBytes}
use Rattle.model.proofs.Module.SpeltNumbers.{ok_bind, ok_is, checked_ok, Takes, Takes-then, u32_takes, u32_again}

not_less : (limit n : ℕ) → not (nat_lt limit n) ≡ true → n ≤ limit
not_less limit n e = grind (arith, nat_tests, e)

is_most : (limit n : ℕ) → n ≤ limit → not (nat_lt limit n) ≡ true
is_most limit n h = grind (arith, nat_tests, h)

pub count_takes : (limit : ℕ) (bytes : List ℕ) (x : ℕ × List ℕ) → IsBytes bytes → count_at limit bytes ≡ Ok x → Takes bytes (u32 x.0) x.1 × (x.0 ≤ limit)
unfolding count_at
count_takes limit bytes x fits e =
    let a = ok_bind (number_at w32 bytes) (λ n. checked (not (nat_lt limit n.0)) BadTable bytes n) x e in
    let g = checked_ok (not (nat_lt limit a.0.0)) BadTable bytes a.0 x a.2 in
    let t = u32_takes bytes a.0 fits a.1 in
    subst (λ (y : ℕ × List ℕ). Takes bytes (u32 y.0) y.1 × (y.0 ≤ limit)) g.1 (t.0, not_less limit a.0.0 g.0)

pub count_again : (limit n : ℕ) (rest : List ℕ) → n < 2 ^ 32 → n ≤ limit → count_at limit (u32 n ++ rest) ≡ Ok (n, rest)
unfolding count_at
count_again limit n rest lt le = rw (u32_again n rest lt, is_most limit n le) refl

-- an entry is read as it is spelt, where it fits behind those before it
pub record IsEntry {A : Type 0} (entry : List A → List ℕ → Result (A × List ℕ) Miss) (spell : A → List ℕ) (Fits : List A → A → Type 0) : Type 0 where
  pub takes : (front : List A) (bytes : List ℕ) (x : A × List ℕ) → IsBytes bytes → entry front bytes ≡ Ok x → Takes bytes (spell x.0) x.1 × Fits front x.0
  pub again : (front : List A) (a : A) (rest : List ℕ) → Fits front a → entry front (spell a ++ rest) ≡ Ok (a, rest)

module _ {A : Type 0} (entry : List A → List ℕ → Result (A × List ℕ) Miss) (spell : A → List ℕ) (Fits : List A → A → Type 0) (is : IsEntry entry spell Fits) where
  abbrev Read : List A → ℕ → List ℕ → List A × List ℕ → Type 0
  Read front n bytes x = (xs : List A) × (x.0 ≡ front ++ xs) × Takes bytes (flat_map spell xs) x.1 × (length xs ≡ n) × Follow Fits front xs

  pub entries_take : (n : ℕ) (front : List A) (bytes : List ℕ) (x : List A × List ℕ) → IsBytes bytes → entries_from entry front n bytes ≡ Ok x → Read front n bytes x
  unfolding entries_from
  entries_take zero front bytes x fits e =
      subst (Read front 0 bytes) (ok_is (front, bytes) x e) ([], sym (append-nil front), record { parts = refl; rest_fits = fits }, refl, tt)
  entries_take (suc n) front bytes x fits e =
      let a = ok_bind (entry front bytes) (λ y. entries_from entry (front ++ y.0 ∷ []) n y.1) x e in
      let t = is.takes front bytes a.0 fits a.1 in
      let r = entries_take n (front ++ a.0.0 ∷ []) a.0.1 x t.0.rest_fits a.2 in
      let both = Takes-then bytes (spell a.0.0) a.0.1 (flat_map spell r.0) x.1 t.0 r.2 in
      (a.0.0 ∷ r.0, r.1 ∙ append_assoc front (a.0.0 ∷ []) r.0, rw flat_map-cons both, ap suc r.3, (t.1, r.4))

  pub entries_again : (xs : List A) (front : List A) (rest : List ℕ) → Follow Fits front xs → entries_from entry front (length xs) (flat_map spell xs ++ rest) ≡ Ok (front ++ xs, rest)
  unfolding entries_from
  entries_again [] front rest h = ap (λ (ys : List A). Ok (ys, rest)) (sym (append-nil front))
  entries_again (a ∷ xs) front rest h =
      let regrouped : flat_map spell (a ∷ xs) ++ rest ≡ spell a ++ (flat_map spell xs ++ rest) = ap (λ (t : List ℕ). t ++ rest) (flat_map-cons spell a xs) ∙ append_assoc (spell a) (flat_map spell xs) rest in
      ap (entries_from entry front (suc (length xs))) regrouped
      ∙ rw (is.again front a (flat_map spell xs ++ rest) h.0) (entries_again xs (front ++ a ∷ []) rest h.1 ∙ ap (λ (ys : List A). Ok (ys, rest)) (append_assoc front (a ∷ []) xs))

  pub table_takes : (bytes : List ℕ) (x : List A × List ℕ) → IsBytes bytes → table_at entry bytes ≡ Ok x → Takes bytes (counted spell x.0) x.1 × IsTable Fits x.0
  unfolding table_at
  table_takes bytes x fits e =
      let a = ok_bind (count_at most bytes) (λ n. entries_from entry [] n.0 n.1) x e in
      let t = count_takes most bytes a.0 fits a.1 in
      let r = entries_take a.0.0 [] a.0.1 x t.0.rest_fits a.2 in
      let both = Takes-then bytes (u32 a.0.0) a.0.1 (flat_map spell r.0) x.1 t.0 r.2 in
      let whole : Takes bytes (u32 (length r.0) ++ flat_map spell r.0) x.1 = rw r.3 both in
      let short : length r.0 ≤ most = rw r.3 t.1 in
      let P : List A → Type 0 = λ ys. Takes bytes (counted spell ys) x.1 × IsTable Fits ys in
      subst P (sym r.1) (whole, record { count = short; entries = r.4 })

  pub table_again : (xs : List A) (rest : List ℕ) → IsTable Fits xs → table_at entry (counted spell xs ++ rest) ≡ Ok (xs, rest)
  unfolding table_at
  table_again xs rest h =
      let few = h.count in
      let lt : length xs < 2 ^ 32 = omega (arith, few) in
      ap (λ (t : List ℕ). count_at most t >>= λ n. entries_from entry [] n.0 n.1) (append_assoc (u32 (length xs)) (flat_map spell xs) rest)
      ∙ rw (count_again most (length xs) (flat_map spell xs ++ rest) lt few) (entries_again xs [] rest h.entries)
