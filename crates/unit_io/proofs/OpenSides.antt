-- Units that are open, by number.
use Rattle.std.proofs.Common.{◌≡◌, ℕ, suc, ◌+◌, ◌<◌, length, get_or, set, arith, ap, sym, List, [], ◌∷◌, ◌++◌, Bool, true, false, Option, Some, None, nat_eq, refl, cond, ◌∙◌, inl, inr, subst, ◌≢◌}
use Rattle.std.proofs.lemmas.Option.{none-some}
use Rattle.std.proofs.lemmas.Bool.{cases_eq}
use Rattle.std.proofs.lemmas.Bool.Decides.{nat_tests}
use Rattle.std.specs.Prelude.{◌⊎◌, IsTrue, if◌then◌else◌}
use Rattle.unit_io.specs.Held.{UnitsView, IsKept, IsReadable, IsWritable, is_shut, side_at, output_of, place_of, with_side}
use Rattle.unit_io.specs.Ways.{Reading, Writing}
use Rattle.unit_io.specs.declared.mem.OpenUnit.{OpenUnit}
use Rattle.unit_io.specs.declared.mem.Side.{Side}
use Rattle.unit_io.specs.declared.mem.Side.TheVariants.{Input, Output}

output_if : (b : Bool) (s t : Option Side) → output_of s ≡ output_of t → output_of (cond b s t) ≡ output_of t
output_if true s t h = h
output_if false s t h = refl

output_either : (b : Bool) (o s t : Option Side) → output_of s ≡ output_of t → output_of (cond b o s) ≡ output_of (cond b o t)
output_either true o s t h = refl
output_either false o s t h = h

-- one more open unit that has written nothing
pub output_snoc : (os : List OpenUnit) (o : OpenUnit) (unit : ℕ) → output_of (Some o.side) ≡ [] → output_of (side_at unit (os ++ o ∷ [])) ≡ output_of (side_at unit os)
output_snoc [] o unit h = output_if (nat_eq unit o.unit) (Some o.side) None h
output_snoc (p ∷ os) o unit h = output_either (nat_eq unit p.unit) (Some p.side) (side_at unit (os ++ o ∷ [])) (side_at unit os) (output_snoc os o unit h)

pub still_kept : (h : UnitsView) (o : OpenUnit) → output_of (Some o.side) ≡ [] → IsKept h → IsKept (record h { opened = h.opened ++ o ∷ [] })
still_kept h o fresh k = record { long = k.long; kept = λ unit. output_snoc h.opened o unit fresh ∙ k.kept unit }

-- what is known of the place of an open unit, in a list whose first has the place j
pub record IsThere (j k unit : ℕ) (os : List OpenUnit) : Type 0 where
  pub at : ℕ
  pub is : k ≡ j + at
  pub within : at < length os
  pub side : (d : OpenUnit) → side_at unit os ≡ Some (get_or os at d).side
  pub changed : (d : OpenUnit) (s : Side) → set os at (record { unit = (get_or os at d).unit; side = s }) ≡ with_side unit s os

there_or : (b : Bool) (j k unit : ℕ) (o : OpenUnit) (os : List OpenUnit) → nat_eq unit o.unit ≡ b → (place_of (j + 1) unit os ≡ Some k → IsThere (j + 1) k unit os) → cond b (Some j) (place_of (j + 1) unit os) ≡ Some k → IsThere j k unit (o ∷ os)
there_or true j k unit o os e later is = record {
  at = 0;
  is = grind (arith, is);
  within = omega arith;
  side = λ d. rw e refl;
  changed = λ d s. rw e refl;
}
there_or false j k unit o os e later is =
    let t = later is in
    record {
      at = suc t.at;
      is = omega (arith, t.is);
      within = omega (arith, t.within);
      side = λ d. rw e (t.side d);
      changed = λ d s. rw e (ap (λ ps. o ∷ ps) (t.changed d s));
    }

pub there : (j k unit : ℕ) (os : List OpenUnit) → place_of j unit os ≡ Some k → IsThere j k unit os
there j k unit [] is = absurd (none-some k is)
there j k unit (o ∷ os) is = there_or (nat_eq unit o.unit) j k unit o os refl (there (j + 1) k unit os) is

nowhere_or : (b : Bool) (j unit : ℕ) (o : OpenUnit) (os : List OpenUnit) → nat_eq unit o.unit ≡ b → (place_of (j + 1) unit os ≡ None → side_at unit os ≡ None) → cond b (Some j) (place_of (j + 1) unit os) ≡ None → side_at unit (o ∷ os) ≡ None
nowhere_or true j unit o os e later is = absurd (none-some j (sym is))
nowhere_or false j unit o os e later is = rw e (later is)

pub nowhere : (j unit : ℕ) (os : List OpenUnit) → place_of j unit os ≡ None → side_at unit os ≡ None
nowhere j unit [] is = refl
nowhere j unit (o ∷ os) is = nowhere_or (nat_eq unit o.unit) j unit o os refl (nowhere (j + 1) unit os) is

-- ---- a unit whose place is known

pub within : (k unit : ℕ) (os : List OpenUnit) → place_of 0 unit os ≡ Some k → k < length os
within k unit os is = let t = there 0 k unit os is in omega (arith, t.is, t.within)

pub side_there : (k unit : ℕ) (os : List OpenUnit) (d : OpenUnit) → place_of 0 unit os ≡ Some k → side_at unit os ≡ Some (get_or os k d).side
side_there k unit os d is =
    let t = there 0 k unit os is in
    let same : t.at ≡ k = omega (arith, t.is) in
    t.side d ∙ ap (λ n. Some (get_or os n d).side) same

pub changed_there : (k unit : ℕ) (os : List OpenUnit) (d : OpenUnit) (s : Side) → place_of 0 unit os ≡ Some k → set os k (record { unit = (get_or os k d).unit; side = s }) ≡ with_side unit s os
changed_there k unit os d s is =
    let t = there 0 k unit os is in
    let same : k ≡ t.at = omega (arith, t.is) in
    ap (λ n. set os n (record { unit = (get_or os n d).unit; side = s })) same ∙ t.changed d s

-- ---- a unit with another side

pub side_with : (unit u : ℕ) (s t : Side) (os : List OpenUnit) → side_at unit os ≡ Some t → side_at u (with_side unit s os) ≡ (if nat_eq unit u then Some s else side_at u os)
side_with unit u s t [] is = absurd (none-some t is)
side_with unit u s t (o ∷ os) is = elim (cases_eq unit o.unit) [
  | inl e ↦ elim (cases_eq unit u) [
    | inl f ↦ grind (arith, nat_tests, e, f)
    | inr g ↦ grind (arith, nat_tests, e, g)
  ]
  | inr n ↦ elim (cases_eq unit u) [
    | inl f ↦ grind (arith, nat_tests, n, f, is, side_with unit u s t os)
    | inr g ↦ grind (arith, nat_tests, n, g, is, side_with unit u s t os)
  ]
]

pub side_of_same : (unit : ℕ) (s t : Side) (os : List OpenUnit) → side_at unit os ≡ Some t → side_at unit (with_side unit s os) ≡ Some s
side_of_same unit s t os is = grind (arith, nat_tests, side_with unit unit s t os is)

pub side_of_other : (unit u : ℕ) (s t : Side) (os : List OpenUnit) → side_at unit os ≡ Some t → unit ≢ u → side_at u (with_side unit s os) ≡ side_at u os
side_of_other unit u s t os is n = grind (arith, nat_tests, n, side_with unit u s t os is)

-- what a function of sides that doesn't tell the two apart answers is as before
pub same_for : {A : Type 0} (f : Option Side → A) (unit u : ℕ) (s t : Side) (os : List OpenUnit) → side_at unit os ≡ Some t → f (Some s) ≡ f (Some t) → f (side_at u (with_side unit s os)) ≡ f (side_at u os)
same_for f unit u s t os is h = elim (cases_eq unit u) [
  | inl e ↦ subst (λ v. f (side_at v (with_side unit s os)) ≡ f (side_at v os)) e (ap f (side_of_same unit s t os is) ∙ h ∙ ap f (sym is))
  | inr n ↦ ap f (side_of_other unit u s t os is n)
]

-- ---- a unit that is open in a way doesn't fail in that way

pub never_shut : (s : Option Side) → (IsTrue (is_shut Reading s) × IsReadable s) ⊎ (IsTrue (is_shut Writing s) × IsWritable s) → ⊥
never_shut None (inl (shut, fit)) = fit
never_shut None (inr (shut, fit)) = fit
never_shut (Some (Input records)) (inl (shut, fit)) = cc
never_shut (Some (Input records)) (inr (shut, fit)) = fit
never_shut (Some (Output bytes)) (inl (shut, fit)) = fit
never_shut (Some (Output bytes)) (inr (shut, fit)) = cc
