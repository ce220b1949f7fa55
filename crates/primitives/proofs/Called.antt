-- What APPLY calls.
use Rattle.std.proofs.Common.{◌≡◌, ◌<◌, ◌≤◌, List, ◌∷◌, length, Bool, true, false, nat_lt, map, Some, None, Ok, Err, ap, subst, ◌∙◌, arith}
use Rattle.std.specs.Borrow.{Bor}
use Rattle.std.specs.Prelude.{if◌then◌else◌}
use Rattle.std.proofs.lemmas.Bool.Decides.{nat_tests}
use Rattle.model.specs.declared.image.Level.{Level}
use Rattle.model.specs.declared.primitives.PrimId.{PrimId}
use Rattle.model.specs.declared.primitives.PrimId.TheVariants as p
use Rattle.model.specs.declared.run.ErrorCode.TheVariants as error
use Rattle.model.specs.Deck.Trees.{Bytes}
use Rattle.model.specs.Language.Names.{prim_at, most_args}
use Rattle.model.specs.Language.Conversions.{Conv, Got, Gives, Faults, conv, to_variable}
use Rattle.model.specs.Machine.Steps.{MVal, MW, codes_of}
use Rattle.model.specs.Language.Primitives.{Calls, applied, prim_op}
use Rattle.values.specs.Answers.{Converts}
use Rattle.values.specs.declared.fault.Fault.{Fault}
use Rattle.values.specs.declared.fault.Fault.TheVariants as fault
use Rattle.values.specs.Values.{value_of}
use Rattle.values.specs.declared.value.Value.{Value}
use Rattle.primitives.specs.Answers.{ComesTo}
use Rattle.primitives.specs.Calling.{IsApplied, IsOtherApplied, IsReached}
use Rattle.primitives.specs.declared.applying.Applied.{Applied}
use Rattle.primitives.specs.declared.applying.Applied.TheVariants as applied_to

module _ (v : MVal) (vs : List MVal) (f : Bytes) (l : Level) (w : MW) (at : w.plain.level ≡ l) (is : to_variable v ≡ Got f) where
  by_name : prim_op codes_of p.Apply (v ∷ vs) w ≡ applied f vs w (λ q. prim_op codes_of q vs w) (prim_at l f)
  by_name =
      ap (λ (c : Conv Bytes). conv c w (λ g. applied g vs w (λ q. prim_op codes_of q vs w) (prim_at w.plain.level g))) is
      ∙ ap (λ k. applied f vs w (λ q. prim_op codes_of q vs w) (prim_at k f)) at

  pub calls_function : prim_at l f ≡ None → prim_op codes_of p.Apply (v ∷ vs) w ≡ Gives (Calls f vs) w
  calls_function none = by_name ∙ ap (applied f vs w (λ q. prim_op codes_of q vs w)) none

  counted : (q : PrimId) (b : Bool) → prim_at l f ≡ Some q → nat_lt (most_args q) (length vs) ≡ b
      → prim_op codes_of p.Apply (v ∷ vs) w ≡ (if b then Faults error.TooManyArguments w else prim_op codes_of q vs w)
  counted q b named many =
      by_name
      ∙ ap (applied f vs w (λ r. prim_op codes_of r vs w)) named
      ∙ ap (λ x. if x then Faults error.TooManyArguments w else prim_op codes_of q vs w) many

  pub calls_primitive : (q : PrimId) → prim_at l f ≡ Some q → length vs ≤ most_args q → prim_op codes_of p.Apply (v ∷ vs) w ≡ prim_op codes_of q vs w
  calls_primitive q named few = counted q false named (grind (arith, nat_tests, few))

  pub too_many : (q : PrimId) → prim_at l f ≡ Some q → most_args q < length vs → prim_op codes_of p.Apply (v ∷ vs) w ≡ Faults error.TooManyArguments w
  too_many q named many = counted q true named (grind (arith, nat_tests, many))

-- what isn't the name of a variable
pub not_applied : (v : MVal) (vs : List MVal) (w : MW) (e : Fault) → Converts {A = Bytes} (Err e) (to_variable v) → IsApplied (Err e) (v ∷ vs) w
not_applied v vs w (fault.Error e) h = ap (λ (c : Conv Bytes). conv c w (λ g. applied g vs w (λ q. prim_op codes_of q vs w) (prim_at w.plain.level g))) h
not_applied v vs w (fault.Stop s) h = tt

-- ---- what APPLY calls at last, after these arguments of its own

pub no_more : (e : Fault) (all : List MVal) (v : MVal) (vs : List MVal) (w : MW) → prim_op codes_of p.Apply all w ≡ prim_op codes_of p.Apply (v ∷ vs) w → IsApplied (Err e) (v ∷ vs) w → IsReached (Err e) all w
no_more (fault.Error e) all v vs w same h = same ∙ h
no_more (fault.Stop s) all v vs w same h = tt

pub reached : (a : Applied) (xs : Bor (List Value)) (all : List MVal) (v : MVal) (w : MW) → prim_op codes_of p.Apply all w ≡ prim_op codes_of p.Apply (v ∷ map value_of xs.now) w
    → IsApplied (Ok a) (v ∷ map value_of xs.now) w → IsOtherApplied a → IsReached (Ok (a, xs)) all w
reached (applied_to.Primitive q) xs all v w same h other = (other, same ∙ h)
reached (applied_to.Function f) xs all v w same h other = same ∙ h

pub turned : (a : Applied) (all : List MVal) (v : MVal) (vs : List MVal) (w : MW) → prim_op codes_of p.Apply all w ≡ prim_op codes_of p.Apply (v ∷ vs) w
    → IsApplied (Ok a) (v ∷ vs) w → a ≡ applied_to.Primitive p.Apply → prim_op codes_of p.Apply all w ≡ prim_op codes_of p.Apply vs w
turned a all v vs w same h is =
    let goes : prim_op codes_of p.Apply (v ∷ vs) w ≡ prim_op codes_of p.Apply vs w = subst (λ x. IsApplied (Ok x) (v ∷ vs) w) is h in
    same ∙ goes

-- what APPLY can't call
pub refused : (e : Fault) (vs : List MVal) (w : MW) → IsReached (Err e) vs w → ComesTo (Err e) w (prim_op codes_of p.Apply vs w)
refused (fault.Error e) vs w h = h
refused (fault.Stop s) vs w h = tt
