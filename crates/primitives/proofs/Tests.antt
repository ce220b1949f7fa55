-- Tests of two values.
use Rattle.std.proofs.Common.{◌≡◌, ℤ, Bool, Option, Result, Ok, Err, ap, sym, ◌∙◌}
use Rattle.model.specs.declared.run.ErrorCode.{ErrorCode}
use Rattle.model.specs.Language.Conversions.{Faults}
use Rattle.model.specs.Language.Primitives.{compare_op, holds_if, returned, same_op}
use Rattle.model.specs.Language.Values.{Int}
use Rattle.model.specs.Machine.Steps.{MW}
use Rattle.primitives.specs.Answers.{SameOr, tested}
use Rattle.values.specs.Values.{value_of}
use Rattle.values.specs.declared.value.Value.{Value}
use Rattle.values.specs.declared.value.Value.TheVariants as value

-- IDENT of what is the same or not, or can't be asked
pub tested_same : (r : Result Bool ErrorCode) (same : Option Bool) (w : MW) → SameOr r same → returned (same_op (λ b. b) same w) ≡ tested r w
tested_same (Ok b) same w e = ap (λ o. returned (same_op (λ x. x) o w)) e
tested_same (Err x) same w e = ap (λ o. returned (same_op (λ x. x) o w)) e.0 ∙ ap (λ c. Faults c w) (sym e.1)

-- a comparison of two integers
pub integers_tested : (t : ℤ → ℤ → Bool) (a b : Value) (i j k l : ℤ) (r : Bool) (w : MW) → a ≡ value.Integer i → b ≡ value.Integer j → k ≡ i → l ≡ j → r ≡ t k l → returned (compare_op t (value_of a) (value_of b) w) ≡ tested (Ok r) w
integers_tested t a b i j k l r w left right same also is =
    ap (λ x. returned (compare_op t (value_of x) (value_of b) w)) left
    ∙ ap (λ x. returned (compare_op t (Int i) (value_of x) w)) right
    ∙ ap (λ z. returned (compare_op t (Int z) (Int j) w)) (sym same)
    ∙ ap (λ z. returned (compare_op t (Int k) (Int z) w)) (sym also)
    ∙ ap (λ x. returned (holds_if x w)) (sym is)
