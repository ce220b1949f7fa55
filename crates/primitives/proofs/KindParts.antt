-- A kind with an argument that isn't an expression.
use Rattle.std.proofs.Common.{◌≡◌, ℕ, refl}
use Rattle.model.specs.Language.Conversions.{Conv, Got, Bad, Op, Gives, conv, then_conv, answer_of}
use Rattle.model.specs.Machine.Steps.{PCode, MVal, MW, codes_of}
use Rattle.model.specs.Language.Operators.{kind_op}
use Rattle.model.specs.Pattern.Patterns.{Kind, Answer, want_of_kind, with_answer}
use Rattle.model.specs.Pattern.Code.{basic_code}
use Rattle.model.specs.Language.Values.{Pat}
use Rattle.values.specs.declared.value.Value.{Value}
use Rattle.values.specs.declared.value.Value.TheVariants as v
use Rattle.values.specs.Values.{value_of}
use Rattle.primitives.specs.Parts.{known_op}

conv-then : {A B W C : Type 0} (c : Conv A) (f : A → B) (w : W) (k : B → Op W C) → conv c w (λ a. k (f a)) ≡ conv (then_conv c (λ a. Got (f a))) w k
conv-then (Got a) f w k = refl
conv-then (Bad e) f w k = refl

abbrev answer_given : Kind → Conv (Answer PCode) → MW → Op MW MVal
answer_given k c w = conv c w (λ y. Gives (Pat (basic_code (with_answer k y))) w)

by_known : (k : Kind) (u : MVal) (w : MW) → answer_given k (answer_of codes_of (want_of_kind k) u) w ≡ known_op k u w
by_known k u w = conv-then (answer_of codes_of (want_of_kind k) u) (with_answer k) w (λ b. Gives (Pat (basic_code b)) w)

pub kind_is_known : (k : Kind) (x : Value) (w : MW) → ((e : ℕ) → x ≡ v.Expression e → ⊥) → kind_op codes_of k (value_of x) w ≡ known_op k (value_of x) w
kind_is_known k (v.String s) w h = by_known k (value_of (v.String s)) w
kind_is_known k (v.Integer z) w h = by_known k (value_of (v.Integer z)) w
kind_is_known k (v.Pattern c) w h = by_known k (value_of (v.Pattern c)) w
kind_is_known k (v.Name n) w h = by_known k (value_of (v.Name n)) w
kind_is_known k (v.Expression e) w h = absurd (h e refl)
kind_is_known k (v.Object n) w h = by_known k (value_of (v.Object n)) w
