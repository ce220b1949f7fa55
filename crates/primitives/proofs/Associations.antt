-- Variables that are associated with units.
use Rattle.std.proofs.Common.{◌≡◌, ℕ, [], Bool, true, false, Some, None, refl, sym, ap, ◌∙◌}
use Rattle.std.specs.Prelude.{if◌then◌else◌}
use Rattle.model.specs.Deck.Trees.{Bytes}
use Rattle.model.specs.Language.Values.{Str}
use Rattle.model.specs.Language.Conversions.{Conv, Got, Bad, Op, Gives, conv, then_conv, to_integer, to_variable, is_null}
use Rattle.model.specs.Language.Calls.{AValue}
use Rattle.model.specs.Machine.Steps.{MVal, MW}
use Rattle.model.specs.Language.Primitives.{Returns, returned, unit_number, unit_op, input_op, output_op, detach_op, set_reads, set_writes}
use Rattle.primitives.specs.Units.{unit_of}

unit_is : (usual : ℕ) (v : MVal) (w : MW) (k : ℕ → Op MW MVal) → unit_op usual v w k ≡ conv (unit_of usual v) w k
unit_is usual v w k = by (is_null v) (to_integer v)
  where
    by : (b : Bool) (c : Conv _) → (if b then k usual else conv c w (λ z. conv (unit_number z) w k)) ≡ conv (if b then Got usual else then_conv c unit_number) w k
    by true c = refl
    by false (Got z) = refl
    by false (Bad e) = refl

-- null is given, and this world
gives_null : (o : Op MW MVal) (u : MVal) (w w1 : MW) → o ≡ Gives (Str []) w1 → u ≡ Str [] → w ≡ w1 → returned o ≡ Gives (Returns (AValue u)) w
gives_null o u w w1 is null same = ap returned is ∙ (λ i. Gives (Returns (AValue (sym null i))) (sym same i))

module _ (a b u : MVal) (x : Bytes) (w w1 : MW) (to : to_variable a ≡ Got x) (null : u ≡ Str []) where
  pub was_detached : w1 ≡ set_writes x None (set_reads x None w) → returned (detach_op a w) ≡ Gives (Returns (AValue u)) w1
  was_detached is = gives_null (detach_op a w) u w1 _ (ap (λ c. conv c w (λ y. Gives (Str []) (set_writes y None (set_reads y None w)))) to) null is

  module _ (n : ℕ) where
    pub reads_now : Got n ≡ unit_of 5 b → w1 ≡ set_reads x (Some n) w → returned (input_op a b w) ≡ Gives (Returns (AValue u)) w1
    reads_now unit is =
        gives_null (input_op a b w) u w1 _
        (ap (λ c. conv c w (λ y. unit_op 5 b w (λ k. Gives (Str []) (set_reads y (Some k) w)))) to
        ∙ unit_is 5 b w (λ k. Gives (Str []) (set_reads x (Some k) w))
        ∙ ap (λ c. conv c w (λ k. Gives (Str []) (set_reads x (Some k) w))) (sym unit))
        null is

    pub writes_now : Got n ≡ unit_of 6 b → w1 ≡ set_writes x (Some n) w → returned (output_op a b w) ≡ Gives (Returns (AValue u)) w1
    writes_now unit is =
        gives_null (output_op a b w) u w1 _
        (ap (λ c. conv c w (λ y. unit_op 6 b w (λ k. Gives (Str []) (set_writes y (Some k) w)))) to
        ∙ unit_is 6 b w (λ k. Gives (Str []) (set_writes x (Some k) w))
        ∙ ap (λ c. conv c w (λ k. Gives (Str []) (set_writes x (Some k) w))) (sym unit))
        null is
