-- Counts that a match wants.
use Rattle.std.proofs.Common.{◌≡◌, ℕ, ℤ, sym, ap}
use Rattle.model.specs.declared.run.ErrorCode.{ErrorCode}
use Rattle.model.specs.Language.Conversions.{Conv, Got, Bad, answer_of, count_of, then_conv, to_integer}
use Rattle.model.specs.Machine.Steps.{MVal, PCode, codes_of}
use Rattle.model.specs.Pattern.Patterns.{Answer, IsCount, WantCount}

abbrev as_count : ℕ → Conv (Answer PCode)
as_count n = Got (IsCount n)

-- what is no count is no answer
pub no_count : (v : MVal) (e : ErrorCode) → Bad e ≡ then_conv (to_integer v) count_of → answer_of codes_of WantCount v ≡ Bad e
no_count v e h = by_integer (to_integer v) h
  where
    by_integer : (c : Conv ℤ) → Bad e ≡ then_conv c count_of → then_conv c (λ z. then_conv (count_of z) as_count) ≡ Bad e
    by_integer (Got z) h = ap (λ x. then_conv x as_count) (sym h)
    by_integer (Bad x) h = ap (λ y. then_conv y as_count) (sym h)
