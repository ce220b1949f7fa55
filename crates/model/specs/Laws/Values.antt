-- The laws of conversions, as statements: how the definitions of values meet those of texts and of Rust's integers.
use Rattle.std.specs.Prelude.{◌≡◌, ℕ, ◌∷◌, ℤ, FitsSigned}
use Rattle.std.specs.Int.{w64}
use Rattle.std.specs.Str.Parse.{signed_digits_value}
use Rattle.model.specs.declared.run.ErrorCode.{ErrorCode}
use Rattle.model.specs.declared.run.ErrorCode.TheVariants as error
use Rattle.model.specs.Deck.Trees.{Bytes}
use Rattle.model.specs.Language.Strings.{IsIntText}
use Rattle.model.specs.Language.Conversions.{Got, Bad, fit, read_integer}

-- the text of an integer is read as that integer
abbrev pub ReadsIntegers : Type 0
ReadsIntegers = (b : ℕ) (bs : Bytes) → IsIntText (b ∷ bs) → read_integer (b ∷ bs) ≡ Got (signed_digits_value 10 (b ∷ bs))

-- and no other text
abbrev pub RefusesOtherTexts : Type 0
RefusesOtherTexts = (b : ℕ) (bs : Bytes) → (IsIntText (b ∷ bs) → ⊥) → read_integer (b ∷ bs) ≡ Bad error.NotAnInteger

-- an integer is one of 64 bits
abbrev pub FitsInRange : Type 0
FitsInRange = (e : ErrorCode) (z : ℤ) → FitsSigned w64 z → fit e z ≡ Got z

abbrev pub FaultsBeyond : Type 0
FaultsBeyond = (e : ErrorCode) (z : ℤ) → (FitsSigned w64 z → ⊥) → fit e z ≡ Bad e
