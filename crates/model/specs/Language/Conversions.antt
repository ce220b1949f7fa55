-- Conversions of values, and what operations on the world come to.
use Rattle.std.specs.Prelude.{ℕ, ◌^◌, [], ◌∷◌, ℤ, pos, negsuc, Bool, true, false, ◌&&◌, nat_lt, if◌then◌else◌}
use Rattle.std.specs.Fmt.{signed_decimal}
use Rattle.std.specs.Char.{digit_value}
use Rattle.std.specs.Str.Parse.{without_leading_sign, signed_digits_value}
use Rattle.model.specs.declared.run.ErrorCode.{ErrorCode}
use Rattle.model.specs.declared.run.ErrorCode.TheVariants as error
use Rattle.model.specs.Deck.Trees.{Bytes}
use Rattle.model.specs.Deck.Target.{Name, Variable}
use Rattle.model.specs.Pattern.Patterns.{Lit, Answer, IsPattern, IsCount, IsBytes, Want, WantPattern, WantCount, WantBytes}
use Rattle.model.specs.Language.Values.{Value, Str, Int, Pat, Nam, Exp, Obj, Makes}

-- a conversion: what it gives, or an error
pub data Conv (A : Type 0) : Type 0 where
  Got : A → Conv A
  Bad : ErrorCode → Conv A

-- an operation on the world: what it gives, failure, or an error, each with the world after it
pub data Op (W A : Type 0) : Type 0 where
  Gives : A → W → Op W A
  Refuses : W → Op W A
  Faults : ErrorCode → W → Op W A

-- a conversion, and an operation on what it gives
abbrev pub conv : {W A B : Type 0} → Conv A → W → (A → Op W B) → Op W B
conv (Got a) w k = k a
conv (Bad e) w k = Faults e w

-- one conversion after another
abbrev pub then_conv : {A B : Type 0} → Conv A → (A → Conv B) → Conv B
then_conv (Got a) k = k a
then_conv (Bad e) k = Bad e

-- one operation after another
abbrev pub then_op : {W A B : Type 0} → Op W A → (A → W → Op W B) → Op W B
then_op (Gives a w) k = k a w
then_op (Refuses w) k = Refuses w
then_op (Faults e w) k = Faults e w

-- ---- integers

abbrev pub all_digits : Bytes → Bool
all_digits [] = true
all_digits (b ∷ bs) = nat_lt (digit_value b) 10 && all_digits bs

-- digits, one or more
abbrev pub is_numeral : Bytes → Bool
is_numeral [] = false
is_numeral (b ∷ bs) = all_digits (b ∷ bs)

-- from -2^63 to 2^63 - 1
abbrev pub in_range : ℤ → Bool
in_range (pos n) = nat_lt n (2 ^ 63)
in_range (negsuc n) = nat_lt n (2 ^ 63)

-- an integer in range, and else this error
abbrev pub fit : ErrorCode → ℤ → Conv ℤ
fit e z = if in_range z then Got z else Bad e

-- the integer that digits with an optional sign stand for; nothing at all stands for 0
abbrev pub read_integer : Bytes → Conv ℤ
read_integer [] = Got (pos 0)
read_integer (b ∷ bs) = if is_numeral (without_leading_sign (b ∷ bs)) then fit error.NotAnInteger (signed_digits_value 10 (b ∷ bs)) else Bad error.NotAnInteger

-- ---- of values

module _ {P E : Type 0} where
  abbrev pub to_text : Value P E → Conv Bytes
  to_text (Str s) = Got s
  to_text (Int z) = Got (signed_decimal z)
  to_text _ = Bad error.WrongType

  abbrev pub to_integer : Value P E → Conv ℤ
  to_integer (Str s) = read_integer s
  to_integer (Int z) = Got z
  to_integer _ = Bad error.WrongType

  abbrev pub to_pattern : Makes P E → Value P E → Conv P
  to_pattern m (Str s) = Got (m.basic (Lit s))
  to_pattern m (Int z) = Got (m.basic (Lit (signed_decimal z)))
  to_pattern m (Pat p) = Got p
  to_pattern m (Exp e) = Got (m.defer e)
  to_pattern m _ = Bad error.WrongType

  abbrev pub to_name : Value P E → Conv Name
  to_name (Str []) = Bad error.NotAName
  to_name (Str (b ∷ bs)) = Got (Variable (b ∷ bs))
  to_name (Int z) = Got (Variable (signed_decimal z))
  to_name (Nam n) = Got n
  to_name _ = Bad error.WrongType

  -- where a goto leads whose place is computed
  abbrev pub to_label : Value P E → Conv Bytes
  to_label (Str s) = Got s
  to_label (Int z) = Got (signed_decimal z)
  to_label (Nam (Variable x)) = Got x
  to_label _ = Bad error.WrongType

-- the variable of a name that is one
abbrev pub variable_of : Name → Conv Bytes
variable_of (Variable x) = Got x
variable_of _ = Bad error.NotAName

module _ {P E : Type 0} where
  abbrev pub to_variable : Value P E → Conv Bytes
  to_variable v = then_conv (to_name v) variable_of

  abbrev pub is_null : Value P E → Bool
  is_null (Str []) = true
  is_null _ = false

-- ---- the answers to what a match asks

-- a count isn't negative
abbrev pub count_of : ℤ → Conv ℕ
count_of (pos n) = Got n
count_of _ = Bad error.BadPatternArgument

-- a set isn't empty
abbrev pub set_of : Bytes → Conv Bytes
set_of [] = Bad error.BadPatternArgument
set_of (b ∷ bs) = Got (b ∷ bs)

abbrev pub answer_of : {P E : Type 0} → Makes P E → Want → Value P E → Conv (Answer P)
answer_of m WantPattern v = then_conv (to_pattern m v) (λ p. Got (IsPattern p))
answer_of m WantCount v = then_conv (to_integer v) (λ z. then_conv (count_of z) (λ n. Got (IsCount n)))
answer_of m WantBytes v = then_conv (to_text v) (λ s. then_conv (set_of s) (λ b. Got (IsBytes b)))
