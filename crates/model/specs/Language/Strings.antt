-- Functions of byte strings, and sets of bytes.
use Rattle.std.specs.Prelude.{ℕ, ◌+◌, ◌-◌, List, [], ◌∷◌, Bool, false, not, Option, Some, None, ◌==◌, nat_lt, length, take, drop, map, slice_index_or, FitsSigned, if◌then◌else◌}
use Rattle.std.specs.Int.{w64}
use Rattle.std.specs.List.{suffix_len, prefix_len, list_any, range_with_len}
use Rattle.std.specs.Str.Parse.{IsNumeral, without_leading_sign, signed_digits_value}

abbrev pub is_blank : ℕ → Bool
is_blank b = b == 32

-- without the blanks that it ends with
abbrev pub trimmed : List ℕ → List ℕ
trimmed xs = take (length xs - suffix_len is_blank xs) xs

-- what b becomes, if it is otherwise to be x
abbrev pub replaced_or : ℕ → List ℕ → List ℕ → ℕ → ℕ
replaced_or x [] ts b = x
replaced_or x (f ∷ fs) [] b = x
replaced_or x (f ∷ fs) (t ∷ ts) b = replaced_or (if b == f then t else x) fs ts b

-- the byte of ts at the last place at which b stands in fs, and else b
abbrev pub replaced : List ℕ → List ℕ → ℕ → ℕ
replaced fs ts b = replaced_or b fs ts b

-- digits with an optional sign, in range
abbrev pub IsIntText : List ℕ → Type 0
IsIntText xs = IsNumeral 10 (without_leading_sign xs) × FitsSigned w64 (signed_digits_value 10 xs)

-- a set of bytes is its 256 flags
abbrev pub has : List Bool → ℕ → Bool
has flags b = slice_index_or flags b false

abbrev pub flags_of : List ℕ → List Bool
flags_of bytes = map (λ b. list_any (λ x. x == b) bytes) (range_with_len 0 256)

-- where the longest run of bytes of the set that begins at `at` ends
abbrev pub span_to : List ℕ → ℕ → List Bool → ℕ
span_to xs at flags = at + prefix_len (has flags) (drop at xs)

-- where the first byte of the set from `at` on stands
abbrev pub break_to : List ℕ → ℕ → List Bool → Option ℕ
break_to xs at flags =
    let k = at + prefix_len (λ b. not (has flags b)) (drop at xs) in if nat_lt k (length xs) then Some k else None
