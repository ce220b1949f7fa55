-- The ends of the patterns that have no pattern in them.
use Rattle.std.specs.Prelude.{ℕ, zero, suc, ◌+◌, ◌-◌, List, [], ◌∷◌, Bool, not, ◌&&◌, length, drop, ◌==◌, nat_le, nat_lt, eqb, if◌then◌else◌}
use Rattle.std.specs.List.{starts_with, list_any, prefix_len}
use Rattle.model.specs.Pattern.Patterns.{Basic, Lit, Len, Pos, RPos, Tab, RTab, AnyOf, NotAnyOf, Span, Break, Rem, Arb, Bal, Fail}

abbrev pub is_in_set : List ℕ → ℕ → Bool
is_in_set w b = list_any (λ y. y == b) w

-- the end e where the test holds, and else none
abbrev pub end_if : Bool → ℕ → List ℕ
end_if b e = if b then e ∷ [] else []

-- the next byte, where it passes the test
abbrev pub one_byte : (ℕ → Bool) → List ℕ → ℕ → List ℕ
one_byte test [] c = []
one_byte test (b ∷ s) c = end_if (test b) (c + 1)

-- c, c + 1, .. as many as n + 1
abbrev pub from_up : ℕ → ℕ → List ℕ
from_up c zero = c ∷ []
from_up c (suc n) = c ∷ from_up (c + 1) n

-- the ends of nonnull balanced stretches of what is left from c, where depth brackets are open
abbrev pub balanced : List ℕ → ℕ → ℕ → List ℕ
balanced [] depth c = []
balanced (b ∷ s) zero c =
    if b == 40 then balanced s 1 (c + 1) else (if b == 41 then [] else ((c + 1) ∷ balanced s 0 (c + 1)))
balanced (b ∷ s) (suc zero) c =
    if b == 40 then balanced s 2 (c + 1) else (if b == 41 then ((c + 1) ∷ balanced s 0 (c + 1)) else balanced s 1 (c + 1))
balanced (b ∷ s) (suc (suc d)) c =
    if b == 40 then balanced s (suc (suc (suc d))) (c + 1) else (if b == 41 then balanced s (suc d) (c + 1) else balanced s (suc (suc d)) (c + 1))

-- the ends, in order, of a basic pattern on a subject from a cursor
abbrev pub ends_at : List ℕ → Basic → ℕ → List ℕ
ends_at s (Lit w) c = end_if (starts_with eqb (drop c s) w) (c + length w)
ends_at s (Len n) c = end_if (nat_le (c + n) (length s)) (c + n)
ends_at s (Pos n) c = end_if (c == n) c
ends_at s (RPos n) c = end_if (c + n == length s) c
ends_at s (Tab n) c = end_if (nat_le c n && nat_le n (length s)) n
ends_at s (RTab n) c = end_if (nat_le (c + n) (length s)) (length s - n)
ends_at s (AnyOf w) c = one_byte (is_in_set w) (drop c s) c
ends_at s (NotAnyOf w) c = one_byte (λ b. not (is_in_set w b)) (drop c s) c
ends_at s (Span w) c = let n : ℕ = prefix_len (is_in_set w) (drop c s) in end_if (nat_lt 0 n) (c + n)
ends_at s (Break w) c =
    let n : ℕ = prefix_len (λ b. not (is_in_set w b)) (drop c s) in end_if (nat_lt (c + n) (length s)) (c + n)
ends_at s Rem c = length s ∷ []
ends_at s Arb c = from_up c (length s - c)
ends_at s Bal c = balanced (drop c s) 0 c
ends_at s Fail c = []
