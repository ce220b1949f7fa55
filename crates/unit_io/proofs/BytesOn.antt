-- The bytes on a unit once one more record was written.
use Rattle.std.proofs.Common.{◌≡◌, ◌≢◌, ℕ, List, [], ◌∷◌, ◌++◌, Bool, true, false, nat_eq, refl, cond, sym, ap, ◌∙◌, arith, append_assoc}
use Rattle.std.specs.Prelude.{if◌then◌else◌}
use Rattle.std.proofs.lemmas.Bool.Decides.{nat_tests}
use Rattle.std.proofs.lemmas.List.{append-nil}
use Rattle.model.specs.Language.Units.{bytes_on}
use Rattle.model.specs.Laws.Agreement.{Records}
use Rattle.unit_io.specs.Written.{noted}

bytes_on_or : (b : Bool) (r : List ℕ) (line rest more : List ℕ) → rest ≡ line ++ more → cond b (r ++ 10 ∷ rest) rest ≡ cond b (r ++ 10 ∷ line) line ++ more
bytes_on_or true r line rest more h = ap (λ x. r ++ 10 ∷ x) h ∙ sym (append_assoc r (10 ∷ line) more)
bytes_on_or false r line rest more h = h

bytes_noted : (u unit : ℕ) (bytes : List ℕ) (rs : Records) → bytes_on u (noted rs unit bytes) ≡ bytes_on u rs ++ (if nat_eq u unit then bytes ++ 10 ∷ [] else [])
bytes_noted u unit bytes [] = refl
bytes_noted u unit bytes (r ∷ rs) =
    bytes_on_or (nat_eq u r.unit) r.bytes (bytes_on u rs) (bytes_on u (noted rs unit bytes)) (if nat_eq u unit then bytes ++ 10 ∷ [] else []) (bytes_noted u unit bytes rs)

itself : (unit : ℕ) (line : List ℕ) → (if nat_eq unit unit then line else []) ≡ line
itself unit line = grind (arith, nat_tests)

another : (unit u : ℕ) (line : List ℕ) → unit ≢ u → (if nat_eq u unit then line else []) ≡ []
another unit u line n = grind (arith, nat_tests, n)

-- to this unit
pub here_noted : (unit : ℕ) (bytes : List ℕ) (rs : Records) → bytes_on unit (noted rs unit bytes) ≡ bytes_on unit rs ++ (bytes ++ 10 ∷ [])
here_noted unit bytes rs = bytes_noted unit unit bytes rs ∙ ap (λ x. bytes_on unit rs ++ x) (itself unit (bytes ++ 10 ∷ []))

-- to another unit
pub there_noted : (u unit : ℕ) (bytes : List ℕ) (rs : Records) → unit ≢ u → bytes_on u (noted rs unit bytes) ≡ bytes_on u rs
there_noted u unit bytes rs n = bytes_noted u unit bytes rs ∙ ap (λ x. bytes_on u rs ++ x) (another unit u (bytes ++ 10 ∷ []) n) ∙ append-nil (bytes_on u rs)
