use Rattle.std.proofs.Common.{◌≡◌, ℕ, zero, suc, ◌<◌, List, [], ◌∷◌, Bool, true, false, cond, drop, refl, arith, get_or}
use Rattle.std.specs.Prelude.{◌==◌}
use Rattle.std.specs.Str.{IsAscii}
use Rattle.std.specs.Str.Parse.{AllDigits, without_leading_sign}
use Rattle.std.proofs.lemmas.Bool.Decides.{nat_tests}
use Rattle.std.proofs.lemmas.Str.{IsUtf8-from_ascii}
use Rattle.std.proofs.lemmas.Str.Parse.{digit_from_value}
use Rattle.strings.proofs.bytes.read_int.Goals as goal

ascii_cons : (d : ℕ) (ds : List ℕ) → d < 128 → IsAscii ds → (i : ℕ) → get_or (d ∷ ds) i 0 < 128
ascii_cons d ds lt h zero = lt
ascii_cons d ds lt h (suc i) = h i

ascii_digits : (ds : List ℕ) → AllDigits 10 ds → IsAscii ds
ascii_digits [] h = λ i. omega arith
ascii_digits (d ∷ ds) h = ascii_cons d ds (omega (arith, digit_from_value d h.0)) (ascii_digits ds h.1)

ascii_by : (minus plus : Bool) (d : ℕ) (ds : List ℕ) → minus ≡ (d == 45) → plus ≡ (d == 43) → AllDigits 10 (cond minus (drop 1 (d ∷ ds)) (drop (cond plus 1 0) (d ∷ ds))) → IsAscii (d ∷ ds)
ascii_by true plus d ds m p h = ascii_cons d ds (grind (arith, nat_tests, m)) (ascii_digits ds h)
ascii_by false true d ds m p h = ascii_cons d ds (grind (arith, nat_tests, p)) (ascii_digits ds h)
ascii_by false false d ds m p h = ascii_digits (d ∷ ds) h

ascii_int : (xs : List ℕ) → AllDigits 10 (without_leading_sign xs) → IsAscii xs
ascii_int [] h = λ i. omega arith
ascii_int (d ∷ ds) h = ascii_by (d == 45) (d == 43) d ds refl refl h

pub returns-in-Err : goal.returns-in-Err
returns-in-Err c = λ h. c.in-Err.ensures.cases.0 (IsUtf8-from_ascii c.args.bytes.now (ascii_int c.args.bytes.now h.0.1))
