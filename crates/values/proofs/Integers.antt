-- Integers of 64 bits, and the texts that stand for them.
use Rattle.std.proofs.Common.{◌≡◌, ℕ, ◌+◌, ◌-◌, ◌*◌, ◌<◌, ◌≤◌, ◌^◌, [], ◌∷◌, length, take, get_or, ℤ, pos, neg_ℤ, false, cond, sym, ap, subst, ◌∙◌, FitsSigned, w64, to_z, of_z, to_z-of_z, ne_eqb, zero-lt-suc, arith}
use Rattle.std.proofs.lemmas.Int.Digits.{digits_more, digits_value_more}
use Rattle.std.proofs.lemmas.Str.{digit_value_digit}
use Rattle.std.proofs.lemmas.Str.Parse.{digit_from_value, without_leading_plus_none}
use Rattle.std.specs.Char.{digit_value}
use Rattle.std.specs.Prelude.{◌==◌}
use Rattle.std.specs.Str.Parse.{AllDigits, IsNumeral, digits_value, signed_digits_value, without_leading_plus, without_leading_sign}
use Rattle.model.specs.declared.run.ErrorCode.TheVariants as error
use Rattle.model.specs.Deck.Trees.{Bytes}
use Rattle.model.specs.Language.Strings.{IsIntText}
use Rattle.model.specs.Language.Conversions.{Got, Bad, read_integer}
use Rattle.model.proofs.Language.Integers.{reads_integers, refuses_other_texts}

pub same_in_64 : (n : ℤ) → FitsSigned w64 n → to_z w64 (of_z w64 n) ≡ n
same_in_64 n h = to_z-of_z h

pub reads_text : (bs : Bytes) (n : ℤ) → false ≡ (length bs == 0) → IsIntText bs → n ≡ signed_digits_value 10 bs → Got (to_z w64 (of_z w64 n)) ≡ read_integer bs
reads_text [] n long is e = absurd (cc)
reads_text (b ∷ bs) n long (num, fits) e = ap (λ z. Got (to_z w64 (of_z w64 z))) e ∙ ap Got (same_in_64 (signed_digits_value 10 (b ∷ bs)) fits) ∙ sym (reads_integers b bs (num, fits))

pub refuses_text : (bs : Bytes) → false ≡ (length bs == 0) → (IsIntText bs → ⊥) → Bad error.NotAnInteger ≡ read_integer bs
refuses_text [] long other = absurd (cc)
refuses_text (b ∷ bs) long other = sym (refuses_other_texts b bs other)

-- digits alone
pub digits_read : (bs : Bytes) (n : ℕ) → false ≡ (length bs == 0) → AllDigits 10 bs → n ≡ digits_value 10 bs → n < 2 ^ 63 → Got (pos n) ≡ read_integer bs
digits_read [] n long all is lt = absurd (cc)
digits_read (b ∷ bs) n long all is lt =
    let digit = digit_from_value b all.0 in
    let no_minus : (b == 45) ≡ false = ne_eqb b 45 (λ e. omega (arith, digit, e)) in
    let no_plus : without_leading_plus (b ∷ bs) ≡ b ∷ bs = without_leading_plus_none (b ∷ bs) (λ e. omega (arith, digit, e)) in
    let plain : without_leading_sign (b ∷ bs) ≡ b ∷ bs = ap (λ t. cond t bs (without_leading_plus (b ∷ bs))) no_minus ∙ no_plus in
    let value : signed_digits_value 10 (b ∷ bs) ≡ pos n =
    ap (λ t. cond t (neg_ℤ (pos (digits_value 10 (without_leading_sign (b ∷ bs))))) (pos (digits_value 10 (without_leading_sign (b ∷ bs))))) no_minus ∙ ap (λ l. pos (digits_value 10 l)) plain ∙ ap pos (sym is) in
    ap Got (sym value) ∙ sym (reads_integers b bs (subst (IsNumeral 10) (sym plain) (zero-lt-suc (length bs), all), subst (FitsSigned w64) (sym value) (record { sfits = lt })))

-- one digit more
pub digit_more : (bs : Bytes) (i n byte digit : ℕ) → i < length bs → AllDigits 10 (take i bs) → n ≡ digits_value 10 (take i bs) → byte ≡ get_or bs i 0 → 48 ≤ byte → byte ≤ 57 → digit ≡ byte - 48
    → AllDigits 10 (take (i + 1) bs) × (n * 10 + digit ≡ digits_value 10 (take (i + 1) bs))
digit_more bs i n byte digit inside all is at low high same =
    let value = digit_value_digit byte (low, high) in
    let same_value : digit_value byte ≡ digit = omega (arith, value, same, low) in
    let here : digit_value (get_or bs i 0) ≡ digit = ap digit_value (sym at) ∙ same_value in (
      digits_more 10 bs i inside all (omega (arith, here, low, high, same)),
      ap (λ m. m * 10 + digit) is ∙ ap (λ d. digits_value 10 (take i bs) * 10 + d) (sym here) ∙ sym (digits_value_more 10 bs i inside),
    )
