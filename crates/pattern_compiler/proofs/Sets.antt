-- Sets of bytes by their flags.
use Rattle.std.proofs.Common.{◌≡◌, ℕ, suc, ◌+◌, ◌<◌, ◌≤◌, List, [], ◌∷◌, Bool, true, false, cond, length, get_or, refl, sym, ap, ◌∙◌, arith, subst}
use Rattle.std.specs.Prelude.{not, Option, Some, None, nat_lt, ◌==◌, if◌then◌else◌}
use Rattle.std.proofs.lemmas.Bool.Decides.{nat_tests}
use Rattle.std.specs.List.{prefix_len, list_any}
use Rattle.std.specs.Option.{IfSome}
use Rattle.std.proofs.lemmas.List.FromFn.{get_or-map-range_with_len}
use Rattle.std.proofs.lemmas.List.Sums.{prefix_len_is, prefix_len-le-length}
use Rattle.memchr.specs.Find.{IsFirstByte, is_byte, is_byte2, is_byte3}
use Rattle.model.specs.Pattern.BasicEnds.{is_in_set}
use Rattle.model.specs.Language.Strings.{has, flags_of, break_to}

pub has-flags_of : (w : List ℕ) (b : ℕ) → b < 256 → has (flags_of w) b ≡ is_in_set w b
has-flags_of w b lt = get_or-map-range_with_len (λ k. list_any (λ x. x == k) w) 0 256 b b false lt (omega arith)

pub prefix_len-same : (p q : ℕ → Bool) (xs : List ℕ) → ((k : ℕ) → p (get_or xs k 0) ≡ q (get_or xs k 0)) → prefix_len p xs ≡ prefix_len q xs
prefix_len-same p q [] h = refl
prefix_len-same p q (x ∷ xs) h =
    ap (λ b. cond b (1 + prefix_len p xs) 0) (h 0)
    ∙ ap (λ n. cond (q x) (1 + n) 0) (prefix_len-same p q xs (λ k. h (suc k)))

pub span_by_flags : (w xs : List ℕ) (flags : List Bool) → flags ≡ flags_of w → ((k : ℕ) → get_or xs k 0 < 256) → prefix_len (has flags) xs ≡ prefix_len (is_in_set w) xs
span_by_flags w xs flags e bytes =
    ap (λ fs. prefix_len (has fs) xs) e
    ∙ prefix_len-same (has (flags_of w)) (is_in_set w) xs (λ k. has-flags_of w (get_or xs k 0) (bytes k))

pub break_by_flags : (w xs : List ℕ) (flags : List Bool) → flags ≡ flags_of w → ((k : ℕ) → get_or xs k 0 < 256) → prefix_len (λ b. not (has flags b)) xs ≡ prefix_len (λ b. not (is_in_set w b)) xs
break_by_flags w xs flags e bytes =
    ap (λ fs. prefix_len (λ b. not (has fs b)) xs) e
    ∙ prefix_len-same (λ b. not (has (flags_of w) b)) (λ b. not (is_in_set w b)) xs (λ k. ap not (has-flags_of w (get_or xs k 0) (bytes k)))

abbrev pub number_or : ℕ → Option ℕ → ℕ
number_or d (Some n) = n
number_or d None = d

-- where a search stops that gives no place at the end
pub stops_at : (k n : ℕ) (o : Option ℕ) → k ≤ n → o ≡ (if nat_lt k n then Some k else None) → number_or n o ≡ k
stops_at k n o le h = stop_by (nat_lt k n) refl
  where
    stop_by : (b : Bool) → nat_lt k n ≡ b → number_or n o ≡ k
    stop_by true t = ap (number_or n) h ∙ ap (λ b. number_or n (if b then Some k else None)) t
    stop_by false t =
        let past : n ≤ k = grind (arith, nat_tests, t) in
        let e : n ≡ k = omega arith in
        ap (number_or n) h ∙ ap (λ b. number_or n (if b then Some k else None)) t ∙ e

-- where the first byte of a table stands, or the end
pub first_of_table : (w xs : List ℕ) (flags : List Bool) (o : Option ℕ) → flags ≡ flags_of w → ((k : ℕ) → get_or xs k 0 < 256) → o ≡ break_to xs 0 flags → number_or (length xs) o ≡ prefix_len (λ b. not (is_in_set w b)) xs
first_of_table w xs flags o e bytes h =
    let before = prefix_len (λ b. not (has flags b)) xs in
    let within : 0 + before ≤ length xs = omega (arith, prefix_len-le-length (λ b. not (has flags b)) xs) in
    let none : 0 + before ≡ before = omega arith in
    stops_at (0 + before) (length xs) o within h ∙ none ∙ break_by_flags w xs flags e bytes

not_when_fails : (b : Bool) → ¬ (b ≡ true) → not b ≡ true
not_when_fails true h = absurd (h refl)
not_when_fails false h = refl

-- where a byte that passes a test first stands, or the end, if the test is whether it is in the set
pub first_by : (w xs : List ℕ) (test : ℕ → Bool) (o : Option ℕ) → ((b : ℕ) → is_in_set w b ≡ test b) → IsFirstByte test xs o → number_or (length xs) o ≡ prefix_len (λ b. not (is_in_set w b)) xs
first_by w xs test (Some k) same h =
    sym (prefix_len_is (λ b. not (is_in_set w b)) xs k 0 (omega (arith, h.0.high))
    (λ j lt. ap not (same (get_or xs j 0)) ∙ not_when_fails (test (get_or xs j 0)) (h.0.before j (omega arith) lt))
    (λ lt. ap not (same (get_or xs k 0) ∙ h.1)))
first_by w xs test None same h =
    sym (prefix_len_is (λ b. not (is_in_set w b)) xs (length xs) 0 (omega arith)
    (λ j lt. ap not (same (get_or xs j 0)) ∙ not_when_fails (test (get_or xs j 0)) (h j (omega arith) lt))
    (λ lt. absurd (omega arith)))

pub is_one : (a b : ℕ) → is_in_set (a ∷ []) b ≡ is_byte a b
is_one a b = grind (arith, nat_tests)

pub is_one_of_two : (a a' b : ℕ) → is_in_set (a ∷ a' ∷ []) b ≡ is_byte2 a a' b
is_one_of_two a a' b = grind (arith, nat_tests)

pub is_one_of_three : (a a' a'' b : ℕ) → is_in_set (a ∷ a' ∷ a'' ∷ []) b ≡ is_byte3 a a' a'' b
is_one_of_three a a' a'' b = grind (arith, nat_tests)

pub at_some : {T : Type 0} (o : Option T) (t : T) (P : T → Type 0) → o ≡ Some t → IfSome o P → P t
at_some o t P e h = subst (λ p. IfSome p P) e h

pub from_some : {T : Type 0} (o : Option T) (t : T) (P : T → Type 0) → o ≡ Some t → P t → IfSome o P
from_some o t P e h = subst (λ p. IfSome p P) (sym e) h

pub from_none : {T : Type 0} (o : Option T) (P : T → Type 0) → o ≡ None → IfSome o P
from_none o P e = subst (λ p. IfSome p P) (sym e) tt
