-- Runs of bytes that pass a test, several together.
use Rattle.std.proofs.Common.{◌≡◌, ℕ, zero, suc, ◌+◌, ◌≤◌, ◌<◌, List, Bool, true, false, length, drop, get_or, refl, sym, ap, ◌∙◌, arith}
use Rattle.std.specs.Prelude.{not, ◌&&◌, ◌||◌, Some, None, nat_lt, if◌then◌else◌}
use Rattle.std.specs.List.{prefix_len}
use Rattle.std.proofs.lemmas.Bool.{and_parts}
use Rattle.std.proofs.lemmas.List.Sums.{prefix_len-drop_yes}
use Rattle.model.specs.Language.Strings.{has, break_to}

-- where the run of items that pass ends
abbrev pub run_to : (ℕ → Bool) → List ℕ → ℕ → ℕ
run_to p xs at = at + prefix_len p (drop at xs)

run_one : (p : ℕ → Bool) (xs : List ℕ) (i j : ℕ) → j ≡ i + 1 → j ≤ length xs → p (get_or xs i 0) ≡ true → run_to p xs j ≡ run_to p xs i
run_one p xs i j e le h =
    let more : prefix_len p (drop i xs) ≡ 1 + prefix_len p (drop (i + 1) xs) = prefix_len-drop_yes p xs i 0 (omega arith) h in
    let there : prefix_len p (drop j xs) ≡ prefix_len p (drop (i + 1) xs) = ap (λ k. prefix_len p (drop k xs)) e in
    omega arith

run_two : (p : ℕ → Bool) (xs : List ℕ) (i j k : ℕ) → j ≡ i + 1 → k ≡ i + 2 → k ≤ length xs → (p (get_or xs i 0) && p (get_or xs j 0)) ≡ true → run_to p xs k ≡ run_to p xs i
run_two p xs i j k e f le h =
    let parts = and_parts (p (get_or xs i 0)) (p (get_or xs j 0)) h in
    run_one p xs j k (omega arith) le parts.1 ∙ run_one p xs i j e (omega arith) parts.0

pub run_eight : (p : ℕ → Bool) (xs : List ℕ) (i : ℕ) → i + 8 ≤ length xs → (((p (get_or xs i 0) && p (get_or xs (i + 1) 0)) && (p (get_or xs (i + 2) 0) && p (get_or xs (i + 3) 0))) && ((p (get_or xs (i + 4) 0) && p (get_or xs (i + 5) 0)) && (p (get_or xs (i + 6) 0) && p (get_or xs (i + 7) 0)))) ≡ true → run_to p xs (i + 8) ≡ run_to p xs i
run_eight p xs i le h =
    let halves = and_parts ((p (get_or xs i 0) && p (get_or xs (i + 1) 0)) && (p (get_or xs (i + 2) 0) && p (get_or xs (i + 3) 0))) ((p (get_or xs (i + 4) 0) && p (get_or xs (i + 5) 0)) && (p (get_or xs (i + 6) 0) && p (get_or xs (i + 7) 0))) h in
    let low = and_parts (p (get_or xs i 0) && p (get_or xs (i + 1) 0)) (p (get_or xs (i + 2) 0) && p (get_or xs (i + 3) 0)) halves.0 in
    let high = and_parts (p (get_or xs (i + 4) 0) && p (get_or xs (i + 5) 0)) (p (get_or xs (i + 6) 0) && p (get_or xs (i + 7) 0)) halves.1 in
    run_two p xs (i + 6) (i + 7) (i + 8) (omega arith) (omega arith) le high.1
    ∙ run_two p xs (i + 4) (i + 5) (i + 6) (omega arith) (omega arith) (omega arith) high.0
    ∙ run_two p xs (i + 2) (i + 3) (i + 4) (omega arith) (omega arith) (omega arith) low.1
    ∙ run_two p xs i (i + 1) (i + 2) refl refl (omega arith) low.0

-- so are many
pub run_many : (p : ℕ → Bool) (xs : List ℕ) (i n : ℕ) → i + n ≤ length xs → ((k : ℕ) → i ≤ k → k < i + n → p (get_or xs k 0) ≡ true) → run_to p xs (i + n) ≡ run_to p xs i
run_many p xs i zero le h = ap (run_to p xs) (omega arith)
run_many p xs i (suc n) le h =
    run_one p xs (i + n) (i + suc n) (omega arith) le (h (i + n) (omega arith) (omega arith))
    ∙ run_many p xs i n (omega (arith, le)) (λ k l m. h k l (omega (arith, m)))

not_or : (a b : Bool) → not (a || b) ≡ (not a && not b)
not_or true b = refl
not_or false b = refl

-- none of eight is one of the four pairs
not_eight : (a b c d e f g h : Bool) → not (((a || b) || (c || d)) || ((e || f) || (g || h))) ≡ (((not a && not b) && (not c && not d)) && ((not e && not f) && (not g && not h)))
not_eight a b c d e f g h = simp not_or

pub break_eight : (flags : List Bool) (xs : List ℕ) (i : ℕ) → i + 8 ≤ length xs → (((has flags (get_or xs i 0) || has flags (get_or xs (i + 1) 0)) || (has flags (get_or xs (i + 2) 0) || has flags (get_or xs (i + 3) 0))) || ((has flags (get_or xs (i + 4) 0) || has flags (get_or xs (i + 5) 0)) || (has flags (get_or xs (i + 6) 0) || has flags (get_or xs (i + 7) 0)))) ≡ false → break_to xs (i + 8) flags ≡ break_to xs i flags
break_eight flags xs i le h =
    ap (λ (k : ℕ). if nat_lt k (length xs) then Some k else None)
    (run_eight (λ b. not (has flags b)) xs i le (sym (not_eight _ _ _ _ _ _ _ _) ∙ ap not h))
