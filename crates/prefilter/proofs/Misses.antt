-- Places from which a part fails that looks at the place, or at all that is left.
use Rattle.std.proofs.Common.{◌≡◌, ◌≢◌, ℕ, ◌+◌, ◌-◌, ◌≤◌, List, [], Bool, true, false, length, drop, take, get_or, refl, sym, ap, ◌∙◌, arith}
use Rattle.std.specs.Prelude.{not, nat_lt, Option, Some, None, option_to_list}
use Rattle.std.specs.Option.{is_some}
use Rattle.std.specs.List.{prefix_len}
use Rattle.std.proofs.lemmas.Bool.Decides.{nat_tests}
use Rattle.std.proofs.lemmas.List.{get_or-drop, length-drop, take_all}
use Rattle.std.proofs.lemmas.List.Sums.{prefix_len_is, prefix_len_passes}
use Rattle.model.specs.Pattern.Patterns as p
use Rattle.model.specs.Pattern.BasicEnds.{ends_at, end_if, is_in_set}
use Rattle.prefilter.specs.Starts.{FailsFrom}

-- none was found
pub none_ends : (r : Option ℕ) (es : List ℕ) → option_to_list r ≡ es → is_some r ≡ false → es ≡ []
none_ends None es h n = sym h
none_ends (Some e) es h n = absurd (cc)

pub fails_pos : (u : List ℕ) (n c : ℕ) → c ≢ n → ends_at u (p.Pos n) c ≡ []
fails_pos u n c ne = grind (arith, nat_tests)

pub fails_rpos : (u : List ℕ) (n c : ℕ) → c + n ≢ length u → ends_at u (p.RPos n) c ≡ []
fails_rpos u n c ne = grind (arith, nat_tests)

-- where all that is left passes, so does all that is left from a later place
all_later : (q : ℕ → Bool) (u : List ℕ) (b c : ℕ) → b ≤ c → c ≤ length u → b + prefix_len q (drop b u) ≡ length u → prefix_len q (drop c u) ≡ length u - c
all_later q u b c le within all =
    prefix_len_is q (drop c u) (length u - c) 0 (omega (arith, length-drop c u))
    (λ j lt.
    let k : ℕ = (c - b) + j in
    let at : b + k ≡ c + j = omega arith in
    ap q (get_or-drop c u j 0 ∙ ap (λ i. get_or u i 0) (sym at) ∙ sym (get_or-drop b u k 0))
    ∙ prefix_len_passes q (drop b u) k 0 (omega arith))
    (λ lt. absurd (omega (arith, length-drop c u)))

none_from : (b : Bool) (e : ℕ) → b ≡ false → end_if b e ≡ []
none_from true e h = absurd (cc)
none_from false e h = refl

pub fails_break : (u w : List ℕ) (b m n : ℕ) → b + m ≤ length u → n ≡ prefix_len (λ x. not (is_in_set w x)) (take (length u - b) (drop b u)) → b + n ≡ length u → FailsFrom u (p.Break w) b m
fails_break u w b m n within is whole =
    λ c le lt.
    let q = λ (x : ℕ). not (is_in_set w x) in
    let left : take (length u - b) (drop b u) ≡ drop b u = take_all (length u - b) (drop b u) (simp length-drop (omega arith)) in
    let all : b + prefix_len q (drop b u) ≡ length u = ap (λ ys. b + prefix_len q ys) (sym left) ∙ ap (λ k. b + k) (sym is) ∙ whole in
    let rest : prefix_len q (drop c u) ≡ length u - c = all_later q u b c le (omega arith) all in
    let past : length u ≤ c + prefix_len q (drop c u) = omega arith in
    let test : nat_lt (c + prefix_len q (drop c u)) (length u) ≡ false = grind (arith, nat_tests, past) in
    none_from _ _ test
