-- Many rounds of so many steps each.
use Rattle.std.proofs.Common.{◌≡◌, ℕ, zero, suc, ◌+◌, ◌<◌, ◌≤◌, List, refl, ◌∙◌, sym, ap, subst, arith}
use Rattle.model.specs.Pattern.Steps.{Code, MatchState, pattern_steps}
use Rattle.prefilter.specs.Starts.{RunsOn}
use Rattle.prefilter.proofs.ManyStarts.{steps_add, run_more}

abbrev pub times : ℕ → ℕ → ℕ
times s zero = zero
times s (suc k) = s + times s k

pub twice_is : (k : ℕ) → times 2 k ≡ k + k
twice_is zero = omega arith
twice_is (suc k) = omega (arith, twice_is k)

pub thrice_is : (k : ℕ) → times 3 k ≡ k + k + k
thrice_is zero = omega arith
thrice_is (suc k) = omega (arith, thrice_is k)

-- s steps lead from each of the states f b, f (b + 1), .. to the next, k times, and none begins at an event
pub record AreRounds (u : List ℕ) (code : Code) (f : ℕ → MatchState) (s b k : ℕ) : Type 0 where
  pub lead : (c : ℕ) → b ≤ c → c < b + k → pattern_steps u code s (f c) ≡ f (c + 1)
  pub way : (c : ℕ) → b ≤ c → c < b + k → RunsOn u code s (f c)

fewer : (u : List ℕ) (code : Code) (f : ℕ → MatchState) (s b k : ℕ) → AreRounds u code f s b (suc k) → AreRounds u code f s (b + 1) k
fewer u code f s b k h =
    record {
      lead = λ c l m. h.lead c (omega (arith, l)) (omega (arith, m));
      way = λ c l m. h.way c (omega (arith, l)) (omega (arith, m));
    }

pub round_steps : (u : List ℕ) (code : Code) (f : ℕ → MatchState) (s k b : ℕ) → AreRounds u code f s b k → pattern_steps u code (times s k) (f b) ≡ f (b + k)
round_steps u code f s zero b h = let e : b ≡ b + 0 = omega arith in ap f e
round_steps u code f s (suc k) b h =
    let e : (b + 1) + k ≡ b + suc k = omega arith in
    steps_add u code s (times s k) (s + times s k) (f b) refl
    ∙ ap (pattern_steps u code (times s k)) (h.lead b (omega arith) (omega arith))
    ∙ round_steps u code f s k (b + 1) (fewer u code f s b k h) ∙ ap f e

pub round_way : (u : List ℕ) (code : Code) (f : ℕ → MatchState) (s k b : ℕ) → AreRounds u code f s b k → RunsOn u code (times s k) (f b)
round_way u code f s zero b h = λ m l. absurd (omega (arith, l))
round_way u code f s (suc k) b h =
    run_more u code s (times s k) (s + times s k) (f b) refl (h.way b (omega arith) (omega arith))
    (subst (λ st. RunsOn u code (times s k) st) (sym (h.lead b (omega arith) (omega arith)))
    (round_way u code f s k (b + 1) (fewer u code f s b k h)))
