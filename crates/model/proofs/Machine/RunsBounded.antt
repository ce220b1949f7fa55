-- The run of a module takes at most five steps for each rule used, and one more.
use Rattle.std.proofs.Common.{◌≡◌, ℕ, zero, suc, ◌+◌, ◌-◌, ◌*◌, ◌≤◌, ◌++◌, Option, Some, None, refl, sym, ap, ◌∙◌, subst, arith}
use Rattle.model.specs.declared.run.Ending.{Ending}
use Rattle.model.specs.Deck.Trees.{Nil, More, Absent, Given}
use Rattle.model.specs.Language.Programs.{Program, program}
use Rattle.model.specs.Language.Meaning.{W, Res, Done, Fails, Ends, Open, Query, QVal, QName, QArgs, QBody, QExec, QMatch, run_rule, run, rule, meaning}
use Rattle.model.specs.Machine.Steps.{MW, Module, State, begun, steps, world_of_state}
use Rattle.model.specs.Language.Values.{printed_of}
use Rattle.model.specs.Pattern.Search.{scan}
use Rattle.model.specs.Module.Images.{module_of}
use Rattle.model.specs.Module.Placed.{Placed}
use Rattle.model.specs.Machine.Alike.{WR}
use Rattle.model.specs.Laws.Agreement.{IsPrefix, seen_of, seen_at, first_w, first_m}
use Rattle.model.specs.Language.RulesUsed.{own_count, query_count}
use Rattle.model.specs.Laws.StepBound.{steps_per_rule, RunStepsBounded, RunPrintsBounded}
use Rattle.model.proofs.Machine.Following.{rank, extra, spare, own, own_steps, Task, start, done, failed, steps_add, start_prints}
use Rattle.model.proofs.Machine.Pacing.{if_told, spent, Reaches, allowed, SimPaced, follow_reaches, reaches_from, leaves, count_at}
use Rattle.model.proofs.Machine.StatementsFollow.{local}
use Rattle.model.proofs.Machine.MatchesPaced.{match_paced}
use Rattle.model.proofs.Machine.Agreement.{Never, Nowhere, run_follows, over_stays, seen_printed, still_prints, first_same}
use Rattle.model.proofs.Machine.StepsPrint.{steps_on}
use Rattle.model.proofs.Language.MeaningGrows.{Before}

module _ (prog : Program) (img : Module) (trees_at : ℕ → Option _) (placed : Placed prog img trees_at) where
  -- a rule is the meaning one level up
  level_up : (n : ℕ) → SimPaced prog img trees_at n → (q : Query) → 1 ≤ rank q → own_count prog (suc n) (λ r v. meaning prog n r v) q ≡ own prog img trees_at q
      → (w : W) → spare q ≤ steps_per_rule * own prog img trees_at q w + extra q
      → (t : Task prog img trees_at q) (w' : MW) → WR trees_at w w' → Reaches prog img trees_at 0 (allowed prog img trees_at (suc n) q w) (spare q) (start prog img trees_at q t w') (done prog img trees_at q t) (failed prog img trees_at q t) (meaning prog (suc n) q w)
  unfolding meaning query_count
  level_up n sim q up own_is w some t w' wr =
      let b : ℕ = own_steps prog img trees_at q w in
      let c : ℕ = b + steps_per_rule * count_at prog img trees_at n (rule prog q w) in
      let same : own_count prog (suc n) (λ r v. meaning prog n r v) q w ≡ own prog img trees_at q w = ap (λ f. f w) own_is in
      leaves prog img trees_at c (allowed prog img trees_at (suc n) q w) (spare q) (start prog img trees_at q t w') (done prog img trees_at q t) (failed prog img trees_at q t) (meaning prog (suc n) q w) (omega (arith, same, some))
      (follow_reaches prog img trees_at n sim (rank q) b up (start prog img trees_at q t w') (done prog img trees_at q t) (failed prog img trees_at q t) (rule prog q w) (local prog img trees_at placed q t w w' wr))

  -- no search comes to anything at the depth 0
  unspent : (q : Query) (t : Task prog img trees_at q) → spent prog img trees_at zero q t ≡ 0
  unspent (QVal e) t = refl
  unspent (QName e) t = refl
  unspent (QArgs xs) t = refl
  unspent (QBody b) t = refl
  unspent (QExec k) t = refl
  unspent (QMatch s p zero u) t = refl
  unspent (QMatch s p (suc left) u) t = refl

  pub sim_paced : (n : ℕ) → SimPaced prog img trees_at n
  unfolding meaning query_count
  sim_paced zero q t w w' wr =
      let no : spent prog img trees_at zero q t ≡ 0 = unspent q t in
      (0, omega (arith, no), start_prints prog img trees_at q t w w' (ap (λ p. p.printed) (sym wr.io)))
  sim_paced (suc n) (QVal e) t w w' wr = level_up n (sim_paced n) (QVal e) (omega arith) refl w (omega arith) t w' wr
  sim_paced (suc n) (QName e) t w w' wr = level_up n (sim_paced n) (QName e) (omega arith) refl w (omega arith) t w' wr
  sim_paced (suc n) (QArgs Nil) t w w' wr = level_up n (sim_paced n) (QArgs Nil) (omega arith) refl w (omega arith) t w' wr
  sim_paced (suc n) (QArgs (More Absent xs)) t w w' wr = level_up n (sim_paced n) (QArgs (More Absent xs)) (omega arith) refl w (omega arith) t w' wr
  sim_paced (suc n) (QArgs (More (Given e) xs)) t w w' wr = level_up n (sim_paced n) (QArgs (More (Given e) xs)) (omega arith) refl w (omega arith) t w' wr
  sim_paced (suc n) (QBody b) t w w' wr = level_up n (sim_paced n) (QBody b) (omega arith) refl w (omega arith) t w' wr
  sim_paced (suc n) (QExec k) t w w' wr = level_up n (sim_paced n) (QExec k) (omega arith) refl w (omega arith) t w' wr
  sim_paced (suc n) (QMatch s p left u) t w w' wr =
      let l : ℕ = steps_per_rule * query_count prog (suc n) (QMatch s p left u) w in
      let k : ℕ = if_told (scan s (suc n) p left 0 u) t.so_far in
      reaches_from prog img trees_at 0 k k l (l + 0) 0 (start prog img trees_at (QMatch s p left u) t w') (done prog img trees_at (QMatch s p left u) t) (failed prog img trees_at (QMatch s p left u) t) (meaning prog (suc n) (QMatch s p left u) w) (omega arith)
      (match_paced prog img trees_at placed n (sim_paced n) s p left u t w w' wr)

  module _ (w : W) (m : MW) (wr : WR trees_at w m) where
    abbrev Qr : record {} → W → State → Type 0
    Qr = Never prog img trees_at placed w m wr

    abbrev Fr : W → State → Type 0
    Fr = Nowhere prog img trees_at placed w m wr

    run_reaches : (n : ℕ) → Reaches prog img trees_at 0 (0 + steps_per_rule * count_at prog img trees_at n (run_rule prog w)) 0 (begun img m) Qr Fr (run prog n w)
    run_reaches n = follow_reaches prog img trees_at n (sim_paced n) 2 0 (omega arith) (begun img m) Qr Fr (run_rule prog w) (run_follows prog img trees_at placed w m wr)

    abbrev IsThere : Option Ending → Type 0
    IsThere None = ⊥
    IsThere (Some e) = Unit {0}

    pub ended_by : (n : ℕ) (e : Ending) → (seen_of (run prog n w)).ending ≡ Some e → (b : ℕ) → suc (steps_per_rule * count_at prog img trees_at n (run_rule prog w)) ≤ b → seen_at (steps img b (begun img m)) ≡ seen_of (run prog n w)
    ended_by n e h b le = go (run prog n w) h (run_reaches n)
      where
        go : (r : Res (record {})) → (seen_of r).ending ≡ Some e → Reaches prog img trees_at 0 (0 + steps_per_rule * count_at prog img trees_at n (run_rule prog w)) 0 (begun img m) Qr Fr r → seen_at (steps img b (begun img m)) ≡ seen_of r
        go (Done a v) h x = absurd x.2
        go (Fails v) h x = absurd x.2
        go (Ends f v) h (j, x, (m', r1, at)) =
            let q : j + (b - j) ≡ b = omega (arith, le, x) in
            ap seen_at (ap (λ k. steps img k (begun img m)) (sym q) ∙ steps_add prog img trees_at j (b - j) (begun img m) ∙ ap (steps img (b - j)) at ∙ over_stays img (b - j) f m')
            ∙ ap (λ l. record { ending = Some f; printed = l }) (ap (λ p. p.printed) (sym r1.io))
        go (Open v) h x = absurd (subst IsThere (sym h) tt)

    -- also where it is open
    pub printed_by : (n b : ℕ) → suc (steps_per_rule * count_at prog img trees_at n (run_rule prog w)) ≤ b → IsPrefix (seen_of (run prog n w)).printed (seen_at (steps img b (begun img m))).printed
    printed_by n b le = go (run prog n w) (run_reaches n)
      where
        later : (j : ℕ) (v : W) → j ≤ b → printed_of (world_of_state (steps img j (begun img m))) ≡ printed_of v → IsPrefix (printed_of v) (seen_at (steps img b (begun img m))).printed
        later j v x same =
            let q : j + (b - j) ≡ b = omega (arith, x) in
            let on : Before (world_of_state (steps img j (begun img m))) (world_of_state (steps img (b - j) (steps img j (begun img m)))) = steps_on img (b - j) (steps img j (begun img m)) in (
              on.new,
              seen_printed prog img trees_at placed w m wr (steps img b (begun img m))
                  ∙ ap (λ s. printed_of (world_of_state s)) (ap (λ k. steps img k (begun img m)) (sym q) ∙ steps_add prog img trees_at j (b - j) (begun img m))
                  ∙ on.is ∙ ap (λ l. l ++ on.new) same,
            )

        go : (r : Res (record {})) → Reaches prog img trees_at 0 (0 + steps_per_rule * count_at prog img trees_at n (run_rule prog w)) 0 (begun img m) Qr Fr r → IsPrefix (seen_of r).printed (seen_at (steps img b (begun img m))).printed
        go (Done a v) x = absurd x.2
        go (Fails v) x = absurd x.2
        go (Ends f v) (j, x, (m', r1, at)) = later j v (omega (arith, le, x)) (ap (λ s. printed_of (world_of_state s)) at ∙ ap (λ p. p.printed) (sym r1.io))
        go (Open v) (j, x, st) = later j v (omega (arith, le, x)) (still_prints prog img trees_at placed w m wr (steps img j (begun img m)) v st)

pub run_steps_law : RunStepsBounded
run_steps_law deck image at two placed inputs n e h b le =
    ended_by (program deck) (module_of image) at placed (first_w inputs) (first_m image.level inputs) (first_same at inputs image.level two) n e h b (omega (arith, le))

pub run_prints_law : RunPrintsBounded
run_prints_law deck image at two placed inputs n b le =
    printed_by (program deck) (module_of image) at placed (first_w inputs) (first_m image.level inputs) (first_same at inputs image.level two) n b (omega (arith, le))
