-- Further answers change nothing before they are asked for.
use Rattle.std.proofs.Common.{◌≡◌, ℕ, zero, suc, ◌<◌, List, [], ◌∷◌, ◌++◌, length, refl, ◌∙◌, ap, arith, Option, Some, None}
use Rattle.model.specs.Pattern.Patterns.{Instr}
use Rattle.model.specs.Pattern.Steps.{Won, Code, Answers, Thread, Choice, Retry, Again, Quit, at_place, Move, Goes, Forks, Fails, Act, Moves, Aborts, Arrives, Asking, Fences, Drops, fenced, choices_kept, pattern_act, answered, onward, settled, MatchState, Starting, Going, Returning, Waits, Over, go, back, after_move, after_act, after_return, pattern_step, pattern_steps, with_more, IsSupplied}
use Rattle.model.specs.Laws.Patterns.{AnswersComeLater}

module _ (s : List ℕ) (code : Code) (v : Answers) where
  go_at_with : (t : Thread) (cs : List Choice) (b left : ℕ) (u : Answers) (o : Option Instr) → elim o as (λ _. MatchState) [ None ↦ Over (Won b t.cursor t.pending) | Some i ↦ Going t cs b left (u ++ v) ] ≡ with_more v (elim o as (λ _. MatchState) [ None ↦ Over (Won b t.cursor t.pending) | Some i ↦ Going t cs b left u ])
  go_at_with t cs b left u None = refl
  go_at_with t cs b left u (Some i) = refl

  go_with : (t : Thread) (cs : List Choice) (b left : ℕ) (u : Answers) → go t cs b left (u ++ v) ≡ with_more v (go t cs b left u)
  go_with t cs b left u = go_at_with t cs b left u (at_place t)

  back_with : (cs : List Choice) (b left : ℕ) (u : Answers) → back cs b left (u ++ v) ≡ with_more v (back cs b left u)
  back_with (ch ∷ cs) b left u = refl
  back_with [] b (suc left) u = refl
  back_with [] b zero u = refl

  move_with : (m : Move) (cs : List Choice) (b left : ℕ) (u : Answers) → after_move m cs b left (u ++ v) ≡ with_more v (after_move m cs b left u)
  move_with (Goes t) cs b left u = go_with t cs b left u
  move_with (Forks t ch) cs b left u = go_with t (ch ∷ cs) b left u
  move_with Fails cs b left u = back_with cs b left u

  act_with : (x : Act) (cs : List Choice) (b left : ℕ) (u : Answers) → after_act x cs b left (u ++ v) ≡ with_more v (after_act x cs b left u)
  act_with (Moves m) cs b left u = move_with m cs b left u
  act_with Aborts cs b left u = refl
  act_with (Arrives c a) cs b left u = refl
  act_with (Asking w t) cs b left u = refl
  act_with (Fences t) cs b left u = go_with (fenced (length cs) t) cs b left u
  act_with (Drops k t) cs b left u = go_with t (choices_kept k cs) b left u

  return_with : (ch : Choice) (cs : List Choice) (b left : ℕ) (u : Answers) → after_return s ch cs b left (u ++ v) ≡ with_more v (after_return s ch cs b left u)
  return_with (Retry p e [] t) cs b left u = go_with (onward t p e) cs b left u
  return_with (Retry p e (f ∷ es) t) cs b left u = go_with (onward t p e) (Retry p f es t ∷ cs) b left u
  return_with (Again t) cs b left u = act_with (pattern_act s (at_place t) t) cs b left u
  return_with Quit cs b left u = refl

  step_with : (x : MatchState) → IsSupplied x → pattern_step s code (with_more v x) ≡ with_more v (pattern_step s code x)
  step_with (Starting b left u) h = go_with (settled [] code 0 b []) [] b left u
  step_with (Going t cs b left u) h = act_with (pattern_act s (at_place t) t) cs b left u
  step_with (Returning ch cs b left u) h = return_with ch cs b left u
  step_with (Waits w t cs b left []) h = absurd h
  step_with (Waits w t cs b left (y ∷ u)) h = move_with (answered s w t y) cs b left u
  step_with (Over e) h = refl

  steps_with : (m : ℕ) (x : MatchState) → ((k : ℕ) → k < m → IsSupplied (pattern_steps s code k x)) → pattern_steps s code m (with_more v x) ≡ with_more v (pattern_steps s code m x)
  steps_with zero x h = refl
  steps_with (suc m) x h =
      ap (pattern_steps s code m) (step_with x (h 0 (omega arith))) ∙ steps_with m (pattern_step s code x) (λ k lt. h (suc k) (omega arith))

pub answers_later : AnswersComeLater
answers_later s code left b u v m h = steps_with s code v m (Starting b left u) h
