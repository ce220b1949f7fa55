-- Matches at a start.
use Rattle.std.proofs.Common.{◌≡◌, ℕ, ◌+◌, ◌-◌, ◌<◌, List, [], refl, sym, ◌∙◌, ap, subst, arith}
use Rattle.model.specs.Pattern.Patterns.{Running}
use Rattle.match_machine.specs.Moved.{Advances, Goes}
use Rattle.model.specs.Pattern.Steps.{Code, MatchState, Starting, Over, Lost, event_of, pattern_step}
use Rattle.prefilter.specs.Starts.{ArePassed, Leads}
use Rattle.prefilter.specs.declared.prefilter.Passed.{Passed}
use Rattle.match_machine.specs.declared.state.Mode.TheVariants as mode
use Rattle.match_machine.specs.declared.state.Run.{Run}
use Rattle.match_machine.specs.View.{choices_of, state_by, state_of, thread_of}
use Rattle.prefilter.proofs.Going.{Came, then_comes, step_on}

pub starting : (u : List ℕ) (r : Run) → r.mode ≡ mode.Starting → state_of u r ≡ Starting r.start r.left []
starting u r e =
    ap (λ m. state_by m (thread_of r.thread) (choices_of u r.thread.trail.backs) r.start r.left r.waiting r.answer) e

pub run_passed : (u : List ℕ) (code : Code) (r r' : Run) (most : ℕ) (p : Passed) → r.mode ≡ mode.Starting → r'.mode ≡ mode.Starting → r'.start ≡ r.start + p.starts → r'.left ≡ r.left - p.starts → ArePassed u code r.start r.left most p → Came u code p.steps (state_of u r) (state_of u r')
run_passed u code r r' most p m m' f g passed =
    let way = passed.leads (r.left - p.starts) (omega (arith, passed.starts)) in
    let from : Starting (r.start + p.starts) (r.left - p.starts) [] ≡ state_of u r' = ap (λ b. Starting b (r.left - p.starts) []) (sym f) ∙ ap (λ n. Starting r'.start n []) (sym g) ∙ sym (starting u r' m') in
    subst (λ st. Came u code p.steps st (state_of u r')) (sym (starting u r m))
    (subst (λ st. Came u code p.steps (Starting r.start r.left []) st) from (sym way.steps, way.way))

-- a step more, from a start
pub begun : (u : List ℕ) (code : Code) (n : ℕ) (st : MatchState) (r r' : Run) → r.mode ≡ mode.Starting → Came u code n st (state_of u r) → state_of u r' ≡ pattern_step u code (state_of u r) → Came u code (n + 1) st (state_of u r')
begun u code n st r r' m came e =
    then_comes u code n 1 (n + 1) st (state_of u r) (state_of u r') refl came (step_on u code (state_of u r) (state_of u r) (state_of u r') refl (ap event_of (starting u r m)) (sym e))

pub lost_last : (u : List ℕ) (code : Code) (n k : ℕ) (st : MatchState) (r r' : Run) → r.mode ≡ mode.Starting → r.left ≡ 0 → r'.mode ≡ mode.Failed → Leads u code k (Starting r.start 0 []) (Over Lost) → Came u code n st (state_of u r) → Came u code (n + k) st (state_of u r')
lost_last u code n k st r r' m z f way came =
    let at : state_of u r ≡ Starting r.start 0 [] = starting u r m ∙ ap (λ l. Starting r.start l []) z in
    let over : state_of u r' ≡ Over Lost = ap (λ x. state_by x (thread_of r'.thread) (choices_of u r'.thread.trail.backs) r'.start r'.left r'.waiting r'.answer) f in
    then_comes u code n k (n + k) st (state_of u r) (state_of u r') refl came
    (subst (λ s. Came u code k s (state_of u r')) (sym at) (over ∙ sym way.steps, way.way))

-- a step of a match that goes on
pub one_step : (u : List ℕ) (code : Code) (most : ℕ) (r r' : Run) → event_of (state_of u r) ≡ Running → 0 < most → Advances u code r r' → Goes u code 1 most r r'
one_step u code most r r' on some next =
    let came = step_on u code (state_of u r) (state_of u r) (state_of u r') refl on (sym next) in
    record { state = came.0; bound = (omega arith, omega (arith, some)); way = came.1 }
