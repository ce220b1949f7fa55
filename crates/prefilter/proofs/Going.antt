-- An attempt that goes on, step by step.
use Rattle.std.proofs.Common.{◌≡◌, ℕ, zero, suc, ◌+◌, ◌<◌, ◌≤◌, List, [], ◌∷◌, length, refl, sym, ◌∙◌, ap, subst, arith, ◌⊎◌, inl, inr, Option, Some, None}
use Rattle.std.specs.Prelude.{slice_get, get_or}
use Rattle.std.proofs.lemmas.Option.{none-some, slice_get_cases, slice_get_past}
use Rattle.model.specs.Pattern.Patterns.{Instr, Pending, Running}
use Rattle.model.specs.Pattern.Steps as s
use Rattle.model.specs.Pattern.Steps.{Code, MatchState, event_of, pattern_step, pattern_steps, settled}
use Rattle.prefilter.specs.Starts.{Leads, RunsOn}
use Rattle.prefilter.proofs.ManyStarts.{run_more, steps_add}

-- ---- within the code
-- an instruction that is there lies within the code
pub within : (code : Code) (q : ℕ) (x : Instr) → slice_get code q ≡ Some x → q < length code
within code q x h = cases (slice_get_cases code q).1
  where
    cases : ((y : Instr) × (q < length code) × (slice_get code q ≡ Some y) × (get_or code q y ≡ y)) ⊎ ((length code ≤ q) × (slice_get code q ≡ None)) → q < length code
    cases (inl (y, l, e, g)) = l
    cases (inr (l, e)) = absurd (none-some x (sym e ∙ h))

-- ---- entered patterns
pub settled_left : (ns : List s.Note) (code code' : Code) (p p' c : ℕ) (a : Pending) → length code ≤ p → settled (s.Left code' p' ∷ ns) code p c a ≡ settled ns code' p' c a
settled_left ns code code' p p' c a h =
    ap (λ (o : Option Instr). elim o [ None ↦ settled ns code' p' c a | Some i ↦ record { code = code; place = p; cursor = c; notes = s.Left code' p' ∷ ns; pending = a } ]) (slice_get_past code p h)

pub settled_within : (ns : List s.Note) (code : Code) (p c : ℕ) (a : Pending) → p < length code → settled ns code p c a ≡ record { code = code; place = p; cursor = c; notes = ns; pending = a }
settled_within [] code p c a h = refl
settled_within (s.Opened b ∷ ns) code p c a h = refl
settled_within (s.Fenced k ∷ ns) code p c a h = refl
settled_within (s.Left code' p' ∷ ns) code p c a h = go (slice_get_cases code p).1
  where
    go : ((x : Instr) × (p < length code) × (slice_get code p ≡ Some x) × (get_or code p x ≡ x)) ⊎ ((length code ≤ p) × (slice_get code p ≡ None)) → settled (s.Left code' p' ∷ ns) code p c a ≡ record { code = code; place = p; cursor = c; notes = s.Left code' p' ∷ ns; pending = a }
    go (inl (x, l, e, g)) = ap (λ (o : Option Instr). elim o [ None ↦ settled ns code' p' c a | Some i ↦ record { code = code; place = p; cursor = c; notes = s.Left code' p' ∷ ns; pending = a } ]) e
    go (inr (l, e)) = absurd (omega (arith, h, l))

-- ---- on at a place
pub go_at : (t : s.Thread) (cs : List s.Choice) (b left : ℕ) (o : Option Instr) → s.at_place t ≡ o → s.go t cs b left [] ≡ elim o [ None ↦ s.Over (s.Won b t.cursor t.pending) | Some i ↦ s.Going t cs b left [] ]
go_at t cs b left o e = ap (λ (x : Option Instr). elim x [ None ↦ s.Over (s.Won b t.cursor t.pending) | Some i ↦ s.Going t cs b left [] ]) e

pub go_within : (t : s.Thread) (cs : List s.Choice) (b left : ℕ) → t.place < length t.code → s.go t cs b left [] ≡ s.Going t cs b left []
go_within t cs b left h = go (slice_get_cases t.code t.place).1
  where
    go : ((x : Instr) × (t.place < length t.code) × (slice_get t.code t.place ≡ Some x) × (get_or t.code t.place x ≡ x)) ⊎ ((length t.code ≤ t.place) × (slice_get t.code t.place ≡ None)) → s.go t cs b left [] ≡ s.Going t cs b left []
    go (inl (x, l, e, g)) = go_at t cs b left (Some x) e
    go (inr (l, e)) = absurd (omega (arith, h, l))

-- ---- steps
-- after so many steps from a state, of which none begins at an event, the match is this
abbrev pub Came : List ℕ → Code → ℕ → (st to : MatchState) → Type 0
Came u code k st to = (to ≡ pattern_steps u code k st) × RunsOn u code k st

-- so many steps more led to this
pub then_comes : (u : List ℕ) (code : Code) (n m k : ℕ) (st mid to : MatchState) → k ≡ n + m → Came u code n st mid → Came u code m mid to → Came u code k st to
then_comes u code n m k st mid to is (h, w) (g, v) = (
  g ∙ ap (pattern_steps u code m) h ∙ sym (steps_add u code n m k st is),
  run_more u code n m k st is w (subst (RunsOn u code m) h v),
)

pub runs_one : (u : List ℕ) (code : Code) (st mid : MatchState) → st ≡ mid → event_of mid ≡ Running → RunsOn u code 1 st
runs_one u code st mid is e zero l = ap event_of is ∙ e
runs_one u code st mid is e (suc k) l = absurd (omega (arith, l))

pub step_on : (u : List ℕ) (code : Code) (st mid to : MatchState) → st ≡ mid → event_of mid ≡ Running → pattern_step u code mid ≡ to → Came u code 1 st to
step_on u code st mid to is e h = (sym h ∙ ap (pattern_step u code) (sym is), runs_one u code st mid is e)

pub leads_on : (u : List ℕ) (code : Code) (n m k : ℕ) (a b c : MatchState) → k ≡ n + m → Leads u code n a b → Leads u code m b c → Leads u code k a c
leads_on u code n m k a b c e first next =
    record {
      steps = steps_add u code n m k a e ∙ ap (pattern_steps u code m) first.steps ∙ next.steps;
      way = run_more u code n m k a e first.way (subst (λ st. RunsOn u code m st) (sym first.steps) next.way);
    }

pub leads_none : (u : List ℕ) (code : Code) (a : MatchState) → Leads u code 0 a a
leads_none u code a = record { steps = refl; way = λ k l. absurd (omega (arith, l)) }
