-- Back to the newest choice, whatever it goes on with.
use Rattle.std.proofs.Common.{◌≡◌, ℕ, ◌<◌, List, [], ◌∷◌, refl, sym, ◌∙◌, ap, subst}
use Rattle.std.specs.Prelude.{None}
use Rattle.model.specs.Pattern.Patterns.{Running}
use Rattle.model.specs.Pattern.Steps.{Code, Going, IsSound, Lost, Over, Returning, event_of, pattern_step, pattern_steps}
use Rattle.backtrack.specs.declared.way_back.WayBack.{WayBack}
use Rattle.backtrack.specs.declared.way_back.WayBack.TheVariants as kept
use Rattle.backtrack.specs.Standing.{Back, Standing, IsKeptAt, IsRetried, from_kept, standing_at}
use Rattle.prefilter.specs.Starts.{RunsOn}
use Rattle.prefilter.proofs.Going.{Came}
use Rattle.match_machine.specs.declared.state.Mode.TheVariants as mode
use Rattle.match_machine.specs.declared.state.Run.{Run}
use Rattle.match_machine.specs.Turns.{IsBack, going_at, gone_to}
use Rattle.match_machine.specs.View.{choices_of, kept_of, state_of}
use Rattle.match_machine.proofs.FirstEnds.{same_next}
use Rattle.match_machine.proofs.ManyEnds.{back_to, stands_back}

-- the choice is taken off
pub taken : (old new : Standing) (q c p : ℕ) → IsKeptAt old q c (kept.To p) → new ≡ record { code = old.code; notes = old.notes; pending = old.pending; backs = from_kept None old.backs } → IsRetried old new p c
taken old new q c p (bs, h) is = (
  q,
  h ∙ ap (λ (xs : List Back). record { kept = kept.To p; thread = standing_at old q c } ∷ from_kept None xs) (sym h)
      ∙ sym (ap (λ (x : Standing). record { kept = kept.To p; thread = standing_at x q c } ∷ x.backs) is),
)

module _ (u : List ℕ) (run : Run) (returning : run.mode ≡ mode.Returning) where
  -- there is one
  pub no_choice : run.thread.trail.backs ≡ [] → event_of (state_of u run) ≡ Running → ⊥
  no_choice h going = let over = sym (ap event_of (back_to u run [] returning h)) ∙ going in cc

  pub came_back : (code : Code) (bs : List Back) (new : Standing) (p e n : ℕ) → event_of (state_of u run) ≡ Running → bs ≡ run.thread.trail.backs → IsBack u bs new p e n → Came u code n (state_of u run) (gone_to u new p e run.start run.left)
  came_back code bs new p e n going same is =
      let way = subst (λ (xs : List Back). IsBack u xs new p e n) same is code run.start run.left in
      let stands = stands_back u run returning going in
      (way.0 ∙ ap (pattern_steps u code n) stands, subst (RunsOn u code n) stands way.1)

  module _ (mid : Standing) (q c : ℕ) (k : WayBack) (at : IsKeptAt mid q c k) (same : mid.backs ≡ run.thread.trail.backs) where
    stands : state_of u run ≡ Returning (kept_of u k (standing_at mid q c)) (choices_of u at.0) run.start run.left []
    stands = back_to u run (record { kept = k; thread = standing_at mid q c } ∷ at.0) returning (sym same ∙ at.1)

    pub is_sound : IsSound u (state_of u run) → IsSound u (Returning (kept_of u k (standing_at mid q c)) (choices_of u at.0) run.start run.left [])
    is_sound h = subst (IsSound u) stands h

    -- the end of the match
    pub quits : (code : Code) → k ≡ kept.Quit → Over Lost ≡ pattern_step u code (state_of u run)
    quits code e =
        sym (ap (pattern_step u code) stands ∙ ap (λ (j : WayBack). pattern_step u code (Returning (kept_of u j (standing_at mid q c)) (choices_of u at.0) run.start run.left [])) e)

  -- the instruction once more
  pub again : (mid new : Standing) (q c n : ℕ) (code : Code) → (at : IsKeptAt mid q c kept.Again) → mid.backs ≡ run.thread.trail.backs → new ≡ record { code = mid.code; notes = mid.notes; pending = mid.pending; backs = from_kept None mid.backs } → 0 < n → RunsOn u code n (going_at u new q c run.start run.left)
      → Came u code n (state_of u run) (pattern_steps u code n (going_at u new q c run.start run.left))
  again mid new q c n code (bs, h) same is l runs =
      let there = stands mid q c kept.Again (bs, h) same in
      let here : going_at u new q c run.start run.left ≡ Going (standing_at mid q c) (choices_of u bs) run.start run.left [] =
      ap (λ (x : Standing). going_at u x q c run.start run.left) is
      ∙ ap (λ (xs : List Back). Going (standing_at mid q c) (choices_of u (from_kept None xs)) run.start run.left []) h in
      same_next u code n (going_at u new q c run.start run.left) (state_of u run) (pattern_steps u code n (going_at u new q c run.start run.left))
      (ap (pattern_step u code) here ∙ sym (ap (pattern_step u code) there)) (ap event_of there) l (refl, runs)

  pub again_sound : (mid new : Standing) (q c : ℕ) → (at : IsKeptAt mid q c kept.Again) → mid.backs ≡ run.thread.trail.backs → new ≡ record { code = mid.code; notes = mid.notes; pending = mid.pending; backs = from_kept None mid.backs } → IsSound u (state_of u run) → IsSound u (going_at u new q c run.start run.left)
  again_sound mid new q c (bs, h) same is sound =
      subst (IsSound u)
      (sym (ap (λ (x : Standing). going_at u x q c run.start run.left) is
      ∙ ap (λ (xs : List Back). Going (standing_at mid q c) (choices_of u (from_kept None xs)) run.start run.left []) h))
      (is_sound mid q c kept.Again (bs, h) same sound)
