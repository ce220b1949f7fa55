-- A longer run shows the same ending, and no less printed.
use Rattle.std.proofs.Common.{◌≡◌, ℕ, ◌+◌, ◌++◌, Some, refl, sym, ap, ◌∙◌, arith}
use Rattle.model.specs.declared.run.Ending.{Ending}
use Rattle.model.specs.Language.Values.{printed_of}
use Rattle.model.specs.Laws.Agreement.{first_m, seen_at}
use Rattle.model.specs.Laws.LongerRuns.{EndedRunStays, RunPrintsOn}
use Rattle.model.specs.Machine.Steps.{Module, State, Run, InMatch, Over, Stuck, begun, steps, world_of_state}
use Rattle.model.specs.Module.Images.{module_of}
use Rattle.model.proofs.Language.MeaningGrows.{Before}
use Rattle.model.proofs.Machine.Agreement.{over_stays}
use Rattle.model.proofs.Machine.Matches.{machine_more}
use Rattle.model.proofs.Machine.StepsPrint.{steps_on}

-- d steps more are made after the first b
later : (img : Module) (b d : ℕ) (c : State) → steps img (d + b) c ≡ steps img d (steps img b c)
later img b d c = let swap : d + b ≡ b + d = omega arith in ap (λ n. steps img n c) swap ∙ machine_more img b d c

ended_stays : (img : Module) (d : ℕ) (s : State) (e : Ending) → (seen_at s).ending ≡ Some e → steps img d s ≡ s
ended_stays img d (Run pc ops hs fs m) e h = absurd (cc)
ended_stays img d (InMatch g st fs m) e h = absurd (cc)
ended_stays img d (Over f m) e h = over_stays img d f m
ended_stays img d (Stuck m) e h = absurd (cc)

pub ended_run_stays : EndedRunStays
ended_run_stays image inputs b e h d =
    let img = module_of image in
    let c = begun img (first_m image.level inputs) in
    ap seen_at (later img b d c ∙ ended_stays img d (steps img b c) e h)

printed_is : (s : State) → (seen_at s).printed ≡ printed_of (world_of_state s)
printed_is (Run pc ops hs fs m) = refl
printed_is (InMatch g st fs m) = refl
printed_is (Over e m) = refl
printed_is (Stuck m) = refl

pub run_prints_on : RunPrintsOn
run_prints_on image inputs b d =
    let img = module_of image in
    let c = begun img (first_m image.level inputs) in
    let here : State = steps img b c in
    let there : State = steps img d here in
    let on : Before (world_of_state here) (world_of_state there) = steps_on img d here in
    (on.new, ap (λ s. (seen_at s).printed) (later img b d c) ∙ printed_is there ∙ on.is ∙ ap (λ l. l ++ on.new) (sym (printed_is here)))
