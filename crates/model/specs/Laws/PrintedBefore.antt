-- What a machine does doesn't depend on what was printed before.
use Rattle.std.specs.Prelude.{◌≡◌, ℕ, ◌++◌}
use Rattle.model.specs.Language.Values.{World, set_io}
use Rattle.model.specs.Laws.Agreement.{Records, Behaviour}
use Rattle.model.specs.Machine.Steps.{Module, State, Run, InMatch, Over, Stuck, steps}

-- a world, and a state, with these records printed before all others
abbrev pub after_w : {P E : Type 0} → Records → World P E → World P E
after_w before w = set_io (record w.io { printed = before ++ w.io.printed }) w

abbrev pub after_s : Records → State → State
after_s before (Run pc ops hs fs w) = Run pc ops hs fs (after_w before w)
after_s before (InMatch g st fs w) = InMatch g st fs (after_w before w)
after_s before (Over e w) = Over e (after_w before w)
after_s before (Stuck w) = Stuck (after_w before w)

-- what is seen of a run before which these records were printed
abbrev pub seen_after : Records → Behaviour → Behaviour
seen_after before seen = record { ending = seen.ending; printed = before ++ seen.printed }

-- the law: a run adds to what was printed before
abbrev pub RunsAfter : Type 0
RunsAfter = (m : Module) (before : Records) (st : State) (n : ℕ) → steps m n (after_s before st) ≡ after_s before (steps m n st)
