-- A match of the machine is the steps of its code.
use Rattle.std.specs.Prelude.{◌≡◌, ℕ, suc, List}
use Rattle.model.specs.Pattern.Patterns.{Running}
use Rattle.model.specs.Pattern.Steps as S
use Rattle.model.specs.Machine.Steps.{MW, Module, Matching, Frame, InMatch, on_event, steps}

-- l steps, after which the match still runs
abbrev pub MatchRuns : Type 0
MatchRuns = (img : Module) (g : Matching) (fs : List Frame) (m : MW) (l : ℕ) (st : S.MatchState) → S.event_of (S.pattern_steps g.subject g.code l st) ≡ Running → steps img l (InMatch g st fs m) ≡ InMatch g (S.pattern_steps g.subject g.code l st) fs m

-- and one more
abbrev pub MatchComes : Type 0
MatchComes = (img : Module) (g : Matching) (fs : List Frame) (m : MW) (l : ℕ) (st : S.MatchState) → S.event_of (S.pattern_steps g.subject g.code l st) ≡ Running → steps img (suc l) (InMatch g st fs m) ≡ on_event img (S.event_of (S.pattern_steps g.subject g.code (suc l) st)) g (S.pattern_steps g.subject g.code (suc l) st) fs m
