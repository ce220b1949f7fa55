-- Kinds of instructions.
use Rattle.std.specs.Prelude.{◌≡◌, ℕ, List, [], Option, Some, None}
use Rattle.model.specs.Pattern.BasicEnds.{ends_at}
use Rattle.model.specs.Pattern.Patterns as p

-- an assignment within the match, of what stands since OPEN or of the cursor
abbrev pub IsNamed : Option p.Instr → Type 0
IsNamed (Some (p.Say x)) = Unit {0}
IsNamed (Some (p.AtCursor x)) = Unit {0}
IsNamed _ = ⊥

-- an instruction that no turn makes
abbrev pub IsOther : Option p.Instr → Type 0
IsOther (Some (p.Do p.Arb)) = Unit {0}
IsOther (Some (p.Do p.Bal)) = Unit {0}
IsOther (Some p.DoSucceed) = Unit {0}
IsOther (Some p.DoAbort) = Unit {0}
IsOther (Some p.DoFence) = Unit {0}
IsOther (Some (p.Say x)) = Unit {0}
IsOther (Some (p.AtCursor x)) = Unit {0}
IsOther (Some (p.Eval x)) = Unit {0}
IsOther (Some (p.EvalBasic k x)) = Unit {0}
IsOther _ = ⊥

-- so is this, and if it is a part it has no end from the cursor c; or the code is over
abbrev pub IsRest : List ℕ → Option p.Instr → ℕ → Type 0
IsRest u None c = Unit {0}
IsRest u (Some (p.Do i)) c = ends_at u i c ≡ []
IsRest u o c = IsOther o

-- a part that has one end at most from each place
abbrev pub HasOneEnd : p.Basic → Type 0
HasOneEnd p.Arb = ⊥
HasOneEnd p.Bal = ⊥
HasOneEnd _ = Unit {0}
