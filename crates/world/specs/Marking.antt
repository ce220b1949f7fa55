-- What marks of objects reach of a world.
use Rattle.model.specs.Deck.Trees.{Bytes}
use Rattle.model.specs.Machine.Living.{ValueLives}
use Rattle.heap.specs.Marked.{MarksView, marks_in}
use Rattle.world.specs.Held.{WorldView, value_in, variable_at}

-- the values of all variables are marked
abbrev pub VariablesLive : WorldView → MarksView → Type 0
VariablesLive h m = (x : Bytes) → ValueLives (marks_in m) (value_in (variable_at x h.variables))
