-- What is marked of a run before objects are given back.
use Rattle.std.specs.Prelude.{◌≡◌, ◌++◌, map}
use Rattle.model.specs.declared.image.Image.{Image}
use Rattle.model.specs.Language.Io.{Io}
use Rattle.model.specs.Machine.Living.{Collected, OperandsLive, ValuesLive}
use Rattle.heap.specs.Marked.{MarksView, marks_in}
use Rattle.frames.specs.Frames.{AreCalls}
use Rattle.frames.specs.View.{operands_of}
use Rattle.operations.specs.Marking.{ObjectsLive}
use Rattle.world.specs.Marking.{VariablesLive}
use Rattle.values.specs.Values.{value_of}
use Rattle.statement_machine.specs.Runs.{IsInRange, run_of}
use Rattle.statement_machine.specs.declared.run.Run.{Run}
use Rattle.statement_machine.specs.declared.run.Task.TheVariants as task
use Rattle.instruction_steps.specs.declared.state.State.{State}

-- what a state outside of matches holds is marked
pub record StateLives (s : State) (m : MarksView) : Type 0 where
  pub variables : VariablesLive s.world m
  pub operands : OperandsLive (marks_in m) (operands_of (s.operands.top ++ s.operands.under))
  pub saved : ValuesLive (marks_in m) (map value_of s.saved.items)
  pub objects : ObjectsLive s.world m

-- a run in the code, for which calls alone wait
abbrev pub IsInCalls : Run → Type 0
IsInCalls r = (r.task ≡ task.Code) × AreCalls (r.frames.top ++ r.frames.under)

-- but for objects that were given back, a run is as it was
pub record IsSameRun (old new : Run) : Type 0 where
  pub same : new ≡ record old { state = record old.state { world = new.state.world }; pace = new.pace }
  pub names : new.state.world.names ≡ old.state.world.names
  pub collected : (im : Image) (io : Io) → Collected (run_of im old io) (run_of im new io)
  pub in_range : (im : Image) → IsInRange im old → IsInRange im new
