-- Names of elements.
use Rattle.std.specs.Prelude.{◌≡◌, ℕ, List, ◌∷◌, Option, Some, None, Result, Ok, Err}
use Rattle.model.specs.declared.image.Image.{Image}
use Rattle.model.specs.Language.Io.{Io}
use Rattle.model.specs.Machine.Steps as m
use Rattle.model.specs.Machine.Steps.{ON, Run, fail_to}
use Rattle.loader.specs.Places.{offset_at}
use Rattle.frames.specs.View.{operands_of}
use Rattle.frames.specs.declared.frame.Frame.{Frame}
use Rattle.pattern_compiler.specs.View.{name_of}
use Rattle.pattern_compiler.specs.declared.instr.Name.{Name}
use Rattle.world.specs.Held.{world_of}
use Rattle.values.specs.declared.fault.Fault.{Fault}
use Rattle.instruction_steps.specs.Held.{Halted, handlers_in, waiting}
use Rattle.instruction_steps.specs.Stopped.{halt_of}
use Rattle.instruction_steps.specs.declared.state.State.{State}

-- the state is what goes on from this one with a name, or after a failure, or what a fault left; q is the place after the instruction
abbrev pub Named : Image → List Frame → (q : ℕ) → Result (Option Name) Fault → State → Io → m.State → Type 0
Named im fs q (Ok (Some n)) s io st = st ≡ Run (offset_at im.code q) (ON (name_of n) ∷ operands_of s.operands.top) (handlers_in im s) (waiting im fs s) (world_of s.world io)
Named im fs q (Ok None) s io st = st ≡ fail_to (handlers_in im s) (operands_of s.operands.top) (waiting im fs s) (world_of s.world io)
Named im fs q (Err f) s io st = Halted (halt_of s.world.keys.stno f) s io st
