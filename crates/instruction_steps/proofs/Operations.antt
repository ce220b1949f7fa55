-- What an operation comes to: a value, a failure or an error.
use Rattle.std.proofs.Common.{◌≡◌, List, Option, Some, None, Result, Ok, Err, refl, sym, subst}
use Rattle.model.specs.declared.image.Image.{Image}
use Rattle.model.specs.Language.Io.{Io}
use Rattle.model.specs.Language.Conversions.{Op, Gives, Refuses, Faults}
use Rattle.model.specs.Machine.Steps as m
use Rattle.model.specs.Machine.Steps.{MW, Operand, Handler, after_op, fail_to}
use Rattle.frames.specs.declared.frame.Frame.{Frame}
use Rattle.values.specs.Answers.{AnswersAs, AnswersOrFails}
use Rattle.world.specs.Held.{world_of}
use Rattle.values.specs.declared.fault.Fault.{Fault}
use Rattle.values.specs.declared.fault.Fault.TheVariants as fault
use Rattle.instruction_steps.specs.Held.{Halted, Left}
use Rattle.instruction_steps.specs.Stopped.{halt_of}
use Rattle.instruction_steps.specs.declared.state.State.{State}
use Rattle.instruction_steps.specs.declared.status.Exit.{Exit}
use Rattle.instruction_steps.proofs.Keys.{halts}

-- on with what it gives
pub gives : {A : Type 0} (o : Op MW A) (a : A) (w : MW) (im : Image) (fs : List Frame) (r : Result (Unit {0}) Exit) (s : State) (io : Io) (hs : List Handler) (ops : List Operand) (waits : List m.Frame) (k : A → MW → m.State)
    → o ≡ Gives a w → Left im fs r s io (k a w) → Left im fs r s io (after_op o hs ops waits k)
gives o a w im fs r s io hs ops waits k e h = subst (λ x. Left im fs r s io (after_op x hs ops waits k)) (sym e) h

-- on where its failure leads
pub refuses : {A : Type 0} (o : Op MW A) (w : MW) (im : Image) (fs : List Frame) (r : Result (Unit {0}) Exit) (s : State) (io : Io) (hs : List Handler) (ops : List Operand) (waits : List m.Frame) (k : A → MW → m.State)
    → o ≡ Refuses w → Left im fs r s io (fail_to hs ops waits w) → Left im fs r s io (after_op o hs ops waits k)
refuses o w im fs r s io hs ops waits k e h = subst (λ x. Left im fs r s io (after_op x hs ops waits k)) (sym e) h

-- a fault of an operation that may fail ends the run as the definitions say
pub faults : {A : Type 0} (o : Op MW A) (f : Fault) (s : State) (io : Io) (hs : List Handler) (ops : List Operand) (waits : List m.Frame) (k : A → MW → m.State)
    → AnswersOrFails (Err f) (world_of s.world io) o → Halted (halt_of s.world.keys.stno f) s io (after_op o hs ops waits k)
faults o (fault.Error x) s io hs ops waits k a = halts o (fault.Error x) s io hs ops waits k a
faults o (fault.Stop x) s io hs ops waits k a = halts o (fault.Stop x) s io hs ops waits k a

-- ---- some operation answers so

pub some_answer : {A : Type 0} (r : Result A Fault) (w : MW) → (o : Op MW A) × AnswersAs r w o
some_answer (Ok a) w = (Gives a w, refl)
some_answer (Err (fault.Error e)) w = (Faults e w, refl)
some_answer (Err (fault.Stop s)) w = (Refuses w, tt)

pub some_answer_or_failure : {A : Type 0} (r : Result (Option A) Fault) (w : MW) → (o : Op MW A) × AnswersOrFails r w o
some_answer_or_failure (Ok (Some a)) w = (Gives a w, refl)
some_answer_or_failure (Ok None) w = (Refuses w, refl)
some_answer_or_failure (Err (fault.Error e)) w = (Faults e w, refl)
some_answer_or_failure (Err (fault.Stop s)) w = (Refuses w, tt)
