use Rattle.world.specs.Held.{world_of}
use Rattle.instruction_steps.proofs.Stopping.{served_alone}
use Rattle.instruction_steps.proofs.Flowing.{seen, act_stands}
use Rattle.instruction_steps.proofs.Telling.{no_records}
use Rattle.instruction_steps.proofs.Asked.{no_unit}
use Rattle.instruction_steps.proofs.state.State.execute.Goals as goal

pub returns-clause-served : goal.returns-clause-served
returns-clause-served g c = served_alone g.U.Units c.args.units.now c.execute_alone.result c.execute_alone.ensures.stop (λ io fs. c.execute_alone.ensures.left fs io)

pub returns-clause-sound : goal.returns-clause-sound
returns-clause-sound g c fs sound =
    let s = c.args.self.now in
    seen c.args.program.now fs c.execute_alone.result c.execute_alone.new.self no_records _ (c.execute_alone.ensures.left fs no_records)
    (act_stands c.args.program.now c.requires.runnable fs s c.args.next sound c.args.it.instr (world_of s.world no_records) c.requires.there.0)

pub returns-clause-asked : goal.returns-clause-asked
returns-clause-asked g c fs = no_unit c.execute_alone.result _ c.execute_alone.ensures.stop
