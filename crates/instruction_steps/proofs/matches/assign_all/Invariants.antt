use Rattle.std.proofs.Common.{◌≡◌, None, drop}
use Rattle.model.specs.Language.Io.{Io}
use Rattle.match_machine.specs.View.{pending_of}
use Rattle.model.specs.Language.Operators.{assign_all}
use Rattle.model.specs.Language.Told.{IfTold}
use Rattle.model.specs.Laws.Agreement.{IsPrefix}
use Rattle.unit_io.specs.Service.{ServedAll}
use Rattle.world.specs.Held.{world_of}
use Rattle.instruction_steps.proofs.matches.assign_all.Given as goal

abbrev pub invariant-loop-assignment : goal.invariant-loop-assignment
invariant-loop-assignment g l = record {
  printed : IfTold (g.U.Units.told l.fn.units) (g.U.Units.told l.units) (λ io io'. IsPrefix io.printed io'.printed);
  names : l.world.names ≡ l.fn.world.names;
  served : ServedAll g.U.Units None l.fn.units l.units (λ io io'. assign_all (pending_of (drop l.assignment-index l.pending)) (world_of l.world io') ≡ assign_all (pending_of l.pending) (world_of l.fn.world io));
  any_units : (io : Io) → (io' : Io) × (assign_all (pending_of (drop l.assignment-index l.pending)) (world_of l.world io') ≡ assign_all (pending_of l.pending) (world_of l.fn.world io));
}
