use Rattle.std.proofs.Common.{sym, subst}
use Rattle.heap.specs.Marked.{MarksView}
use Rattle.operations.specs.Marking.{ObjectsLive}
use Rattle.operations.proofs.Reached.{all_looked, looks_on}
use Rattle.operations.proofs.marking.mark_reached.Goals as goal

pub loop-object-preserved : goal.loop-object-preserved
loop-object-preserved c =
    looks_on c.args.world.now c.args.marks.now c.loop-object.marks c.next.new.self c.mark_held.new.marks c.in-Some.object c.loop-object.invariant c.in-Some.ensures c.in_ok-mark_held.ensures.grown c.in_ok-mark_held.ensures.lives

pub returns-in_default-clause-lives : goal.returns-in_default-clause-lives
returns-in_default-clause-lives c = λ _.
    subst (λ (m : MarksView). ObjectsLive c.args.world.now m) (sym c.in_default.ensures.1) (all_looked c.args.world.now c.args.marks.now c.loop-object.marks c.loop-object.invariant c.in_default.ensures.0)

pub returns-in-None-clause-lives : goal.returns-in-None-clause-lives
returns-in-None-clause-lives c = λ _.
    subst (λ (m : MarksView). ObjectsLive c.args.world.now m) (sym c.in-None.ensures.1) (all_looked c.args.world.now c.args.marks.now c.loop-object.marks c.loop-object.invariant c.in-None.ensures.0)
