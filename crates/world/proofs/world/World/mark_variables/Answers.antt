use Rattle.std.proofs.Common.{arith, sym, subst, ap, ◌∙◌, ◌+◌}
use Rattle.std.proofs.lemmas.Option.{none-some}
use Rattle.heap.specs.Marked.{HasMarked, MarksView}
use Rattle.heap.proofs.Marking.{marked_on}
use Rattle.model.specs.Deck.Trees.{Bytes}
use Rattle.world.specs.Held.{WorldView}
use Rattle.world.specs.Marking.{VariablesLive}
use Rattle.values.specs.declared.variable.Variable.{Variable}
use Rattle.world.proofs.Reaching.{AllBelow, below_next, held_next, some_same, variables_live}
use Rattle.values.proofs.Living.{LivesBy}
use Rattle.world.proofs.world.World.mark_variables.Goals as goal
use Rattle.world.proofs.world.World.mark_variables.Goals.{in-Some+in_ok-mark, in_default}

pub loop-slot-preserved : goal.loop-slot-preserved
loop-slot-preserved c =
    let i = c.loop-slot.slot in
    let vs = c.self.inside.variables.entries in
    let first = c.args.marks.now in
    let old = c.loop-slot.marks in
    elim c.match-get_index.branch [
      | in-Some+in_ok-mark w ↦
          let new = w.mark.new.marks in
          let lives : AllBelow (λ (e : Bytes × Variable). LivesBy new e.1.value) (i + 1) vs =
          held_next (λ (e : Bytes × Variable). e.1.value) old new vs i c.loop-slot.invariant.lives w.in_ok-mark.ensures.grown
          (λ x e. subst (LivesBy new) (ap (λ (y : Bytes × Variable). y.1.value) (some_same (w.in-Some._name.now, w.in-Some.variable.now) x (w.in-Some.ensures.entry ∙ e))) w.in_ok-mark.ensures.lives) in
          record {
            lives = subst (λ (m : MarksView). AllBelow (λ (e : Bytes × Variable). LivesBy m e.1.value) (i + 1) vs) (sym w.marks-is) lives;
            grown = subst (λ (m : MarksView). HasMarked first m) (sym w.marks-is) (marked_on first old new c.loop-slot.invariant.grown w.in_ok-mark.ensures.grown);
          }
      | in_default w ↦
          record {
            lives = subst (λ (m : MarksView). AllBelow (λ (e : Bytes × Variable). LivesBy m e.1.value) (i + 1) vs) (sym w.marks-is)
                (below_next (λ (e : Bytes × Variable). LivesBy old e.1.value) i vs (λ x e. absurd (none-some x (w.in_default.ensures.entry ∙ e))) c.loop-slot.invariant.lives);
            grown = subst (λ (m : MarksView). HasMarked first m) (sym w.marks-is) c.loop-slot.invariant.grown;
          }
    ]

pub returns-clause-lives : goal.returns-clause-lives
returns-clause-lives c =
    subst (λ (h : WorldView). VariablesLive h c.loop-slot.marks) c.self.view_is
    (variables_live c.self.inside.variables.entries c.loop-slot.marks c.loop-slot.slot (grind (arith, c.len-slot-end.ensures.len, c.loop-slot-test.false)) c.loop-slot.invariant.lives)
