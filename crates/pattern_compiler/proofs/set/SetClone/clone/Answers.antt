use Rattle.std.proofs.Common.{◌≡◌, ◌∙◌, ap, sym}
use Rattle.model.specs.Language.Strings.{flags_of}
use Rattle.pattern_compiler.proofs.Sets.{at_some, from_some, from_none}
use Rattle.pattern_compiler.proofs.set.SetClone.clone.Goals as goal
use Rattle.pattern_compiler.proofs.set.SetClone.clone.Goals.{in-Some+in_ok-clone-in-Some, in-None}

pub invariant_of-result : goal.invariant_of-result
invariant_of-result c =
    let inside = c.self.inside in
    elim c.match-self.branch [
      | in-Some+in_ok-clone-in-Some w ↦
          from_some c.match-self.table w.in_ok-clone-in-Some.field-0 (λ t. t.value ≡ flags_of c.in_ok-clone.field-0) w.table-is
          (w.in_ok-clone-in-Some.ensures.cases
          ∙ at_some inside.table w.in-Some.table (λ t. t.value ≡ flags_of inside.text) w.in-Some.is c.self.invariant
          ∙ ap flags_of (sym c.in_ok-clone.ensures.cases))
      | in-None w ↦ from_none c.match-self.table (λ t. t.value ≡ flags_of c.in_ok-clone.field-0) w.table-is
    ]
