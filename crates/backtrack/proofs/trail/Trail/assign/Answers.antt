use Rattle.std.proofs.Common.{◌∷◌, [], reverse}
use Rattle.std.proofs.lemmas.List.{map-append}
use Rattle.backtrack.specs.Logs.{chain, assigned}
use Rattle.backtrack.proofs.Chains.{more_pending}
use Rattle.backtrack.proofs.trail.Trail.assign.Goals as goal

pub invariant_of-self-2 : goal.invariant_of-self-2
invariant_of-self-2 c =
    record {
      marks = rw c.in_ok-push.ensures.items (more_pending _ _ _ _ _ c.self.invariant.marks).marks;
      stored = c.self.invariant.stored;
    }

pub returns : goal.returns
returns c =
    let a = c.self.inside in
    rw (c.in_ok-push.ensures.items, ← c.self.view_is)
    (λ i. record {
      code = a.code;
      notes = chain (reverse a.log.items) a.head;
      pending = map-append assigned a.pending.items (c.args.assignment ∷ []) i;
      backs = (more_pending a.codes.items a.log.items a.pending.items (c.args.assignment ∷ []) (reverse a.choices.items) c.self.invariant.marks).backs i;
    })
