use Rattle.std.proofs.Common.{◌∷◌, [], ◌∙◌, ap, reverse, ◌+◌}
use Rattle.backtrack.specs.Logs.{pending_of}
use Rattle.backtrack.proofs.Chains.{more_log, chain_push}
use Rattle.backtrack.proofs.trail.Trail.add.Goals as goal

pub invariant_of-self-2 : goal.invariant_of-self-2
invariant_of-self-2 c =
    record {
      marks = rw c.in_ok-push.ensures.items (more_log _ _ _ _ _ c.self.invariant.marks).marks;
      stored = c.self.invariant.stored;
    }

pub returns : goal.returns
returns c =
    let a = c.self.inside in
    rw (c.in_ok-push.ensures.items, ← c.self.view_is)
    (λ i. record {
      code = a.code;
      notes = chain_push a.log.items (record { note = c.args.note; below = a.head }) c.len-self-inside.result (c.len-self-inside.ensures ∙ c.in_ok-push.ensures.len ∙ ap (λ n. n + 1) a.log.ok.0) i;
      pending = pending_of a.pending.items;
      backs = (more_log a.codes.items a.log.items (record { note = c.args.note; below = a.head } ∷ []) a.pending.items (reverse a.choices.items) c.self.invariant.marks).backs i;
    })
