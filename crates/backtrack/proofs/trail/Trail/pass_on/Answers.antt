use Rattle.std.proofs.Common.{reverse}
use Rattle.backtrack.specs.Logs.{chain, pending_of, logs_of}
use Rattle.backtrack.proofs.Chains.{rest_marks, rest_backs}
use Rattle.backtrack.proofs.trail.Trail.pass_on.Goals as goal

pub invariant_of-self-in-Some : goal.invariant_of-self-in-Some
invariant_of-self-in-Some c =
    let a = c.self.inside in
    record {
      marks = rest_marks (logs_of a) a.choices.items c.pop.new.self.items c.in-Some.choice c.in-Some.ensures.items c.self.invariant.marks;
      stored = c.self.invariant.stored;
    }

pub invariant_of-self : goal.invariant_of-self
invariant_of-self c =
    let a = c.self.inside in
    record {
      marks = rest_marks (logs_of a) a.choices.items c.pop.new.self.items c.in-Some.choice c.in-Some.ensures.items c.self.invariant.marks;
      stored = c.self.invariant.stored;
    }

pub returns-in_default-kept-clause-ok : goal.returns-in_default-kept-clause-ok
returns-in_default-kept-clause-ok c =
    let a = c.self.inside in
    rw (c.in_default-kept.is, ← c.self.view_is)
    (λ i. record {
      code = a.code;
      notes = chain (reverse a.log.items) a.head;
      pending = pending_of a.pending.items;
      backs = rest_backs (logs_of a) a.choices.items c.pop.new.self.items c.in-Some.choice c.in-Some.ensures.items c.self.invariant.marks i;
    })
