use Rattle.std.proofs.Common.{◌≡◌, ◌-◌, length, ◌∙◌, ap}
use Rattle.flow_check.proofs.Stacks.{grown, grows_on}
use Rattle.flow_check.proofs.Steps.{put_advances, taken_at, depth_left}
use Rattle.flow_check.specs.Rules.{taken}
use Rattle.flow_check.proofs.flow.operate.Goals as goal

pub returns-in_ok-next-in-Some-clause-advanced : goal.returns-in_ok-next-in-Some-clause-advanced
returns-in_ok-next-in-Some-clause-advanced c = λ s h.
    let t = taken_at _ _ c.in-Some.below _ s.kinds c.in-Some.is (c.in_ok-take.ensures.taken s.kinds h.kinds) in
    let d : c.args.shape.depth - c.count.result ≡ length t.0 = ap (λ n. c.args.shape.depth - n) c.count.ensures ∙ depth_left c.args.shape.depth s (taken c.args.takes) t.0 h.depth t.1 in
    put_advances _ _ c.args.shape.mode s c.args.takes c.args.leaves t.0 h.mode t.1
    (c.in_ok-next-in-Some.ensures.put t.0 s.handlers t.2 d (grown _ _ c.in_ok-take.ensures.grows _ _ h.handlers) h.floor)

pub returns-in_ok-next-in-Some-clause-grows : goal.returns-in_ok-next-in-Some-clause-grows
returns-in_ok-next-in-Some-clause-grows c = grows_on _ _ _ c.in_ok-take.ensures.grows c.in_ok-next-in-Some.ensures.grows
