use Rattle.std.proofs.Common.{◌∙◌}
use Rattle.backtrack.proofs.Chains.{kept_standing, ready_now}
use Rattle.backtrack.proofs.trail.Trail.keep.Goals as goal

pub returns : goal.returns
returns c =
    let a = c.self.inside in
    let stored = c.self.invariant.stored c.if-not-self.false in
    rw (← c.self.view_is)
    (kept_standing a a (ready_now a stored) c.in_ok-choice.choice c.push_reserved.new.self.items c.args.kept c.args.place c.args.cursor _ _ _ c.in_ok-choice.ensures c.push_reserved.ensures.items (c.len.ensures ∙ a.log.ok.0) (c.len-2.ensures ∙ a.pending.ok.0) (c.len-3.ensures ∙ a.codes.ok.0) c.self.invariant.marks)
