use Rattle.std.proofs.Common.{◌∷◌, ap, subst, sym, ◌∙◌}
use Rattle.loader.specs.Places.{offset_at}
use Rattle.frames.specs.Frames.{frames_of}
use Rattle.frames.specs.Stacked.{Stacked}
use Rattle.frames.specs.declared.frame.Frame.{Frame}
use Rattle.frames.specs.declared.frame.Waiting.TheVariants as waiting_for
use Rattle.statement_machine.specs.Runs.{AreAsking}
use Rattle.statement_machine.proofs.Calling.{waits_now}
use Rattle.statement_machine.proofs.Matching.{still_asking}
use Rattle.world.specs.Slots.{HasSlots, KeptStands}
use Rattle.statement_machine.proofs.run.Run.open_call.Goals as goal

pub returns-clause-asking : goal.returns-clause-asking
returns-clause-asking c =
    let r = c.args.self.now in
    let k = c.in_ok-kept.kept in
    let ns = r.state.world.names in
    let names = c.enter_call.ensures.names in
    let slots : KeptStands ns k = subst (HasSlots ns) (sym c.in_ok-kept.ensures.kept.0) c.requires.slots in
    subst (λ (l : Stacked Frame). AreAsking c.enter_call.new.self.names l.top) (sym c.in_ok-push.ensures.ok)
    (still_asking (record { operands = c.open.result; handlers = c.open-2.result; waiting = waiting_for.Call k c.args.next c.args.want_name } ∷ r.frames.top) (slots, c.requires.asking) names)

pub returns-clause-opened : goal.returns-clause-opened
returns-clause-opened c im io =
    let o = offset_at im.code in
    let r = c.args.self.now in
    let k = c.in_ok-kept.kept in
    let after = c.enter_call.new.saved.items in
    let ops = c.open.ensures.opened in
    let hs = c.open-2.ensures.opened in
    ap (λ (l : Stacked Frame). frames_of o l.top c.open.new.self.under c.open-2.new.self.under after) c.in_ok-push.ensures.ok
    ∙ (λ i. frames_of o (record { operands = c.open.ensures.count i; handlers = c.open-2.ensures.count i; waiting = waiting_for.Call k c.args.next c.args.want_name } ∷ r.frames.top) ((ops i).under) ((hs i).under) after)
    ∙ waits_now im r.frames.top c.args.prototype k c.args.want_name c.args.next r.state after c.in_ok-kept.ensures.kept io
