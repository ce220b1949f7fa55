use Rattle.std.proofs.Common.{◌∷◌, ap, sym, ◌∙◌, subst, rules, w64}
use Rattle.std.proofs.lemmas.Int.{to_z-of_z}
use Rattle.model.specs.Machine.Steps.{At, Run, OV}
use Rattle.model.specs.Language.Values.{Int}
use Rattle.model.specs.declared.instr.Instr.TheVariants as op
use Rattle.frames.specs.View.{operands_of}
use Rattle.loader.specs.Places.{offset_at}
use Rattle.world.specs.Held.{world_of}
use Rattle.segments.specs.Leading.{LeadsTo}
use Rattle.instruction_steps.specs.Held.{HasNumber, Left, after, handlers_in, waiting}
use Rattle.instruction_steps.proofs.Flowing.{above, asks_above, body_needs, goes, untry_needs}
use Rattle.instruction_steps.proofs.state.State.execute_alone.Goals as goal

pub operate-requires-clause-there : goal.operate-requires-clause-there
operate-requires-clause-there c =
    above c.args.program.now c.requires.runnable c.args.self.now c.args.next c.requires.fits c.args.it.instr c.requires.there.0 (asks_above c.args.it.instr _ (sym c.is_operator.ensures ∙ c.if-is_operator.true))

pub returns-then-is_operator-clause-left : goal.returns-then-is_operator-clause-left
returns-then-is_operator-clause-left c fs io = c.operate.ensures.left c.args.program.now fs io

pub returns-in-Begin-clause-left : goal.returns-in-Begin-clause-left
returns-in-Begin-clause-left c fs io =
    let im = c.args.program.now in
    let s = c.args.self.now in
    let at = subst (λ i. LeadsTo im i c.args.it.target) c.in-Begin.is c.requires.there.1 in
    let number = subst (λ i. HasNumber im i (offset_at im.code s.place) c.args.it.number) c.in-Begin.is c.requires.there.2 in
    rw c.in-Begin.is (subst (λ t. Left im fs c.begin.result c.begin.new.self io (after im (op.Begin t) c.args.next fs s io)) at (c.begin.ensures.left im fs io number))

pub end_body-requires : goal.end_body-requires
end_body-requires c =
    let to = offset_at c.args.program.now.code c.args.next in
    body_needs c.args.program.now c.requires.runnable c.args.self.now c.args.next c.requires.fits (c.requires.there.0 ∙ ap (λ i. At i to) c.in-Body.is)

pub returns-in-Body-clause-left : goal.returns-in-Body-clause-left
returns-in-Body-clause-left c fs io = rw c.in-Body.is (c.end_body.ensures.left c.args.program.now fs io)

pub returns-in-KeyGet-clause-left : goal.returns-in-KeyGet-clause-left
returns-in-KeyGet-clause-left c fs io = rw c.in-KeyGet.is (c.keyword.ensures.left c.args.program.now fs io)

pub returns-in-Goto-clause-left : goal.returns-in-Goto-clause-left
returns-in-Goto-clause-left c fs io =
    let im = c.args.program.now in
    let to = offset_at im.code c.args.next in
    let leads = subst (λ i. LeadsTo im i c.args.it.target) c.in-Goto.is c.requires.there.1 in
    rw c.in-Goto.is (goes im c.requires.runnable c.args.self.now c.args.next c.requires.fits fs _ c.args.it.target io (c.requires.there.0 ∙ ap (λ i. At i to) c.in-Goto.is) leads)

pub returns-in-NoLabel-clause-left : goal.returns-in-NoLabel-clause-left
returns-in-NoLabel-clause-left c fs io = rw c.in-NoLabel.is (c.no_label.ensures.left c.args.program.now fs c.args.next io)

pub returns-in-Int-clause-left : goal.returns-in-Int-clause-left
returns-in-Int-clause-left c fs io =
    let im = c.args.program.now in
    let s = c.args.self.now in
    rw c.in-Int.is
    (subst (λ z. Left im fs c.put.result c.put.new.self io (Run (offset_at im.code c.args.next) (OV (Int z) ∷ operands_of s.operands.top) (handlers_in im s) (waiting im fs s) (world_of s.world io)))
    (to_z-of_z w64 c.in-Int.n (search rules)) (c.put.ensures.left im fs io))

pub returns-in-Try-clause-left : goal.returns-in-Try-clause-left
returns-in-Try-clause-left c fs io =
    let im = c.args.program.now in
    let at = subst (λ i. LeadsTo im i c.args.it.target) c.in-Try.is c.requires.there.1 in
    rw c.in-Try.is (subst (λ t. Left im fs c.begin_try.result c.begin_try.new.self io (after im (op.Try t) c.args.next fs c.args.self.now io)) at (c.begin_try.ensures.left im fs io))

pub end_try-requires : goal.end_try-requires
end_try-requires c =
    let to = offset_at c.args.program.now.code c.args.next in
    untry_needs c.args.program.now c.requires.runnable c.args.self.now c.args.next c.requires.fits (c.requires.there.0 ∙ ap (λ i. At i to) c.in-Untry.is)

pub returns-in-Untry-clause-left : goal.returns-in-Untry-clause-left
returns-in-Untry-clause-left c fs io = rw c.in-Untry.is (c.end_try.ensures.left c.args.program.now fs io)

pub returns-in-Fail-clause-left : goal.returns-in-Fail-clause-left
returns-in-Fail-clause-left c fs io = rw c.in-Fail.is (c.fail.ensures.left c.args.program.now fs io)

pub returns-in-NoLabel-clause-stop : goal.returns-in-NoLabel-clause-stop
returns-in-NoLabel-clause-stop c = c.no_label.ensures.stop
