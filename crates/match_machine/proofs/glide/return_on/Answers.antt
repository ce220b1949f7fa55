use Rattle.std.proofs.Common.{◌≡◌, ◌∙◌, subst}
use Rattle.backtrack.specs.declared.way_back.WayBack.TheVariants as kept
use Rattle.backtrack.specs.Standing.{IsKeptAt}
use Rattle.match_machine.specs.Moved.{Goes}
use Rattle.match_machine.specs.declared.state.Mode.TheVariants as mode
use Rattle.match_machine.specs.declared.state.Run.{Run}
use Rattle.match_machine.proofs.FirstEnds.{ok_then}
use Rattle.match_machine.proofs.Returns.{again, came_back}
use Rattle.match_machine.proofs.glide.return_on.Goals as goal

pub returns-in_ok-pass_on-in-Again : goal.returns-in_ok-pass_on-in-Again
returns-in_ok-pass_on-in-Again c = λ code.
    let u = c.args.bytes.now in
    let run = c.args.run.now in
    let mid = c.rewind.new.self in
    let same : mid.backs ≡ run.thread.trail.backs = c.rewind.ensures.same ∙ c.recover.ensures.same in
    let new = c.pass_on-in-Again.new.self in
    let q = c.in-Some.place in
    let e = c.in-Some.cursor in
    let at : IsKeptAt mid q e kept.Again = subst (IsKeptAt mid q e) c.in-Again.is c.in-Some.ensures.back in
    let here : Run = record { mode = mode.Going; start = run.start; left = run.left; thread = record { place = q; cursor = e; trail = new }; waiting = run.waiting; answer = run.answer } in
    ok_then c.glide.result (λ n. Goes u code n c.args.bound here c.glide.new.run) (λ n. Goes u code n c.args.bound run c.glide.new.run)
    (λ n goes.
    let came = again u run c.requires.mode mid new q e n code at same c.in_ok-pass_on-in-Again.ensures.ok goes.bound.0 goes.way in
    record { state = goes.state ∙ came.0; bound = goes.bound; way = came.1 })
    (c.glide.ensures code)

pub returns-in_ok-onward-in_default-kept : goal.returns-in_ok-onward-in_default-kept
returns-in_ok-onward-in_default-kept c = λ code.
    let u = c.args.bytes.now in
    let run = c.args.run.now in
    let mid = c.rewind.new.self in
    let same : mid.backs ≡ run.thread.trail.backs = c.rewind.ensures.same ∙ c.recover.ensures.same in
    let new = c.further_end.new.thread in
    let n = c.in_ok-steps-in_default-kept.steps in
    let falls = c.in_ok-steps-in_default-kept.ensures.falls in
    let some = c.in_ok-steps-in_default-kept.ensures.some in
    let came = came_back u run c.requires.mode code mid.backs new.trail new.place new.cursor n c.requires.going same (falls.back some) in
    record { state = c.in_ok-onward-in_default-kept.ensures.state u ∙ came.0; bound = (some, falls.left); way = came.1 }
