use Rattle.std.proofs.Common.{ap, refl, ◌∙◌}
use Rattle.model.specs.Pattern.Steps.{event_of}
use Rattle.frames.proofs.Matches.{advanced}
use Rattle.frames.specs.Matches.{Match}
use Rattle.frames.specs.declared.matching.Held.{Held}
use Rattle.frames.proofs.matching.Matching.go_on.Goals as goal

pub returns-clause-steps : goal.returns-clause-steps
returns-clause-steps c =
    let held = c.deref_mut.result.now in
    let seen : Held → Match = λ h. record { search = h.matcher; place = h.place; keep = h.keep } in
    advanced held.matcher c.go_on.new.self held.place held.keep c.args.self.now (event_of c.go_on.new.self.state) c.in_ok-count.count c.args.bound
    (ap seen c.deref_mut.ensures.value ∙ c.self.view_is) c.in_ok-count.ensures.steps refl c.requires.running c.requires.bound c.in_ok-count.ensures.fewer c.in_ok-count.ensures.way
