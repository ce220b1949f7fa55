use Rattle.std.proofs.Common.{◌≡◌, ◌∙◌, ap}
use Rattle.model.specs.Language.Strings.{has, flags_of}
use Rattle.pattern_compiler.proofs.Sets.{has-flags_of, at_some}
use Rattle.pattern_compiler.proofs.set.Set.has.Goals as goal

pub returns-in-Some : goal.returns-in-Some
returns-in-Some c =
    let inside = c.self.inside in
    let e : c.as_ref.result.now ≡ flags_of c.args.self.now =
    c.as_ref.ensures
    ∙ at_some inside.table c.in-Some.table (λ t. t.value ≡ flags_of inside.text) c.in-Some.is c.self.invariant
    ∙ ap flags_of c.self.view_is in
    c.has.ensures ∙ ap (λ fs. has fs c.args.byte) e ∙ has-flags_of c.args.self.now c.args.byte c.ranges.byte.fits
