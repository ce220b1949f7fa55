use Rattle.std.proofs.Common.{◌≡◌, ◌∙◌, ap}
use Rattle.model.specs.Language.Strings.{flags_of}
use Rattle.pattern_compiler.proofs.Sets.{at_some}
use Rattle.pattern_compiler.proofs.set.Set.span_len.Goals as goal

pub returns-in-Some-clause-value : goal.returns-in-Some-clause-value
returns-in-Some-clause-value c =
    let inside = c.self.inside in
    let e : c.as_ref.result.now ≡ flags_of c.args.self.now =
    c.as_ref.ensures
    ∙ at_some inside.table c.in-Some.table (λ t. t.value ≡ flags_of inside.text) c.in-Some.is c.self.invariant
    ∙ ap flags_of c.self.view_is in
    c.span_by.ensures.value c.args.self.now e

pub returns-in-None-clause-value : goal.returns-in-None-clause-value
returns-in-None-clause-value c = c.span_by-in-None.ensures.value c.args.self.now (c.of.ensures ∙ ap flags_of (c.as_slice.ensures ∙ c.self.view_is))
