use Rattle.std.proofs.Common.{◌≡◌, ◌<◌, length, true, subst, sym, ◌∙◌, rules}
use Rattle.std.specs.Prelude.{IfSome}
use Rattle.model.specs.Language.Prototypes.{are_distinct}
use Rattle.prototypes.specs.declared.function.Parts.{Parts}
use Rattle.prototypes.proofs.Functions.{function_names_differ}
use Rattle.prototypes.proofs.function.function_prototype.Goals as goal

pub invariant_of-result : goal.invariant_of-result
invariant_of-result c =
    let parts = c.in-Some.parts in
    let yes : c.in_ok-is_function.field-0 ≡ true = search rules in
    let whole = subst (λ o. IfSome o (λ (p : Parts). p.arity < length p.names.items)) c.in-Some.is c.in_ok-parts.ensures.arity in
    subst (λ (p : Parts). (p.arity < length p.names.items) × (are_distinct p.names.items ≡ true)) (sym c.in_ok-parts-2.ensures.ok)
    (whole, function_names_differ c.args.level parts.names.items parts.arity whole (sym c.in_ok-is_function.ensures ∙ yes))
