use Rattle.std.proofs.Common.{◌≡◌, ◌+◌, ℕ, ◌∙◌, ap, arith}
use Rattle.std.proofs.lemmas.Bool.{and_parts}
use Rattle.model.specs.Language.Strings.{span_to}
use Rattle.strings.proofs.bytes.spans_widest.Goals as goal

pub returns : goal.returns
returns c h =
    let at = c.args.at in
    let both = and_parts _ _ h in
    let low = and_parts c.spans_wide.result c.spans_wide-2.result both.0 in
    let high = and_parts c.spans_wide-3.result c.spans_wide-4.result both.1 in
    let to = λ (k : ℕ). span_to c.args.bytes.now k c.args.set.now in
    let second : to (at + 32) ≡ to (at + 16) = ap to (omega arith) ∙ c.spans_wide-2.ensures low.1 in
    let third : to (at + 48) ≡ to (at + 32) = ap to (omega arith) ∙ c.spans_wide-3.ensures high.0 in
    let fourth : to (at + 64) ≡ to (at + 48) = ap to (omega arith) ∙ c.spans_wide-4.ensures high.1 in
    fourth ∙ third ∙ second ∙ c.spans_wide.ensures low.0
