use Rattle.std.proofs.Common.{◌∙◌, ap, sym}
use Rattle.parser.specs.Reads.{noted_faults}
use Rattle.parser.proofs.Noting.{all_told, is_nothing, is_something}
use Rattle.parser.proofs.reading.Reader.finish.Goals as goal

pub returns-then-is_empty-clause-faultless : goal.returns-then-is_empty-clause-faultless
returns-then-is_empty-clause-faultless c = λ ss h.
    sym (all_told ss c.args.self c.in-Ok.found (c.in-Ok.ensures ∙ ap (noted_faults c.args.self.labels) c.as_slice.ensures.value) h)
    ∙ sym c.as_slice-2.ensures ∙ is_nothing c.as_slice-2.result.now _ c.is_empty.ensures c.if-is_empty.true

pub returns-clause-refused : goal.returns-clause-refused
returns-clause-refused c = λ ss h.
    let told = all_told ss c.args.self c.in-Ok.found (c.in-Ok.ensures ∙ ap (noted_faults c.args.self.labels) c.as_slice.ensures.value) h in
    (told, λ none. is_something c.as_slice-2.result.now _ c.is_empty.ensures c.if-is_empty.false (c.as_slice-2.ensures ∙ told ∙ none))
