use Rattle.std.proofs.Common.{ap, ◌∙◌, ◌∷◌}
use Rattle.frames.specs.Stacked.{Stacked}
use Rattle.frames.specs.declared.operand.Operand.{Operand}
use Rattle.frames.specs.declared.operand.Operand.TheVariants as operand
use Rattle.values.specs.Answers.{done, stopped_by}
use Rattle.unit_io.proofs.Serving.{served_for}
use Rattle.instruction_steps.proofs.Fetching.{spliced, splice_io, splice_sound}
use Rattle.instruction_steps.specs.Stopped.{halted_by}
use Rattle.instruction_steps.proofs.Printing.{kept_settled}
use Rattle.operations.proofs.Asked.{prints_on}
use Rattle.instruction_steps.proofs.Asked.{unit_settled}
use Rattle.instruction_steps.proofs.state.State.splice.Goals as goal

pub returns-clause-served : goal.returns-clause-served
returns-clause-served g c =
    served_for c.splice_at-answer.ensures.served (c.went.ensures.counts _ _)
    (λ io io' x im fs. spliced im fs c.args.next c.args.self.now c.went.new.self c.splice_at-answer.new.world c.went.result c.pop_name-named.new.operands c.pop_name-named.result
    c.pop_value-value.result c.pop_span-span.result (done c.splice_at-answer.result)
    (c.pop_value-value.ensures ∙ ap (λ (l : Stacked Operand). record l { top = operand.Value c.pop_value-value.result ∷ l.top }) (c.pop_span-span.ensures ∙ ap (λ (l : Stacked Operand). record l { top = operand.Span c.pop_span-span.result ∷ l.top }) c.pop_name-named.ensures)) (c.went.ensures.left im fs) io io' x)

pub returns-clause-sound : goal.returns-clause-sound
returns-clause-sound g c im fs h =
    splice_sound im fs c.args.next c.args.self.now c.went.new.self c.splice_at-answer.new.world c.went.result c.pop_name-named.new.operands c.pop_name-named.result
    c.pop_value-value.result c.pop_span-span.result (done c.splice_at-answer.result) h
    (c.pop_value-value.ensures ∙ ap (λ (l : Stacked Operand). record l { top = operand.Value c.pop_value-value.result ∷ l.top }) (c.pop_span-span.ensures ∙ ap (λ (l : Stacked Operand). record l { top = operand.Span c.pop_span-span.result ∷ l.top }) c.pop_name-named.ensures)) (c.went.ensures.left im fs)

pub returns-clause-quiet : goal.returns-clause-quiet
returns-clause-quiet g c = kept_settled (halted_by c.went.result) _ _ _ c.went.ensures.stop c.splice_at-answer.ensures.quiet

pub returns-clause-asked : goal.returns-clause-asked
returns-clause-asked g c im fs =
    unit_settled (halted_by c.went.result) _ _ c.went.ensures.stop
    (prints_on _ (stopped_by c.splice_at-answer.result) _ _ (splice_io im fs c.args.next c.args.self.now c.went.new.self c.splice_at-answer.new.world c.went.result c.pop_name-named.new.operands c.pop_name-named.result c.pop_value-value.result c.pop_span-span.result
    (c.pop_value-value.ensures ∙ ap (λ (l : Stacked Operand). record l { top = operand.Value c.pop_value-value.result ∷ l.top }) (c.pop_span-span.ensures ∙ ap (λ (l : Stacked Operand). record l { top = operand.Span c.pop_span-span.result ∷ l.top }) c.pop_name-named.ensures))) c.splice_at-answer.ensures.asked)
