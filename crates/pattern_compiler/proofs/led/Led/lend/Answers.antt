use Rattle.std.proofs.Common.{◌∷◌, ◌∙◌, ap, sym}
use Rattle.model.specs.Pattern.Code.{cat_code}
use Rattle.pattern_compiler.specs.View.{instr_of, IsLed}
use Rattle.pattern_compiler.proofs.Sets.{at_some}
use Rattle.pattern_compiler.proofs.led.Led.lend.Goals as goal

pub returns-clause-code : goal.returns-clause-code
returns-clause-code c =
    let rest = c.self.inside.rest in
    let was = at_some _ _ (λ whole. IsLed rest whole.value.items) (sym c.take.ensures.value ∙ c.in-Some.is) c.self.invariant in
    let now = c.lead.ensures rest (rw c.in-Some-get_mut.ensures.value was) in
    c.shared.ensures ∙ now ∙ ap (λ code. instr_of c.in-Ok.only ∷ code) c.self.view_is ∙ ap (λ f. cat_code f c.args.self.now) (sym c.in-Ok.ensures)

pub returns-clause-led : goal.returns-clause-led
returns-clause-led c =
    let rest = c.self.inside.rest in
    let was = at_some _ _ (λ whole. IsLed rest whole.value.items) (sym c.take.ensures.value ∙ c.in-Some.is) c.self.invariant in
    let now = c.lead.ensures rest (rw c.in-Some-get_mut.ensures.value was) in
    (instr_of c.in-Ok.only, c.shared.ensures ∙ now ∙ ap (λ code. instr_of c.in-Ok.only ∷ code) c.self.view_is)
