use Rattle.std.proofs.Common.{◌∷◌, ◌∙◌, ap}
use Rattle.pattern_compiler.specs.View.{instr_of, code_of, IsLed}
use Rattle.pattern_compiler.proofs.Sets.{at_some}
use Rattle.pattern_compiler.proofs.led.Led.led_by.Goals as goal

pub invariant_of-self : goal.invariant_of-self
invariant_of-self c =
    let rest = c.self.inside.rest in
    let was = at_some _ _ (λ whole. IsLed rest whole.value.items) c.in-Some.is c.self.invariant in
    (instr_of c.args.first, c.lead.ensures rest (rw c.in-Some-get_mut.ensures.value was))

pub invariant_of-self-in-Some-get_mut : goal.invariant_of-self-in-Some-get_mut
invariant_of-self-in-Some-get_mut c =
    let rest = c.self.inside.rest in
    let was = at_some _ _ (λ whole. IsLed rest whole.value.items) c.in-Some.is c.self.invariant in
    (instr_of c.args.first, c.lead.ensures rest (rw c.in-Some-get_mut.ensures.value was))

pub returns-in-Some-get_mut-clause-code : goal.returns-in-Some-get_mut-clause-code
returns-in-Some-get_mut-clause-code c =
    let rest = c.self.inside.rest in
    let was = at_some _ _ (λ whole. IsLed rest whole.value.items) c.in-Some.is c.self.invariant in
    let now = c.lead.ensures rest (rw c.in-Some-get_mut.ensures.value was) in
    c.shared.ensures
    ∙ ap (λ instrs. code_of instrs.items) c.in_ok-clone.ensures.cases
    ∙ now
    ∙ ap (λ code. instr_of c.args.first ∷ code) c.self.view_is
