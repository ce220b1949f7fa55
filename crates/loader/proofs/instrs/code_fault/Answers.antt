use Rattle.std.proofs.Common.{◌∙◌, rules, sym, arith}
use Rattle.module_format.specs.Views.{listed_left}
use Rattle.loader.proofs.Coding.{judged_none, judged_within, judged_more, judged_stops, judged_all}
use Rattle.loader.proofs.Spelt.{short}
use Rattle.loader.proofs.instrs.code_fault.Goals as goal

pub loop-instr-init : goal.loop-instr-init
loop-instr-init c = judged_none c.args.image.now c.args.place _ (sym c.requires.placed ∙ sym c.instrs-instr-items.ensures ∙ search rules)

pub overflow_add-next : goal.overflow_add-next
overflow_add-next c =
    let im = c.args.image.now in
    let w = judged_within im c.args.place c.loop-instr.at (listed_left c.loop-instr.instr-iterator) (listed_left c.next.new.self) c.in-Some.instr c.loop-instr.invariant c.in-Some.ensures.steps in
    omega (arith, short im c.requires.spelt, w, c.size.ensures)

pub overflow_add-result : goal.overflow_add-result
overflow_add-result c =
    let im = c.args.image.now in
    omega (arith, short im c.requires.spelt, c.requires.there, c.loop-instr.invariant.size)

pub returns-in-Some-instr_rule : goal.returns-in-Some-instr_rule
returns-in-Some-instr_rule c =
    judged_stops c.args.image.now c.args.place c.loop-instr.at (listed_left c.loop-instr.instr-iterator) (listed_left c.next.new.self) c.in-Some.instr c.loop-instr.invariant c.in-Some.ensures.steps c.size.result c.in-Some-instr_rule.rule c.size.ensures (sym c.in-Some-instr_rule.is ∙ c.instr_rule.ensures)

pub loop-instr-preserved : goal.loop-instr-preserved
loop-instr-preserved c =
    judged_more c.args.image.now c.args.place c.loop-instr.at (listed_left c.loop-instr.instr-iterator) (listed_left c.next.new.self) c.in-Some.instr c.loop-instr.invariant c.in-Some.ensures.steps c.size.result c.instr_rule.result c.size.ensures c.instr_rule.ensures c.in_default.is

pub returns : goal.returns
returns c = judged_all c.args.image.now c.args.place c.loop-instr.at (listed_left c.loop-instr.instr-iterator) c.loop-instr.invariant c.in-None.ensures.steps.0
