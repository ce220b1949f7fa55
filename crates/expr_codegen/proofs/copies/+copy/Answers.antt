use Rattle.std.proofs.Common.{◌≡◌, ◌∙◌, sym, ap, map, take, arith}
use Rattle.std.proofs.lemmas.Grind.{common_steps}
use Rattle.model.specs.Deck.Trees as m
use Rattle.model.specs.Deck.TreeViews.{expr_of, arg_of}
use Rattle.model.specs.Deck.Weights.{of_expr, of_args}
use Rattle.expr_codegen.proofs.Arguments.{call_of_slice, reference_of_slice, next_argument, no_heavier}
use Rattle.expr_codegen.proofs.CopiedParts.{args_same, if_ok}
use Rattle.expr_codegen.proofs.copies.+copy.Goals as goal

pub all_copied-copied_argument-requires : goal.all_copied-copied_argument-requires
all_copied-copied_argument-requires t c =
    let xs = c.args.args.now in
    let i = c.loop-argument.argument-index in
    let next = ap of_args (next_argument xs i c.argument-item.result c.loop-argument-test.true c.argument-item.is) in
    let all = no_heavier xs i in
    omega (arith, next, all, c.decreases)

pub all_copied-returns : goal.all_copied-returns
all_copied-returns t c =
    let all : take c.loop-argument.argument-index c.args.args.now ≡ c.args.args.now = grind (arith, common_steps, c.loop-argument-test.false) in
    args_same c.loop-argument.copies.items c.args.args.now (c.loop-argument.invariant ∙ ap (map arg_of) all)

pub copied-copied_call-requires : goal.copied-copied_call-requires
copied-copied_call-requires t c =
    let whole = ap expr_of c.in-Call.is ∙ call_of_slice c.in-Call.f c.in-Call.args c.deref-in-Call.result.now c.deref-in-Call-2.result.now c.deref-in-Call.ensures.value c.deref-in-Call-2.ensures.value in
    let weight = ap of_expr whole in
    omega (arith, weight, c.decreases)

pub copied-copied_reference-requires : goal.copied-copied_reference-requires
copied-copied_reference-requires t c =
    let whole = ap expr_of c.in-Reference.is ∙ reference_of_slice c.in-Reference.a c.in-Reference.args c.deref-in-Reference.result.now c.deref-in-Reference-2.result.now c.deref-in-Reference.ensures.value c.deref-in-Reference-2.ensures.value in
    let weight = ap of_expr whole in
    omega (arith, weight, c.decreases)

pub copied-returns-in-Call : goal.copied-returns-in-Call
copied-returns-in-Call t c =
    let whole = ap expr_of c.in-Call.is ∙ call_of_slice c.in-Call.f c.in-Call.args c.deref-in-Call.result.now c.deref-in-Call-2.result.now c.deref-in-Call.ensures.value c.deref-in-Call-2.ensures.value in
    if_ok c.copied_call.result _ _ c.copied_call.ensures (λ b h. h ∙ sym whole)

pub copied-returns-in-Reference : goal.copied-returns-in-Reference
copied-returns-in-Reference t c =
    let whole = ap expr_of c.in-Reference.is ∙ reference_of_slice c.in-Reference.a c.in-Reference.args c.deref-in-Reference.result.now c.deref-in-Reference-2.result.now c.deref-in-Reference.ensures.value c.deref-in-Reference-2.ensures.value in
    if_ok c.copied_reference.result _ _ c.copied_reference.ensures (λ b h. h ∙ sym whole)

pub copied_call-returns : goal.copied_call-returns
copied_call-returns t c = if_ok c.call.result _ _ c.call.ensures (λ b h. h ∙ ap (m.Call c.args.f.now) c.in_ok-arguments.ensures)

pub copied_reference-returns : goal.copied_reference-returns
copied_reference-returns t c = if_ok c.reference.result _ _ c.reference.ensures (λ b h. h ∙ ap (m.Reference c.args.a.now) c.in_ok-subscripts.ensures)
