use Rattle.std.proofs.Common.{◌≡◌, sym, ◌∙◌, ap, ap₂, subst, inl, inr, ◌&&◌, [], drop, arith}
use Rattle.std.proofs.lemmas.Grind.{common_steps}
use Rattle.model.specs.Deck.Faults.{everywhere, in_args, call_fits, keyword_known, operand_fits}
use Rattle.model.specs.Deck.Trees as tree
use Rattle.model.specs.Deck.TreeViews.{args_of, expr_of}
use Rattle.model.proofs.Decks.ArgumentLists.{call_is, reference_is}
use Rattle.parser.specs.Rules.{AllKeep, Keeps}
use Rattle.parser.specs.declared.rules.Kept.{Kept}
use Rattle.parser.proofs.Arguments.{args_turn, args_end}
use Rattle.parser.proofs.rules.+keeps.Goals as goal

record Keeps_itself (kept : Kept) (e : tree.Expr) : Type 0 where
  calls : kept.calls ≡ call_fits e
  keywords : kept.keywords ≡ keyword_known e
  operands : kept.operands ≡ operand_fits e

record Both (a b both : Kept) : Type 0 where
  calls : both.calls ≡ (a.calls && b.calls)
  keywords : both.keywords ≡ (a.keywords && b.keywords)
  operands : both.operands ≡ (a.operands && b.operands)

pub all_keep-loop-argument-preserved : goal.all_keep-loop-argument-preserved
all_keep-loop-argument-preserved t c =
    let xs = c.args.arguments.now in
    let i = c.loop-argument.argument-index in
    let x = c.argument-item.result in (
      args_turn call_fits _ c.loop-argument.all.calls c.argument_keeps.result.calls c.and-all.result.calls xs i x c.loop-argument-test.true c.argument-item.is c.loop-argument.invariant.0 c.argument_keeps.ensures.calls c.and-all.ensures.calls,
      args_turn keyword_known _ c.loop-argument.all.keywords c.argument_keeps.result.keywords c.and-all.result.keywords xs i x c.loop-argument-test.true c.argument-item.is c.loop-argument.invariant.1 c.argument_keeps.ensures.keywords c.and-all.ensures.keywords,
      args_turn operand_fits _ c.loop-argument.all.operands c.argument_keeps.result.operands c.and-all.result.operands xs i x c.loop-argument-test.true c.argument-item.is c.loop-argument.invariant.2 c.argument_keeps.ensures.operands c.and-all.ensures.operands,
    )

pub all_keep-returns : goal.all_keep-returns
all_keep-returns t c =
    let xs = c.args.arguments.now in
    let i = c.loop-argument.argument-index in
    let none : drop i xs ≡ [] = grind (arith, common_steps, c.loop-argument-test.false) in
    record {
      calls = args_end call_fits _ c.loop-argument.all.calls xs i c.loop-argument.invariant.0 none;
      keywords = args_end keyword_known _ c.loop-argument.all.keywords xs i c.loop-argument.invariant.1 none;
      operands = args_end operand_fits _ c.loop-argument.all.operands xs i c.loop-argument.invariant.2 none;
    }

-- what a call and a reference keep, by what they keep themselves and what their arguments keep
of_call : (own args kept : Kept) (name : tree.Bytes) (xs : tree.Args) (e : tree.Expr) → e ≡ tree.Call name xs → Keeps_itself own e → AllKeep args xs → Both own args kept → Keeps kept e
of_call own args kept name xs e i o a b = record {
  calls = b.calls ∙ ap₂ ◌&&◌ o.calls a.calls ∙ ap (λ x. call_fits x && in_args call_fits xs) i ∙ ap (everywhere call_fits) (sym i);
  keywords = b.keywords ∙ ap₂ ◌&&◌ o.keywords a.keywords ∙ ap (λ x. keyword_known x && in_args keyword_known xs) i ∙ ap (everywhere keyword_known) (sym i);
  operands = b.operands ∙ ap₂ ◌&&◌ o.operands a.operands ∙ ap (λ x. operand_fits x && in_args operand_fits xs) i ∙ ap (everywhere operand_fits) (sym i);
}

of_reference : (own args kept : Kept) (name : tree.Bytes) (xs : tree.Args) (e : tree.Expr) → e ≡ tree.Reference name xs → Keeps_itself own e → AllKeep args xs → Both own args kept → Keeps kept e
of_reference own args kept name xs e i o a b = record {
  calls = b.calls ∙ ap₂ ◌&&◌ o.calls a.calls ∙ ap (λ x. call_fits x && in_args call_fits xs) i ∙ ap (everywhere call_fits) (sym i);
  keywords = b.keywords ∙ ap₂ ◌&&◌ o.keywords a.keywords ∙ ap (λ x. keyword_known x && in_args keyword_known xs) i ∙ ap (everywhere keyword_known) (sym i);
  operands = b.operands ∙ ap₂ ◌&&◌ o.operands a.operands ∙ ap (λ x. operand_fits x && in_args operand_fits xs) i ∙ ap (everywhere operand_fits) (sym i);
}

pub keeps-returns-in-Call : goal.keeps-returns-in-Call
keeps-returns-in-Call t c =
    let args : AllKeep c.all_keep.result (args_of c.in-Call.arguments.items) = subst (λ xs. AllKeep c.all_keep.result (args_of xs)) c.deref-in-Call.ensures.value c.all_keep.ensures in
    let own : Keeps_itself c.itself-in-Call.result (expr_of c.args.expr.now) = record { calls = c.itself-in-Call.ensures.calls; keywords = c.itself-in-Call.ensures.keywords; operands = c.itself-in-Call.ensures.operands } in
    let both : Both c.itself-in-Call.result c.all_keep.result c.and-in-Call.result = record { calls = c.and-in-Call.ensures.calls; keywords = c.and-in-Call.ensures.keywords; operands = c.and-in-Call.ensures.operands } in
    elim c.in-Call.is [
      | inl i ↦ of_call c.itself-in-Call.result c.all_keep.result c.and-in-Call.result i.0.items (args_of c.in-Call.arguments.items) (expr_of c.args.expr.now) (ap expr_of i.1 ∙ call_is i.0 c.in-Call.arguments) own args both
      | inr i ↦ of_reference c.itself-in-Call.result c.all_keep.result c.and-in-Call.result i.0.items (args_of c.in-Call.arguments.items) (expr_of c.args.expr.now) (ap expr_of i.1 ∙ reference_is i.0 c.in-Call.arguments) own args both
    ]
