use Rattle.std.proofs.Common.{◌≡◌, sym, ◌∙◌, ap}
use Rattle.model.specs.Deck.Faults.{at_most, call_fits, count}
use Rattle.model.specs.Language.Names.{prim_named}
use Rattle.model.specs.Deck.Trees as tree
use Rattle.model.specs.Deck.TreeViews.{args_of, expr_of}
use Rattle.model.proofs.Decks.ArgumentLists.{call_is}
use Rattle.parser.proofs.rules.itself.Goals as goal

pub returns-in-Call-clause-calls : goal.returns-in-Call-clause-calls
returns-in-Call-clause-calls c =
    let shape : expr_of c.args.expr.now ≡ tree.Call c.in-Call.name.items (args_of c.in-Call.arguments.items) = ap expr_of c.in-Call.is ∙ call_is c.in-Call.name c.in-Call.arguments in
    c.takes.ensures
    ∙ ap (λ name. at_most (prim_named name) (count (args_of c.deref-in-Call.result.now))) c.deref.ensures.value
    ∙ ap (λ xs. at_most (prim_named c.in-Call.name.items) (count (args_of xs))) c.deref-in-Call.ensures.value
    ∙ ap call_fits (sym shape)
