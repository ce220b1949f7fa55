use Rattle.std.proofs.Common.{◌≡◌, sym, ◌∙◌, ap, subst, drop}
use Rattle.std.proofs.lemmas.List.{drop-map}
use Rattle.model.specs.Deck.Lexed.{Lexed}
use Rattle.model.specs.Deck.Parse as spec
use Rattle.model.specs.Deck.Tokens.{tok, toks}
use Rattle.stmt_parser.specs.Views as view
use Rattle.stmt_parser.proofs.Lexed.{lexed_drop, rest_is}
use Rattle.stmt_parser.proofs.cursor.Cursor.operator.Goals as goal

pub invariant_of-self : goal.invariant_of-self
invariant_of-self c = subst Lexed (sym (rest_is c.next-op.result.1 c.self.inside.rest.now)) (lexed_drop c.next-op.result.1 c.self.inside.rest.now c.self.invariant)

pub returns-in-Some : goal.returns-in-Some
returns-in-Some c =
    let seen = subst (λ o. view.Seen c.args.self.now o c.next-op.result.1) c.in-Some.is c.next-op.ensures in
    let cut : drop c.next-op.result.1 (toks c.self.inside.rest.now) ≡ toks (drop c.next-op.result.1 c.self.inside.rest.now) = drop-map tok c.next-op.result.1 c.self.inside.rest.now in (
      seen.0 ∙ ap (λ x. spec.Sees c.in-Some.op x) (ap (drop c.next-op.result.1) (sym c.self.view_is) ∙ cut ∙ ap toks (sym (rest_is c.next-op.result.1 c.self.inside.rest.now))),
      sym c.grade.ensures ∙ c.if-grade-wanted.true,
    )
