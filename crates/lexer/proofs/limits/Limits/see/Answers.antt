use Rattle.std.proofs.Common.{ap, sym, ◌∙◌}
use Rattle.model.specs.Deck.Cut as cut
use Rattle.lexer.specs.Limits.{after}
use Rattle.lexer.proofs.limits.Limits.see.Goals as goal

pub returns-in-Mark : goal.returns-in-Mark
returns-in-Mark c = c.see_mark.ensures c.args.text.now ∙ ap (λ k. after c.args.self.now (cut.Token k c.args.text.now)) (sym c.in-Mark.is)
