use Rattle.std.proofs.Common.{◌∙◌, ◌∷◌, ◌+◌, refl, sym, ap, drop, map}
use Rattle.model.specs.Deck.TreeViews.{expr_of}
use Rattle.expr_codegen.proofs.Joins.{drop_here}
use Rattle.expr_codegen.proofs.generator.Generator.take.Goals as goal

pub returns-clause-taken : goal.returns-clause-taken
returns-clause-taken c =
    let items = c.args.self.now.waiting.items in
    let n = c.args.self.now.taken in (
      refl,
      drop_here (λ e. expr_of e.value.expr) items c.as_slice.result.now n c.in-Some.next.now _ c.as_slice.ensures.value c.in-Some.ensures.lookup.0 c.in-Some.ensures.lookup.1
          ∙ ap (λ v. expr_of v.expr ∷ drop (n + 1) (map (λ e. expr_of e.value.expr) items)) (sym c.in_ok-next.ensures.cases),
    )
