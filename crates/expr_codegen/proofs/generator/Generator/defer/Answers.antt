use Rattle.std.proofs.Common.{◌≤◌, ◌∙◌, ◌++◌, ◌∷◌, [], sym, ap, arith, length, map, subst}
use Rattle.std.proofs.lemmas.List.{length-map}
use Rattle.model.specs.Deck.TreeViews.{expr_of}
use Rattle.expr_codegen.specs.Views.{gen_of}
use Rattle.expr_codegen.proofs.Joins.{size_waiting, map_snoc}
use Rattle.expr_codegen.proofs.generator.Generator.defer.Goals as goal

pub returns-clause-size : goal.returns-clause-size
returns-clause-size c =
    let items = c.put.new.self.waiting.items in
    let within : c.put.new.self.taken ≤ length (map (λ e. expr_of e.value.expr) items) = subst (λ n. c.put.new.self.taken ≤ n) (sym (length-map items (λ e. expr_of e.value.expr))) c.put.new.self.within in
    let w = size_waiting (expr_of c.args.x.now) (gen_of c.put.new.self) _ within (ap (map (λ e. expr_of e.value.expr)) c.in_ok-push.ensures.items ∙ map_snoc (λ e. expr_of e.value.expr) items c.in_ok-kept.kept ∙ ap (λ e. map (λ e. expr_of e.value.expr) items ++ e ∷ []) c.in_ok-kept.ensures) in
    let p = c.in_ok-put.ensures.size in
    omega (arith, w, p)
