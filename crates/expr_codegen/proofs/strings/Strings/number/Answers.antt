use Rattle.std.proofs.Common.{◌≡◌, ◌∙◌, sym, ap, subst, map, length, ◌≤◌, ◌+◌}
use Rattle.expr_codegen.specs.Texts.{number_of_text, with_text}
use Rattle.expr_codegen.proofs.TextPlaces.{items, put_key, place_of, place_put, few_more, found_there}
use Rattle.expr_codegen.proofs.strings.Strings.number.Goals as goal

pub returns-clause-put : goal.returns-clause-put
returns-clause-put c =
    ap (map items) c.in_ok-index.ensures.keys ∙ put_key _ c.self.inside.set.keys
    ∙ ap (λ t. with_text t (map items c.self.inside.set.keys)) c.in_ok-kept.ensures ∙ ap (with_text c.args.text.now) c.self.view_is

pub returns-clause-place : goal.returns-clause-place
returns-clause-place c =
    c.in_ok-index.ensures.index ∙ place_of _ c.self.inside.set.keys
    ∙ ap (λ t. number_of_text t (map items c.self.inside.set.keys)) c.in_ok-kept.ensures ∙ ap (number_of_text c.args.text.now) c.self.view_is
    ∙ sym (place_put c.args.text.now c.args.self.now) ∙ ap (number_of_text c.args.text.now) (sym (returns-clause-put c))

pub returns-clause-few : goal.returns-clause-few
returns-clause-few c = subst (λ l. length l ≤ length c.args.self.now + 1) (sym (returns-clause-put c)) (few_more c.args.text.now c.args.self.now)

pub returns-in-Some-clause-put : goal.returns-in-Some-clause-put
returns-in-Some-clause-put c =
    let there = found_there c.args.text.now c.self.inside.set.keys c.in-Some.index (sym c.get_index_of.ensures.index ∙ c.in-Some.is) in
    sym (subst (λ l. with_text c.args.text.now l ≡ l) c.self.view_is there.0)

pub returns-in-Some-clause-place : goal.returns-in-Some-clause-place
returns-in-Some-clause-place c =
    let there = found_there c.args.text.now c.self.inside.set.keys c.in-Some.index (sym c.get_index_of.ensures.index ∙ c.in-Some.is) in
    there.1 ∙ ap (number_of_text c.args.text.now) c.self.view_is
