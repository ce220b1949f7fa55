use Rattle.std.proofs.Common.{[], ◌∷◌, ◌++◌, sym, ap, ◌∙◌, append_assoc}
use Rattle.std.proofs.lemmas.Result.{on_ok_weaker}
use Rattle.model.specs.Language.Prototypes.{split_at}
use Rattle.prototypes.proofs.Cuts.{split_turn, split_last}
use Rattle.prototypes.proofs.parts.push_parts.Goals as goal

pub loop-name-preserved : goal.loop-name-preserved
loop-name-preserved c =
    let name = c.in-Some.name.now in
    let after = c.in-Some.after.now in
    let old = c.loop-name.names.items in
    ap (λ ns. ns ++ split_at 44 after) c.in_ok-push_name.ensures
    ∙ append_assoc old (name ∷ []) (split_at 44 after)
    ∙ ap (λ ns. old ++ ns) (sym (split_turn 44 c.loop-name.rest.now name after c.in-Some.ensures.0))
    ∙ c.loop-name.invariant

pub returns : goal.returns
returns c =
    let old = c.loop-name.names.items in
    on_ok_weaker c.push_name-2.result
    (λ put. put ∙ ap (λ ns. old ++ ns) (sym (split_last 44 c.loop-name.rest.now c.in_default.ensures)) ∙ c.loop-name.invariant)
    c.push_name-2.ensures
