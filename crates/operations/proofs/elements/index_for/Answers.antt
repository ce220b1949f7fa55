use Rattle.std.proofs.Common.{IfSome, ap, rules, subst, sym, ◌∙◌}
use Rattle.model.specs.Language.Values.{Int}
use Rattle.operations.specs.Elements.{IndexesEntry}
use Rattle.values.specs.Values.{value_of}
use Rattle.operations.proofs.elements.index_for.Goals as goal

pub returns-in-Integer : goal.returns-in-Integer
returns-in-Integer c =
    subst (λ v. IfSome c.index_by.result (λ index. IndexesEntry c.args.object v index c.args.world.now)) (sym (ap value_of c.in-Integer.is ∙ ap Int (search rules))) c.index_by.ensures

pub returns-in-String : goal.returns-in-String
returns-in-String c =
    subst (λ v. IfSome c.index_by_text.result (λ index. IndexesEntry c.args.object v index c.args.world.now)) (sym (ap value_of c.in-String.is)) c.index_by_text.ensures
