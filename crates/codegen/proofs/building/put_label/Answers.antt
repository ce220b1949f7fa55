use Rattle.std.proofs.Common.{◌∙◌, ap, sym, refl, subst}
use Rattle.expr_codegen.specs.Views.{gen_of}
use Rattle.codegen.specs.Building.{IsNamed}
use Rattle.codegen.specs.Labels.{name_of}
use Rattle.codegen.proofs.building.put_label.Goals as goal

pub returns-in_ok-push-in-Some : goal.returns-in_ok-push-in-Some
returns-in_ok-push-in-Some c =
    subst (λ o. IsNamed o c.args.number c.args.labels.now.items c.push.new.self.items (gen_of c.args.g.now) (gen_of c.string.new.self)) (sym (ap name_of c.in-Some.is) ∙ c.own_label.ensures)
    (c.in_ok-string-in-Some.string, c.in_ok-push-in-Some.ensures.items, c.in_ok-string-in-Some.ensures.numbered, c.in_ok-string-in-Some.ensures.size)

pub returns-in-None : goal.returns-in-None
returns-in-None c =
    subst (λ o. IsNamed o c.args.number c.args.labels.now.items c.args.labels.now.items (gen_of c.args.g.now) (gen_of c.args.g.now)) (sym (ap name_of c.in-None.is) ∙ c.own_label.ensures) (refl, refl)
