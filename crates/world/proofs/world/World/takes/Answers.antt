use Rattle.std.proofs.Common.{◌≡◌, None, Some, ap, subst, sym, ◌∙◌}
use Rattle.std.proofs.lemmas.Slice.Eq.{bytes_eq-Decides}
use Rattle.world.specs.Held.{StandsIn, WorldView, output_in, variable_at}
use Rattle.values.specs.declared.variable.Variable.{Variable}
use Rattle.world.proofs.world.World.takes.Goals as goal

pub returns-in-None : goal.returns-in-None
returns-in-None c e =
    let x = c.args.name.now in
    let v : Variable = c.in-Some.variable.now in
    let held = c.self.inside.variables.entries in
    let same : c.in-Some.key.now ≡ x = (bytes_eq-Decides c.in-Some.key.now x).0 (sym c.eq.ensures ∙ e) in
    let found = ap (λ z. variable_at z held) (sym same) ∙ c.in-Some.ensures.value in
    subst (λ vs. StandsIn x c.args.slot vs × (output_in (variable_at x vs) ≡ None)) (ap (λ (h : WorldView). h.variables) c.self.view_is)
    ((v, sym c.in-Some.ensures.entry ∙ ap (λ z. Some (z, v)) same, found), ap output_in found ∙ c.in-None.is)
