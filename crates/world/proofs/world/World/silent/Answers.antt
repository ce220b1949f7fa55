use Rattle.std.proofs.Common.{◌≡◌, None, Some, ap, subst, sym, ◌∙◌}
use Rattle.std.proofs.lemmas.Slice.Eq.{bytes_eq-Decides}
use Rattle.world.specs.Held.{StandsIn, WorldView, output_in, variable_at}
use Rattle.values.specs.declared.variable.Variable.{Variable}
use Rattle.world.proofs.world.World.silent.Goals as goal

pub returns-then-eq-clause-plain : goal.returns-then-eq-clause-plain
returns-then-eq-clause-plain c =
    let x = c.args.name.now in
    let v : Variable = c.in_ok-key.variable.now in
    let held = c.self.inside.variables.entries in
    let same : c.in_ok-key.key.now ≡ x = (bytes_eq-Decides c.in_ok-key.key.now x).0 (sym c.eq.ensures ∙ c.if-eq.true) in
    let found = ap (λ z. variable_at z held) (sym same) ∙ c.in_ok-key.ensures.value in
    subst (λ vs. StandsIn x c.args.slot vs × (output_in (variable_at x vs) ≡ None)) (ap (λ (h : WorldView). h.variables) c.self.view_is)
    ((v, sym c.in_ok-key.ensures.entry ∙ ap (λ z. Some (z, v)) same, found), ap output_in found ∙ c.in-None.is)
