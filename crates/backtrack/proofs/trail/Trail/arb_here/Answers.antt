use Rattle.std.proofs.Common.{◌≡◌, ◌∙◌, ◌-◌, List, ap, sym, subst, refl, length}
use Rattle.std.specs.Prelude.{Some, slice_get}
use Rattle.backtrack.specs.declared.way_back.Choice.{Choice}
use Rattle.backtrack.specs.Standing.{Standing, IsOfCode}
use Rattle.backtrack.specs.Logs.{standing, logs_of}
use Rattle.backtrack.proofs.Chains.{at_arb, code_is}
use Rattle.backtrack.proofs.trail.Trail.arb_here.Goals as goal

pub returns-in-Arb : goal.returns-in-Arb
returns-in-Arb c =
    let a = c.self.inside in
    let x = c.in_ok-choice.choice.now in
    let newest : slice_get a.choices.items (length a.choices.items - 1) ≡ Some x =
    ap (λ (xs : List Choice). slice_get xs (length xs - 1)) (sym c.deref.ensures.value) ∙ sym c.in_ok-choice.ensures.value in
    let code = code_is (logs_of a) a.choices.items x a.code newest (subst (λ (v : Standing). IsOfCode v.code v.backs) (sym c.self.view_is) (c.is_here.ensures c.if-is_here.true)) in
    rw (← c.self.view_is) (at_arb (logs_of a) a.choices.items x c.in-Arb.end (standing a) newest (sym c.kept.ensures ∙ c.in-Arb.is) code refl)
