use Rattle.std.proofs.Common.{leb-true, ◌≡◌, ◌∙◌, ◌-◌, ◌≤◌, List, ap, sym, arith, length}
use Rattle.std.specs.Prelude.{Some, slice_get}
use Rattle.std.proofs.lemmas.List.{take_all}
use Rattle.backtrack.specs.declared.way_back.Choice.{Choice}
use Rattle.backtrack.specs.Logs.{last_code, logs_of}
use Rattle.backtrack.proofs.Chains.{here_is}
use Rattle.backtrack.proofs.trail.Trail.is_here.Goals as goal

pub returns-then-self : goal.returns-then-self
returns-then-self c = λ fits.
    let a = c.self.inside in
    let x = c.in-Some.choice.now in
    let newest : slice_get a.choices.items (length a.choices.items - 1) ≡ Some x =
    ap (λ (xs : List Choice). slice_get xs (length xs - 1)) (sym c.deref.ensures.value) ∙ sym c.in-Some.ensures.value in
    let whole : length a.codes.items ≤ x.codes = omega (arith, c.len.ensures ∙ a.codes.ok.0, leb-true c.len.result x.codes fits) in
    rw (← c.self.view_is)
    (here_is (logs_of a) a.choices.items x a.code newest (ap last_code (take_all x.codes a.codes.items whole) ∙ c.self.invariant.stored c.if-self.true))
