use Rattle.std.proofs.Common.{◌≡◌, ◌∙◌, ◌-◌, List, ap, sym, subst, length, reverse}
use Rattle.std.specs.Prelude.{Some, slice_get}
use Rattle.backtrack.specs.declared.way_back.Choice.{Choice}
use Rattle.backtrack.specs.Standing.{Standing, IsOfCode}
use Rattle.backtrack.specs.Logs.{Logs, Marks, logs_of}
use Rattle.backtrack.proofs.Chains.{cut_here, rewound, rewound_to}
use Rattle.backtrack.proofs.trail.Trail.rewind.Goals as goal

pub invariant_of-self : goal.invariant_of-self
invariant_of-self c =
    let a = c.self.inside in
    let x = c.in_ok-choice.choice.now in
    let newest : slice_get a.choices.items (length a.choices.items - 1) ≡ Some x =
    ap (λ (xs : List Choice). slice_get xs (length xs - 1)) (sym c.deref.ensures.value) ∙ sym c.in_ok-choice.ensures.value in
    let cut : cut_here (logs_of a) x ≡ record { codes = a.codes.items; log = c.cut.new.list.items; pending = c.cut-2.new.list.items } =
    λ i. record { codes = a.codes.items; log = sym c.cut.ensures i; pending = sym c.cut-2.ensures i } in
    record {
      marks = subst (λ (l : Logs). Marks l (reverse a.choices.items)) cut (rewound (logs_of a) a.choices.items x newest c.self.invariant.marks).marks;
      stored = c.self.invariant.stored;
    }

pub returns-clause-back : goal.returns-clause-back
returns-clause-back c =
    let a = c.self.inside in
    let x = c.in_ok-choice.choice.now in
    let newest : slice_get a.choices.items (length a.choices.items - 1) ≡ Some x =
    ap (λ (xs : List Choice). slice_get xs (length xs - 1)) (sym c.deref.ensures.value) ∙ sym c.in_ok-choice.ensures.value in
    rw (c.kept.ensures, c.cut.ensures, c.cut-2.ensures)
    (rewound_to (logs_of a) a.choices.items x a.code newest (subst (λ (v : Standing). IsOfCode v.code v.backs) (sym c.self.view_is) c.requires))
