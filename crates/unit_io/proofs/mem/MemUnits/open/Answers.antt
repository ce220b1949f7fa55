use Rattle.std.proofs.Common.{◌≡◌, [], ◌∷◌, ◌++◌, subst, sym, rules}
use Rattle.unit_io.proofs.OpenSides.{still_kept}
use Rattle.unit_io.specs.Held.{UnitsView, IsKept}
use Rattle.unit_io.specs.declared.mem.OpenUnit.{OpenUnit}
use Rattle.unit_io.proofs.mem.MemUnits.open.Goals as goal

pub invariant_of-self-2 : goal.invariant_of-self-2
invariant_of-self-2 c =
    let i = c.self.inside in
    let o : OpenUnit = record { unit = c.args.unit; side = c.args.side } in
    let held : UnitsView = record { opened = i.opened.items; printed = i.printed.items; failures = i.failures } in
    let longer : c.push.new.self.items ≡ i.opened.items ++ o ∷ [] = search rules in
    subst (λ os. IsKept (record held { opened = os })) (sym longer) (still_kept held o c.requires c.self.invariant)
