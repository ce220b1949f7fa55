use Rattle.std.proofs.Common.{◌≡◌, ◌∷◌, [], List, add-one, arith, drop, drop-cons, get_or, suc, subst, sym}
use Rattle.std.proofs.lemmas.List.{drop_all}
use Rattle.std.specs.Io.KnownBytes.{Appends}
use Rattle.model.specs.declared.causes.Cause.TheVariants.{StrayByte}
use Rattle.model.specs.declared.causes.StmtFault.{StmtFault}
use Rattle.driver.specs.FaultLines.{fault_line, fault_lines}
use Rattle.driver.proofs.LinesTold.{nothing_appended, parts_appended}
use Rattle.driver.proofs.fault_lines.tell_faults.Goals as goal

pub loop-fault-init : goal.loop-fault-init
loop-fault-init g c end h = h

pub loop-fault-preserved : goal.loop-fault-preserved
loop-fault-preserved g c end h =
    let xs : List StmtFault = c.args.faults.now in
    let i = c.loop-fault.fault-index in
    let none : StmtFault = record { number = 0; cause = StrayByte } in
    let split : drop i xs ≡ get_or xs i none ∷ drop (suc i) xs = drop-cons xs i none c.loop-fault-test.true in
    c.loop-fault.invariant end
    (subst (λ l. Appends (g.W.Write.contents c.loop-fault.out) end (fault_lines l)) (sym split)
    (parts_appended _ (g.W.Write.contents c.tell_fault.new.out) end (fault_line (get_or xs i none)) (fault_lines (drop (suc i) xs)) c.in_ok-tell_fault.ensures
    (subst (λ n. Appends (g.W.Write.contents c.tell_fault.new.out) end (fault_lines (drop n xs))) (add-one i) h)))

pub returns : goal.returns
returns g c =
    let none : drop c.loop-fault.fault-index c.args.faults.now ≡ [] = drop_all c.loop-fault.fault-index c.args.faults.now (omega (arith, c.loop-fault-test.false)) in
    c.loop-fault.invariant _ (subst (λ l. Appends (g.W.Write.contents c.loop-fault.out) (g.W.Write.contents c.loop-fault.out) (fault_lines l)) (sym none) (nothing_appended _))
