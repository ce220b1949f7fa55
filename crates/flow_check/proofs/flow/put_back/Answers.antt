use Rattle.std.proofs.Common.{◌≡◌, ◌+◌, ◌≤◌, ◌++◌, refl, arith, length}
use Rattle.std.proofs.lemmas.Bool.Decides.{nat_tests}
use Rattle.model.specs.Module.Flow as flow
use Rattle.flow_check.specs.Rules.{left}
use Rattle.flow_check.proofs.Stacks.{grown}
use Rattle.flow_check.proofs.Steps.{length_both}
use Rattle.flow_check.proofs.flow.put_back.Goals as goal

pub returns-clause-put : goal.returns-clause-put
returns-clause-put c = λ ks hs h e g f.
    let n = c.count.ensures in
    let x = length_both (left c.args.leaves) ks in
    let kept : flow.floor_of hs ≤ length ks = grind (arith, nat_tests, f, e, c.if-depth-shape.false) in
    let deep : c.args.depth + c.count.result ≡ length (left c.args.leaves ++ ks) = omega (arith, e, n, x) in
    (kept, record { mode = refl; kinds = c.in_ok-kinds.ensures.left ks h; depth = deep; handlers = grown _ _ c.in_ok-kinds.ensures.grows _ _ g; floor = f }, refl)
