use Rattle.std.proofs.Common.{sym, subst, arith}
use Rattle.match_machine.specs.Turns.{IsBack}
use Rattle.match_machine.proofs.WaysBack.{back_on}
use Rattle.match_machine.proofs.falls.further_end.Goals as goal

pub returns-clause-falls : goal.returns-clause-falls
returns-clause-falls c =
    let u = c.args.bytes.now in
    let old = c.args.thread.now.trail in
    let new = c.pass_on.new.self in
    let e = c.next_end-end.result.0 in
    let n = c.next_end-end.result.1 in
    record {
      back = λ _. subst (λ p. IsBack u old.backs new p e n) (sym c.next_place-thread.ensures)
          (back_on u old new c.args.place c.requires.kept.0 e n c.args.kept c.next_end-end.result.2 c.requires.kept.1 c.next_end-end.ensures.next c.in_ok-pass_on.ensures.ok);
      left = c.next_end-end.ensures.left.1;
      none = λ l. absurd (omega (arith, l, c.next_end-end.ensures.left.0));
      code = c.in_ok-pass_on.ensures.code;
    }
