use Rattle.std.proofs.Common.{◌≡◌, ◌+◌, ◌∷◌, List, ap, sym, subst, arith}
use Rattle.std.specs.Prelude.{IfSome}
use Rattle.model.specs.Pattern.Steps.{Note, Opened, at_distance}
use Rattle.pattern_compiler.specs.View.{basic_of, code_of}
use Rattle.prefilter.specs.Looks.{FailsAt}
use Rattle.prefilter.proofs.Looks.{fails_jump, fails_open, fails_part, fails_split}
use Rattle.prefilter.proofs.look.fails_split.Goals as goal
use Rattle.prefilter.proofs.look.fails_split.Goals.{in-Some-jump_from, in_default-jump_from+then-opens_at, in_default-jump_from+else-opens_at}

pub loop-other-init : goal.loop-other-init
loop-other-init c = record {
  leads = λ ns m h.
      let same : m ≡ m + 0 = omega arith in
      subst (λ n. FailsAt c.args.bytes.now (code_of c.args.instrs.now) ns c.args.place c.args.cursor n) same h;
  few = omega arith;
}

pub loop-other-preserved : goal.loop-other-preserved
loop-other-preserved c =
    let u = c.args.bytes.now in
    let code = code_of c.args.instrs.now in
    let q = c.loop-other.at in
    let e = c.args.cursor in
    let s = c.loop-other.steps in
    let split = c.in-Some.ensures.leads in
    record {
      leads = λ ns m h.
          let other : FailsAt u code ns (at_distance code q split.0) e 1 = subst (λ p. FailsAt u code ns p e 1) split.2 (fails_part u code ns c.in-Some.other e (basic_of c.in-Some-part_of.part.now) c.in-Some-part_of.ensures (c.misses.ensures c.if-misses.true)) in
          let both : FailsAt u code ns q e (m + (1 + 2)) = fails_split u code ns q e m 1 split.0 split.1 h other in
          let sum : m + (1 + 2) + s ≡ m + (s + 3) = omega arith in
          subst (λ n. FailsAt u code ns c.args.place e n) sum (c.loop-other.invariant.leads ns (m + (1 + 2)) both);
      few = omega (arith, c.if-steps-lt-MANY.true);
    }

pub returns-then-fails : goal.returns-then-fails
returns-then-fails c = record {
  fails = λ some ns same.
      let u = c.args.bytes.now in
      let code = code_of c.args.instrs.now in
      let q = c.loop-other.at in
      let e = c.args.cursor in
      let s = c.loop-other.steps in
      let last = c.match-jump_from.last in
      let looked : (ms : List Note) → IfSome last.1 (λ t. t.now.notes ≡ ms) → FailsAt u code ms last.0 e 1 = c.misses_at-fails.ensures c.if-fails.true in
      let here : FailsAt u code ns q e last.2 = elim c.match-jump_from.branch [
        | in-Some-jump_from w ↦
            let jump = w.in-Some-jump_from.ensures in
            let there = subst (λ x. (ms : List Note) → IfSome x.1 (λ t. t.now.notes ≡ ms) → FailsAt u code ms x.0 e 1) w.last-is looked in
            subst (λ n. FailsAt u code ns q e n) (sym (ap (λ x. x.2) w.last-is))
            (fails_jump u code ns q e 1 jump.0 jump.1 (subst (λ p. FailsAt u code ns p e 1) jump.2 (there ns same)))
        | in_default-jump_from+then-opens_at w ↦
            let there = subst (λ x. (ms : List Note) → IfSome x.1 (λ t. t.now.notes ≡ ms) → FailsAt u code ms x.0 e 1) w.last-is looked in
            subst (λ n. FailsAt u code ns q e n) (sym (ap (λ x. x.2) w.last-is))
            (fails_open u code ns q e 1 (w.opens_at.ensures.opens w.if-opens_at.true) (there (Opened e ∷ ns) (record {})))
        | in_default-jump_from+else-opens_at w ↦
            let there = subst (λ x. (ms : List Note) → IfSome x.1 (λ t. t.now.notes ≡ ms) → FailsAt u code ms x.0 e 1) w.last-is looked in
            subst (λ n. FailsAt u code ns q e n) (sym (ap (λ x. x.2) w.last-is)) (there ns same)
      ] in
      let sum : last.2 + s ≡ s + last.2 = omega arith in
      subst (λ n. FailsAt u code ns c.args.place e n) sum (c.loop-other.invariant.leads ns last.2 here);
}
