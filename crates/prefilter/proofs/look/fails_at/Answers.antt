use Rattle.std.proofs.Common.{◌≡◌, ◌∙◌, [], false, true, sym, arith}
use Rattle.std.proofs.lemmas.Bool.{eqb-false}
use Rattle.model.specs.Pattern.BasicEnds.{ends_at}
use Rattle.pattern_compiler.specs.View.{basic_of, code_of}
use Rattle.prefilter.specs.Looks.{FailsAt}
use Rattle.prefilter.proofs.Looks.{fails_part}
use Rattle.prefilter.proofs.ManyStarts.{not_true}
use Rattle.prefilter.proofs.Misses.{fails_rpos}
use Rattle.prefilter.proofs.look.fails_at.Goals as goal
use Rattle.prefilter.proofs.look.fails_at.Goals.{in-Some-RPos, in-Some, in-None, in-None-2}

pub returns-then-fails : goal.returns-then-fails
returns-then-fails c = record {
  fails = λ some ns same.
      let u = c.args.bytes.now in
      let e = c.args.cursor in
      let code = code_of c.args.instrs.now in
      let here : FailsAt u code ns c.args.place e 1 = elim c.match-part_of.branch [
        | in-Some-RPos w ↦
            let none : ends_at u (basic_of w.in-Some-RPos.field-0.now) e ≡ [] = rw w.in-Some-RPos.field-0-is (fails_rpos u w.in-Some-RPos.n e (λ whole. eqb-false _ _ (not_true _ (sym w.fails-is ∙ c.if-fails.true)) (omega (arith, whole)))) in
            fails_part u code ns c.args.place e (basic_of w.in-Some-RPos.field-0.now) w.in-Some-RPos.ensures none
        | in-Some w ↦ fails_part u code ns c.args.place e (basic_of w.in-Some.part.now) w.in-Some.ensures (w.misses_apart-fails.ensures (sym w.fails-is ∙ c.if-fails.true))
        | in-None w ↦ w.misses_at-fails.ensures (sym w.fails-is ∙ c.if-fails.true) ns same
        | in-None-2 w ↦ let no : false ≡ true = sym w.fails-is ∙ c.if-fails.true in absurd (cc)
      ] in
      here;
  most = c.requires.most;
}
