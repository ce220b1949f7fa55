use Rattle.std.proofs.Common.{◌≡◌, ◌+◌, ◌-◌, ◌≤◌, ◌∙◌, [], false, ap, sym, subst, refl, arith, inl, inr}
use Rattle.std.specs.Prelude.{IfSome}
use Rattle.std.proofs.lemmas.Bool.{cases_lt}
use Rattle.model.specs.Language.Strings.{has}
use Rattle.model.specs.Pattern.BasicEnds.{is_in_set}
use Rattle.pattern_compiler.proofs.Sets.{has-flags_of}
use Rattle.pattern_compiler.specs.View.{code_of}
use Rattle.prefilter.specs.Filters.{AreFirsts}
use Rattle.prefilter.specs.Looks.{FailFrom}
use Rattle.prefilter.proofs.Filters.{fits_within, key_here, starts_passed}
use Rattle.prefilter.proofs.prefilter.missing_for.Goals as goal

pub loop-at-preserved : goal.loop-at-preserved
loop-at-preserved c =
    let u = c.args.bytes.now in
    let f = c.args.keys.now.factor in
    let at = c.loop-at.invariant in
    record {
      after = omega (arith, at.after);
      before = omega (arith, c.loop-at-test.true, c.min-to.ensures);
      inside = λ some. omega (arith, c.loop-at-test.true, c.min-to.ensures, c.saturating_sub.ensures);
      others = λ ws e k l m. elim (cases_lt k c.loop-at.at) [
        | inl n ↦ at.others ws e k l n
        | inr n ↦
            let here : c.loop-at.at ≡ k = omega (arith, m, n) in
            let none : is_in_set ws (key_here u c.loop-at.at f) ≡ false =
            sym (has-flags_of ws (key_here u c.loop-at.at f) (omega arith)) ∙ ap (λ fs. has fs (key_here u c.loop-at.at f)) (sym e) ∙ ap (has c.args.keys.now.set) (sym c.key_of.ensures) ∙ sym c.has.ensures ∙ c.if-not-has.true in
            subst (λ j. is_in_set ws (key_here u j f) ≡ false) here none
      ];
    }

pub returns-clause-fails : goal.returns-clause-fails
returns-clause-fails c = λ code firsts e l m.
    let at = c.loop-at.invariant in
    (firsts.0.2) c.args.bytes.now [] e (omega (arith, l, m, at.inside (omega (arith, l, m)))) (at.others firsts.0.0 firsts.0.1 e l (omega (arith, l, m)))
