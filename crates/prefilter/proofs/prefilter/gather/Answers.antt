use Rattle.std.proofs.Common.{◌≡◌, ◌∙◌, ◌+◌, ◌*◌, ◌<◌, ◌++◌, ◌∷◌, [], length, take, sym, subst, arith, rules}
use Rattle.std.proofs.Math.ListN.{set, length-set}
use Rattle.std.proofs.lemmas.List.{append_assoc, take_more_set}
use Rattle.model.specs.Pattern.Steps.{at_distance}
use Rattle.pattern_compiler.specs.View.{code_of}
use Rattle.prefilter.specs.Looks.{FailsUnless, HasKey}
use Rattle.prefilter.proofs.Filters.{front_fails, unless_more, unless_one}
use Rattle.prefilter.proofs.prefilter.gather.Goals as goal

pub loop-other-init : goal.loop-other-init
loop-other-init c = record {
  few = omega arith;
  fits = search rules;
  fails = λ ws n h.
      let same : n ≡ n + 3 * 0 = omega arith in
      subst (λ m. FailsUnless (code_of c.args.instrs.now) c.front-place.result.0 c.args.factor ws m) same h;
}

pub loop-other-preserved : goal.loop-other-preserved
loop-other-preserved c =
    let code = code_of c.args.instrs.now in
    let at = c.loop-other.at in
    let f = c.args.factor in
    let k = c.loop-other.count in
    let x = c.in_ok-found.field-0 in
    let before = take k c.loop-other.found in
    let split = c.in-Some.ensures.leads in
    let here : HasKey code c.in-Some.other f x = c.in_ok-found.ensures in
    let other : HasKey code (at_distance code at split.0) f x = subst (λ q. HasKey code q f x) split.2 here in
    let room : k < length c.loop-other.found = omega (arith, c.loop-other.invariant.fits, c.loop-other.invariant.few) in
    let more : take (k + 1) (set c.loop-other.found k x) ≡ before ++ x ∷ [] = take_more_set c.loop-other.found k x room in
    record {
      few = omega (arith, c.if-count-ge-MANY.false);
      fits = length-set c.loop-other.found k x ∙ c.loop-other.invariant.fits;
      fails = λ ws n h.
          let both : FailsUnless code c.front-place.result.0 f (before ++ x ∷ ws) (n + 3 + 3 * k) = c.loop-other.invariant.fails (x ∷ ws) (n + 3) (unless_more code at f n x ws split.0 split.1 h other) in
          let sum : n + 3 + 3 * k ≡ n + 3 * (k + 1) = omega arith in
          subst (λ vs. FailsUnless code c.front-place.result.0 f (vs ++ ws) (n + 3 * (k + 1))) (sym more)
          (subst (λ vs. FailsUnless code c.front-place.result.0 f vs (n + 3 * (k + 1))) (sym (append_assoc before (x ∷ []) ws))
          (subst (λ m. FailsUnless code c.front-place.result.0 f (before ++ x ∷ ws) m) sum both));
    }

pub returns : goal.returns
returns c =
    let code = code_of c.args.instrs.now in
    let f = c.args.factor in
    let k = c.loop-other.count in
    let x = c.in_ok-found-2.field-0 in
    let room : k < length c.loop-other.found = omega (arith, c.loop-other.invariant.fits, c.loop-other.invariant.few) in
    let more : take (k + 1) (set c.loop-other.found k x) ≡ take k c.loop-other.found ++ x ∷ [] = take_more_set c.loop-other.found k x room in
    let sum : 1 + 3 * k ≡ 3 * k + 1 = omega arith in
    let o = c.front-place.result.1 in
    let ws = take (k + 1) (set c.loop-other.found k x) in
    let fails : FailsUnless code c.front-place.result.0 f ws (3 * k + 1) =
    subst (λ vs. FailsUnless code c.front-place.result.0 f vs (3 * k + 1)) (sym more)
    (subst (λ m. FailsUnless code c.front-place.result.0 f (take k c.loop-other.found ++ x ∷ []) m) sum
    (c.loop-other.invariant.fails (x ∷ []) 1 (unless_one code c.loop-other.at f x c.in_ok-found-2.ensures))) in (
      (ws, c.of.ensures, front_fails code c.front-place.result.0 f o (3 * k + 1) ws c.front-place.ensures.leads fails),
      omega (arith, c.loop-other.invariant.few, c.front-place.ensures.one),
    )
