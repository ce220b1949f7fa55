use Rattle.std.proofs.Common.{◌≡◌, ◌≤◌, length, sym, subst, ◌∙◌, arith}
use Rattle.std.specs.Prelude.{IfSome, None, Option, Some, slice_get}
use Rattle.std.proofs.lemmas.List.{length-map}
use Rattle.model.specs.Pattern.Patterns.{Do}
use Rattle.model.specs.Pattern.Steps.{Code}
use Rattle.pattern_compiler.specs.View.{basic_of, code_of, instr_of}
use Rattle.prefilter.proofs.Looks.{fails_outside, fails_part}
use Rattle.prefilter.proofs.look.part_at.Goals as goal

if_some : {A : Type 0} {P Q : A → Type 0} → (o : Option A) → ((x : A) → P x → Q x) → IfSome o P → IfSome o Q
if_some None f h = h
if_some (Some x) f h = f x h

pub returns : goal.returns
returns c =
    let code = code_of c.args.instrs.now in
    let left = c.in_ok-outer.ensures in
    let outer : Code = c.in_ok-outer.outer.now in
    let after = c.in_ok-outer.after in
    let past : length code ≤ c.args.place = omega (arith, length-map c.args.instrs.now instr_of, c.if-place-instrs.false) in
    if_some c.part_of-2.result
    (λ part here u e ns none same.
    let i = basic_of part.now in
    let notes : c.in_ok-trail.field-0.now.notes ≡ ns = subst (λ x. IfSome x (λ y. y.now.notes ≡ ns)) c.in_ok-trail.was same in
    let there : slice_get outer after ≡ Some (Do i) = subst (λ (k : Code). slice_get k after ≡ Some (Do i)) c.as_slice.ensures here in
    fails_outside u code outer ns left.0 c.args.place after e 1 (sym notes ∙ left.1) past (fails_part u outer left.0 after e i there none))
    c.part_of-2.ensures

pub returns-then-place-instrs : goal.returns-then-place-instrs
returns-then-place-instrs c =
    if_some c.part_of.result
    (λ part here u e ns none same. fails_part u (code_of c.args.instrs.now) ns c.args.place e (basic_of part.now) here none)
    c.part_of.ensures
