use Rattle.std.proofs.Common.{rules, w64, ◌≡◌, refl, sym, ap, ◌∙◌, subst, arith, true, false, drop, [], ◌≤◌, ◌+◌}
use Rattle.std.proofs.lemmas.Grind.{common_steps}
use Rattle.std.proofs.lemmas.Int.{to_z-of_z}
use Rattle.model.specs.declared.instr.Instr.TheVariants as op
use Rattle.model.specs.declared.trees.Expr.TheVariants as e
use Rattle.model.specs.declared.trees.Unary.TheVariants as u
use Rattle.model.specs.Deck.Trees as m
use Rattle.model.specs.Deck.TreeViews.{expr_of, arg_of, args_of}
use Rattle.model.specs.Language.Names.{prim_named}
use Rattle.model.specs.Deck.Weights.{of_expr, of_args}
use Rattle.model.proofs.Decks.ArgumentLists.{count_is}
use Rattle.expr_codegen.specs.Code as code
use Rattle.expr_codegen.specs.Code.{one, with_string, ◌>>◌}
use Rattle.expr_codegen.specs.Emitting.{Countable, AllCountable, most_counted, with_instr, with_number}
use Rattle.expr_codegen.specs.Views as views
use Rattle.expr_codegen.specs.Views.{gen_of}
use Rattle.expr_codegen.proofs.Joins.{both, instr, deferred, changed, stays, nothing_put, on_ok}
use Rattle.expr_codegen.proofs.Constructs.{value_of_tree, value_of_op, name_of_op, value_as, name_as, as_part, combined_is, last_of_five, no_name, no_target}
use Rattle.expr_codegen.proofs.Extensions.{extends_same, extends_trans, extends_changed}
use Rattle.expr_codegen.proofs.Arguments.{loop_step, loop_ends, next_argument, no_heavier, call_of_slice, reference_of_slice, name_weighs}
use Rattle.expr_codegen.proofs.expr.+tree.Goals as goal

-- ---- unary operators

pub applied-returns-in_ok-name-in-NameOf-clause-emits : goal.applied-returns-in_ok-name-in-NameOf-clause-emits
applied-returns-in_ok-name-in-NameOf-clause-emits t c =
    on_ok _ _ _ c.put.ensures.put (λ put. value_of_op c.args.op u.NameOf (expr_of c.args.x.now) c.in-NameOf.is (both c.in_ok-name-in-NameOf.ensures.emits (instr op.NameV _ _ put)))

pub applied-returns-in_ok-name-in-Cursor-clause-emits : goal.applied-returns-in_ok-name-in-Cursor-clause-emits
applied-returns-in_ok-name-in-Cursor-clause-emits t c =
    on_ok _ _ _ c.put-in-Cursor.ensures.put (λ put. value_of_op c.args.op u.Cursor (expr_of c.args.x.now) c.in-Cursor.is (both c.in_ok-name-in-Cursor.ensures.emits (instr op.Cursor _ _ put)))

pub applied-returns-in-Unevaluated-clause-emits : goal.applied-returns-in-Unevaluated-clause-emits
applied-returns-in-Unevaluated-clause-emits t c =
    on_ok _ _ _ c.defer.ensures.put (λ put. value_of_op c.args.op u.Unevaluated (expr_of c.args.x.now) c.in-Unevaluated.is (deferred _ _ _ _ refl put))

pub applied-returns-in_ok-value-in-Plus-clause-emits : goal.applied-returns-in_ok-value-in-Plus-clause-emits
applied-returns-in_ok-value-in-Plus-clause-emits t c =
    on_ok _ _ _ c.put-in-Plus.ensures.put (λ put. value_of_op c.args.op u.Plus (expr_of c.args.x.now) c.in-Plus.is (both c.in_ok-value-in-Plus.ensures.emits (instr _ _ _ put)))

pub applied-returns-in_ok-value-in-Minus-clause-emits : goal.applied-returns-in_ok-value-in-Minus-clause-emits
applied-returns-in_ok-value-in-Minus-clause-emits t c =
    on_ok _ _ _ c.put-in-Minus.ensures.put (λ put. value_of_op c.args.op u.Minus (expr_of c.args.x.now) c.in-Minus.is (both c.in_ok-value-in-Minus.ensures.emits (instr _ _ _ put)))

pub negated-set_number-requires : goal.negated-set_number-requires
negated-set_number-requires t c =
    stays (op.Try 0) c.at-begin.result _ _ _ c.at-begin.ensures c.in_ok-put.ensures.put
    (both c.in_ok-value.ensures.emits (both (instr op.Drop _ _ c.in_ok-put-2.ensures.put) (both (instr op.Untry _ _ c.in_ok-put-3.ensures.put) (both (instr op.Fail _ _ c.in_ok-put-4.ensures.put) (instr op.Null _ _ c.in_ok-put-5.ensures.put)))))
    refl

pub negated-returns-clause-emits : goal.negated-returns-clause-emits
negated-returns-clause-emits t c =
    changed op.Try 24 0 c.at-target.result _ _ _ _ _ (λ m. refl) (λ m. refl) c.in_ok-put.ensures.put
    (both c.in_ok-value.ensures.emits (both (instr op.Drop _ _ c.in_ok-put-2.ensures.put) (both (instr op.Untry _ _ c.in_ok-put-3.ensures.put) (instr op.Fail _ _ c.in_ok-put-4.ensures.put))))
    c.at-target.ensures (instr op.Null _ _ c.in_ok-put-5.ensures.put)
    (c.set_number.ensures.put ∙ ap (λ at. with_number at c.at-target.result (gen_of c.put-5.new.self)) c.at-begin.ensures)

pub applied_name-returns-in_ok-value-in-Indirect-clause-emits : goal.applied_name-returns-in_ok-value-in-Indirect-clause-emits
applied_name-returns-in_ok-value-in-Indirect-clause-emits t c =
    on_ok _ _ _ c.put.ensures.put (λ put. name_of_op c.args.op u.Indirect (expr_of c.args.x.now) c.in-Indirect.is (both c.in_ok-value-in-Indirect.ensures.emits (instr op.Indir _ _ put)))

-- ---- binary operators

pub combined-returns-clause-emits : goal.combined-returns-clause-emits
combined-returns-clause-emits t c =
    as_part (both c.in_ok-value.ensures.emits (both c.in_ok-wanted.ensures.emits (instr _ _ _ c.in_ok-put.ensures.put)))
    (ap (λ b. code.value (expr_of c.args.x.now) >> views.wanted b (expr_of c.args.y.now) >> one c.instr_of.result) c.takes_target.ensures
    ∙ ap (λ i. code.value (expr_of c.args.x.now) >> views.wanted (views.takes_target c.args.op) (expr_of c.args.y.now) >> one i) c.instr_of.ensures ∙ combined_is c.args.op _ _)

-- ---- arguments

pub arguments-loop-argument-preserved : goal.arguments-loop-argument-preserved
arguments-loop-argument-preserved t c =
    let xs = c.args.args.now in
    let i = c.loop-argument.argument-index in
    let x = c.argument-item.result in
    elim c.match-argument.branch [
      | goal.arguments-in-Absent+in_ok-put-in-Absent w ↦ loop_step xs i x m.Absent (gen_of c.args.g.now) (gen_of c.loop-argument.g) _ _ (ap gen_of w.g-is) (ap arg_of w.in-Absent.is) c.loop-argument-test.true c.argument-item.is c.loop-argument.invariant
          (instr op.Null _ _ w.in_ok-put-in-Absent.ensures.put) (let s = w.in_ok-put-in-Absent.ensures.size in omega (arith, s)) w.in_ok-put-in-Absent.ensures.extends
      | goal.arguments-in-Given+in_ok-value-in-Given w ↦ loop_step xs i x (m.Given (expr_of w.in-Given.e)) (gen_of c.args.g.now) (gen_of c.loop-argument.g) _ _ (ap gen_of w.g-is) (ap arg_of w.in-Given.is) c.loop-argument-test.true c.argument-item.is c.loop-argument.invariant
          w.in_ok-value-in-Given.ensures.emits (let s = w.in_ok-value-in-Given.ensures.size in omega (arith, s)) w.in_ok-value-in-Given.ensures.extends
    ]

pub arguments-put-requires : goal.arguments-put-requires
arguments-put-requires t c =
    let xs = c.args.args.now in
    let i = c.loop-argument.argument-index in
    let next = ap of_args (next_argument xs i c.argument-item.result c.loop-argument-test.true c.argument-item.is) in
    let inv = c.loop-argument.invariant.2 in
    let room = c.requires.room in
    omega (arith, next, inv, room)

pub arguments-value-requires : goal.arguments-value-requires
arguments-value-requires t c =
    let xs = c.args.args.now in
    let i = c.loop-argument.argument-index in
    let rest = args_of (drop (i + 1) xs) in
    let next : args_of (drop i xs) ≡ m.More (m.Given (expr_of c.in-Given.e)) rest = next_argument xs i c.argument-item.result c.loop-argument-test.true c.argument-item.is ∙ ap (λ a. m.More (arg_of a) rest) c.in-Given.is in
    let weight = ap of_args next in
    let inv = c.loop-argument.invariant.2 in
    let room = c.requires.room in
    let all = no_heavier xs i in
    (omega (arith, weight, all, c.decreases), ((subst AllCountable next c.loop-argument.invariant.1).0, omega (arith, weight, inv, room)))

pub arguments-returns-clause-emits : goal.arguments-returns-clause-emits
arguments-returns-clause-emits t c =
    let none : drop c.loop-argument.argument-index c.args.args.now ≡ [] = grind (arith, common_steps, c.loop-argument-test.false) in
    loop_ends c.args.args.now c.loop-argument.argument-index (gen_of c.args.g.now) (gen_of c.loop-argument.g) none c.loop-argument.invariant

pub arguments-returns-clause-extends : goal.arguments-returns-clause-extends
arguments-returns-clause-extends t c = c.loop-argument.invariant.3

pub arguments-returns-in_err-put-in-Absent-clause-extends : goal.arguments-returns-in_err-put-in-Absent-clause-extends
arguments-returns-in_err-put-in-Absent-clause-extends t c = extends_trans c.loop-argument.invariant.3 c.put.ensures.extends

pub arguments-returns-in_err-value-in-Given-clause-extends : goal.arguments-returns-in_err-value-in-Given-clause-extends
arguments-returns-in_err-value-in-Given-clause-extends t c = extends_trans c.loop-argument.invariant.3 c.value.ensures.extends

-- ---- calls and references

pub called-returns-clause-emits : goal.called-returns-clause-emits
called-returns-clause-emits t c = both c.in_ok-arguments.ensures.emits c.in_ok-call.ensures.emits

pub element-returns-clause-emits : goal.element-returns-clause-emits
element-returns-clause-emits t c =
    both c.in_ok-variable.ensures.emits (both (instr op.Fetch _ _ c.in_ok-put.ensures.put) (both c.in_ok-arguments.ensures.emits (instr _ _ _ c.in_ok-put-2.ensures.put)))

-- ---- each expression

pub value-returns-in-Integer-clause-emits : goal.value-returns-in-Integer-clause-emits
value-returns-in-Integer-clause-emits t c =
    on_ok _ _ _ c.put.ensures.put (λ put. value_of_tree c.args.e.now (e.Integer c.in-Integer.z) c.in-Integer.is (instr (op.Int c.in-Integer.z) _ _ (put ∙ ap (λ z. with_instr (op.Int z) (gen_of c.args.g.now)) (to_z-of_z w64 c.in-Integer.z (search rules)))))

pub value-returns-in-Call-clause-emits : goal.value-returns-in-Call-clause-emits
value-returns-in-Call-clause-emits t c =
    let whole = ap expr_of c.in-Call.is ∙ call_of_slice c.in-Call.f c.in-Call.args c.deref-in-Call.result.now c.deref-in-Call-2.result.now c.deref-in-Call.ensures.value c.deref-in-Call-2.ensures.value in
    on_ok _ _ _ c.called.ensures.emits (λ put. value_as _ _ whole (as_part put (ap (λ n. views.called false c.deref-in-Call.result.now (args_of c.deref-in-Call-2.result.now) n) (sym (count_is c.deref-in-Call-2.result.now)))))

pub value-returns-in-Call-clause-size : goal.value-returns-in-Call-clause-size
value-returns-in-Call-clause-size t c =
    let whole = ap of_expr (ap expr_of c.in-Call.is ∙ call_of_slice c.in-Call.f c.in-Call.args c.deref-in-Call.result.now c.deref-in-Call-2.result.now c.deref-in-Call.ensures.value c.deref-in-Call-2.ensures.value) in
    let some = name_weighs c.deref-in-Call.result.now in
    grind (arith, common_steps, whole, some, c.called.ensures.size)

pub value-called-requires : goal.value-called-requires
value-called-requires t c =
    let whole = ap expr_of c.in-Call.is ∙ call_of_slice c.in-Call.f c.in-Call.args c.deref-in-Call.result.now c.deref-in-Call-2.result.now c.deref-in-Call.ensures.value c.deref-in-Call-2.ensures.value in
    let countable = subst Countable whole c.requires.countable in
    let weight = ap of_expr whole in
    let some = name_weighs c.deref-in-Call.result.now in
    let room = c.requires.room in
    (omega (arith, weight, some, c.decreases), (countable.1, (subst (λ n. n ≤ most_counted (prim_named c.deref-in-Call.result.now)) (count_is c.deref-in-Call-2.result.now) countable.0, omega (arith, weight, some, room))))

-- ---- each name

pub name-called-requires : goal.name-called-requires
name-called-requires t c =
    let whole = ap expr_of c.in-Call.is ∙ call_of_slice c.in-Call.f c.in-Call.args c.deref-in-Call.result.now c.deref-in-Call-2.result.now c.deref-in-Call.ensures.value c.deref-in-Call-2.ensures.value in
    let countable = subst Countable whole c.requires.countable in
    let weight = ap of_expr whole in
    let some = name_weighs c.deref-in-Call.result.now in
    let room = c.requires.room in
    (omega (arith, weight, some, c.decreases), (countable.1, (subst (λ n. n ≤ most_counted (prim_named c.deref-in-Call.result.now)) (count_is c.deref-in-Call-2.result.now) countable.0, omega (arith, weight, some, room))))

pub name-returns-in-Call-clause-emits : goal.name-returns-in-Call-clause-emits
name-returns-in-Call-clause-emits t c =
    let whole = ap expr_of c.in-Call.is ∙ call_of_slice c.in-Call.f c.in-Call.args c.deref-in-Call.result.now c.deref-in-Call-2.result.now c.deref-in-Call.ensures.value c.deref-in-Call-2.ensures.value in
    on_ok _ _ _ c.called.ensures.emits (λ put. name_as _ _ whole (as_part put (ap (λ n. views.called true c.deref-in-Call.result.now (args_of c.deref-in-Call-2.result.now) n) (sym (count_is c.deref-in-Call-2.result.now)))))

pub name-returns-in-Call-clause-size : goal.name-returns-in-Call-clause-size
name-returns-in-Call-clause-size t c =
    let whole = ap of_expr (ap expr_of c.in-Call.is ∙ call_of_slice c.in-Call.f c.in-Call.args c.deref-in-Call.result.now c.deref-in-Call-2.result.now c.deref-in-Call.ensures.value c.deref-in-Call-2.ensures.value) in
    let some = name_weighs c.deref-in-Call.result.now in
    grind (arith, common_steps, whole, some, c.called.ensures.size)

pub name-element-requires : goal.name-element-requires
name-element-requires t c =
    let whole = ap expr_of c.in-Reference.is ∙ reference_of_slice c.in-Reference.x c.in-Reference.args c.deref-in-Reference.result.now c.deref-in-Reference-2.result.now c.deref-in-Reference.ensures.value c.deref-in-Reference-2.ensures.value in
    let countable = subst Countable whole c.requires.countable in
    let weight = ap of_expr whole in
    let some = name_weighs c.deref-in-Reference.result.now in
    let room = c.requires.room in
    (omega (arith, weight, some, c.decreases), (countable.1, (subst (λ n. n ≤ 65535) (count_is c.deref-in-Reference-2.result.now) countable.0, omega (arith, weight, some, room))))

pub name-returns-in-Reference-clause-emits : goal.name-returns-in-Reference-clause-emits
name-returns-in-Reference-clause-emits t c =
    let whole = ap expr_of c.in-Reference.is ∙ reference_of_slice c.in-Reference.x c.in-Reference.args c.deref-in-Reference.result.now c.deref-in-Reference-2.result.now c.deref-in-Reference.ensures.value c.deref-in-Reference-2.ensures.value in
    let count = sym (count_is c.deref-in-Reference-2.result.now) in
    on_ok _ _ _ c.element.ensures.emits (λ put. name_as _ _ whole (as_part put (ap (λ n. views.element c.deref-in-Reference.result.now (args_of c.deref-in-Reference-2.result.now) n) count)))

pub name-returns-in-Reference-clause-size : goal.name-returns-in-Reference-clause-size
name-returns-in-Reference-clause-size t c =
    let whole = ap of_expr (ap expr_of c.in-Reference.is ∙ reference_of_slice c.in-Reference.x c.in-Reference.args c.deref-in-Reference.result.now c.deref-in-Reference-2.result.now c.deref-in-Reference.ensures.value c.deref-in-Reference-2.ensures.value) in
    let some = name_weighs c.deref-in-Reference.result.now in
    grind (arith, common_steps, whole, some, c.element.ensures.size)

pub name-returns-in-Integer-clause-emits : goal.name-returns-in-Integer-clause-emits
name-returns-in-Integer-clause-emits t c = no_target c.args.e.now c.in-Integer.is

pub name-returns-in-Integer-2-clause-emits : goal.name-returns-in-Integer-2-clause-emits
name-returns-in-Integer-2-clause-emits t c = no_target c.args.e.now c.in-Integer.is

pub name-returns-in-Integer-3-clause-emits : goal.name-returns-in-Integer-3-clause-emits
name-returns-in-Integer-3-clause-emits t c = no_target c.args.e.now c.in-Integer.is

pub name-returns-in-Integer-4-clause-emits : goal.name-returns-in-Integer-4-clause-emits
name-returns-in-Integer-4-clause-emits t c = no_target c.args.e.now c.in-Integer.is

pub applied_name-returns-in_default : goal.applied_name-returns-in_default
applied_name-returns-in_default t c = record { emits = as_part (nothing_put _) (no_name c.args.op (expr_of c.args.x.now) c.in_default.not-Indirect); size = omega arith; extends = extends_same _ _ refl }

-- ---- what was put stands

pub applied_name-returns-in_ok-value-in-Indirect-clause-extends : goal.applied_name-returns-in_ok-value-in-Indirect-clause-extends
applied_name-returns-in_ok-value-in-Indirect-clause-extends t c = extends_trans c.value.ensures.extends c.put.ensures.extends

pub applied-returns-in_ok-name-in-NameOf-clause-extends : goal.applied-returns-in_ok-name-in-NameOf-clause-extends
applied-returns-in_ok-name-in-NameOf-clause-extends t c = extends_trans c.name.ensures.extends c.put.ensures.extends

pub applied-returns-in_ok-name-in-Cursor-clause-extends : goal.applied-returns-in_ok-name-in-Cursor-clause-extends
applied-returns-in_ok-name-in-Cursor-clause-extends t c = extends_trans c.name-in-Cursor.ensures.extends c.put-in-Cursor.ensures.extends

pub applied-returns-in_ok-value-in-Plus-clause-extends : goal.applied-returns-in_ok-value-in-Plus-clause-extends
applied-returns-in_ok-value-in-Plus-clause-extends t c = extends_trans c.value.ensures.extends c.put-in-Plus.ensures.extends

pub applied-returns-in_ok-value-in-Minus-clause-extends : goal.applied-returns-in_ok-value-in-Minus-clause-extends
applied-returns-in_ok-value-in-Minus-clause-extends t c = extends_trans c.value-in-Minus.ensures.extends c.put-in-Minus.ensures.extends

pub negated-returns-in_err-value-clause-extends : goal.negated-returns-in_err-value-clause-extends
negated-returns-in_err-value-clause-extends t c = extends_trans c.put.ensures.extends c.value.ensures.extends

pub negated-returns-in_err-put-2-clause-extends : goal.negated-returns-in_err-put-2-clause-extends
negated-returns-in_err-put-2-clause-extends t c = extends_trans c.put.ensures.extends (extends_trans c.value.ensures.extends c.put-2.ensures.extends)

pub negated-returns-in_err-put-3-clause-extends : goal.negated-returns-in_err-put-3-clause-extends
negated-returns-in_err-put-3-clause-extends t c = extends_trans c.put.ensures.extends (extends_trans c.value.ensures.extends (extends_trans c.put-2.ensures.extends c.put-3.ensures.extends))

pub negated-returns-in_err-put-4-clause-extends : goal.negated-returns-in_err-put-4-clause-extends
negated-returns-in_err-put-4-clause-extends t c =
    extends_trans c.put.ensures.extends (extends_trans c.value.ensures.extends (extends_trans c.put-2.ensures.extends (extends_trans c.put-3.ensures.extends c.put-4.ensures.extends)))

pub negated-returns-in_err-put-5-clause-extends : goal.negated-returns-in_err-put-5-clause-extends
negated-returns-in_err-put-5-clause-extends t c =
    extends_trans c.put.ensures.extends (extends_trans c.value.ensures.extends (extends_trans c.put-2.ensures.extends (extends_trans c.put-3.ensures.extends (extends_trans c.put-4.ensures.extends c.put-5.ensures.extends))))

pub negated-returns-clause-extends : goal.negated-returns-clause-extends
negated-returns-clause-extends t c =
    extends_changed c.at-begin.result c.at-target.result
    (extends_trans c.put.ensures.extends (extends_trans c.value.ensures.extends (extends_trans c.put-2.ensures.extends (extends_trans c.put-3.ensures.extends (extends_trans c.put-4.ensures.extends c.put-5.ensures.extends)))))
    c.at-begin.ensures c.set_number.ensures.put

pub combined-returns-in_err-wanted-clause-extends : goal.combined-returns-in_err-wanted-clause-extends
combined-returns-in_err-wanted-clause-extends t c = extends_trans c.value.ensures.extends c.wanted.ensures.extends

pub combined-returns-in_err-put-clause-extends : goal.combined-returns-in_err-put-clause-extends
combined-returns-in_err-put-clause-extends t c = extends_trans c.value.ensures.extends (extends_trans c.wanted.ensures.extends c.put.ensures.extends)

pub combined-returns-clause-extends : goal.combined-returns-clause-extends
combined-returns-clause-extends t c = extends_trans c.value.ensures.extends (extends_trans c.wanted.ensures.extends c.put.ensures.extends)

pub called-returns-in_err-call-clause-extends : goal.called-returns-in_err-call-clause-extends
called-returns-in_err-call-clause-extends t c = extends_trans c.arguments.ensures.extends c.call.ensures.extends

pub called-returns-clause-extends : goal.called-returns-clause-extends
called-returns-clause-extends t c = extends_trans c.arguments.ensures.extends c.call.ensures.extends

pub element-returns-in_err-put-clause-extends : goal.element-returns-in_err-put-clause-extends
element-returns-in_err-put-clause-extends t c = extends_trans c.variable.ensures.extends c.put.ensures.extends

pub element-returns-in_err-arguments-clause-extends : goal.element-returns-in_err-arguments-clause-extends
element-returns-in_err-arguments-clause-extends t c = extends_trans c.variable.ensures.extends (extends_trans c.put.ensures.extends c.arguments.ensures.extends)

pub element-returns-in_err-put-2-clause-extends : goal.element-returns-in_err-put-2-clause-extends
element-returns-in_err-put-2-clause-extends t c = extends_trans c.variable.ensures.extends (extends_trans c.put.ensures.extends (extends_trans c.arguments.ensures.extends c.put-2.ensures.extends))

pub element-returns-clause-extends : goal.element-returns-clause-extends
element-returns-clause-extends t c = extends_trans c.variable.ensures.extends (extends_trans c.put.ensures.extends (extends_trans c.arguments.ensures.extends c.put-2.ensures.extends))

-- ---- two instructions after a value

pub indirect-returns-clause-emits : goal.indirect-returns-clause-emits
indirect-returns-clause-emits t c =
    on_ok _ _ _ c.put-2.ensures.put (λ put. both c.in_ok-value.ensures.emits (both (instr op.Indir _ _ c.in_ok-put.ensures.put) (instr op.Fetch _ _ put)))

pub interrogated-returns-clause-emits : goal.interrogated-returns-clause-emits
interrogated-returns-clause-emits t c =
    on_ok _ _ _ c.put-2.ensures.put (λ put. both c.in_ok-value.ensures.emits (both (instr op.Drop _ _ c.in_ok-put.ensures.put) (instr op.Null _ _ put)))

pub value-returns-in-Name-clause-emits : goal.value-returns-in-Name-clause-emits
value-returns-in-Name-clause-emits t c =
    on_ok _ _ _ c.fetched.ensures.emits (λ put. value_of_tree c.args.e.now (e.Name c.in-Name.x) c.in-Name.is
    (as_part put (ap (λ s. with_string op.Var s >> one op.Fetch) c.deref.ensures.value)))

pub fetched_element-returns-clause-emits : goal.fetched_element-returns-clause-emits
fetched_element-returns-clause-emits t c = on_ok _ _ _ c.put.ensures.put (λ put. both c.in_ok-element.ensures.emits (instr op.Fetch _ _ put))

pub fetched_element-returns-clause-extends : goal.fetched_element-returns-clause-extends
fetched_element-returns-clause-extends t c = extends_trans c.element.ensures.extends c.put.ensures.extends

pub value-fetched_element-requires : goal.value-fetched_element-requires
value-fetched_element-requires t c =
    let whole = ap expr_of c.in-Reference.is ∙ reference_of_slice c.in-Reference.x c.in-Reference.args c.deref-in-Reference.result.now c.deref-in-Reference-2.result.now c.deref-in-Reference.ensures.value c.deref-in-Reference-2.ensures.value in
    let countable = subst Countable whole c.requires.countable in
    let weight = ap of_expr whole in
    let some = name_weighs c.deref-in-Reference.result.now in
    let room = c.requires.room in
    (omega (arith, weight, some, c.decreases), (countable.1, (subst (λ n. n ≤ 65535) (count_is c.deref-in-Reference-2.result.now) countable.0, omega (arith, weight, some, room))))

pub value-returns-in-Reference-clause-emits : goal.value-returns-in-Reference-clause-emits
value-returns-in-Reference-clause-emits t c =
    let whole = ap expr_of c.in-Reference.is ∙ reference_of_slice c.in-Reference.x c.in-Reference.args c.deref-in-Reference.result.now c.deref-in-Reference-2.result.now c.deref-in-Reference.ensures.value c.deref-in-Reference-2.ensures.value in
    let count = sym (count_is c.deref-in-Reference-2.result.now) in
    on_ok _ _ _ c.fetched_element.ensures.emits (λ put. value_as _ _ whole (last_of_five _ _ _ _ _
    (as_part put (ap (λ n. views.element c.deref-in-Reference.result.now (args_of c.deref-in-Reference-2.result.now) n >> one op.Fetch) count))))

pub value-returns-in-Reference-clause-size : goal.value-returns-in-Reference-clause-size
value-returns-in-Reference-clause-size t c =
    let whole = ap of_expr (ap expr_of c.in-Reference.is ∙ reference_of_slice c.in-Reference.x c.in-Reference.args c.deref-in-Reference.result.now c.deref-in-Reference-2.result.now c.deref-in-Reference.ensures.value c.deref-in-Reference-2.ensures.value) in
    let some = name_weighs c.deref-in-Reference.result.now in
    grind (arith, common_steps, whole, some, c.fetched_element.ensures.size)
