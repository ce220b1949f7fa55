use Rattle.std.proofs.Common.{rules, arith, ◌≤◌, ◌≡◌, refl, ◌∙◌, ap, subst, sym, suc, ◌-◌, ◌+◌, [], ◌∷◌, ◌++◌, true, false, map, length}
use Rattle.std.proofs.lemmas.List.{map-append}
use Rattle.std.specs.Prelude.{None, Some, is_some, not}
use Rattle.std.proofs.lemmas.Grind.{common_steps}
use Rattle.model.specs.Deck.Parse as spec
use Rattle.model.specs.Deck.Parse.{lefts, rights, graded, element}
use Rattle.model.specs.Deck.Tokens as m
use Rattle.model.specs.Deck.TreeViews.{args_of}
use Rattle.stmt_parser.specs.Views as view
use Rattle.stmt_parser.specs.Views.{Reads, boxed_of}
use Rattle.stmt_parser.proofs.Loops.{ahead_misses, before, climb_fails, climb_start, graded_fails, graded_none, marks_end, marks_go, one_more, no_more, powered_goes, powered_none, powered_stop, lefts_stop, lefts_go, lefts_end, lefts_miss, graded_left, onto, rights_none, rights_stop, rights_go, rights_start, rights_end, tight_goes, tight_misses, tight_none, stopped, went_on, prepend, several_go, several_end, several_start}
use Rattle.stmt_parser.proofs.expressions.+expr.Goals as goal
use Rattle.stmt_parser.proofs.expressions.+expr.Goals.{climbed-then-is_tight+in_ok-found, climbed-else-is_tight, climbed-then-ahead-below+in_ok-found-2, climbed-else-ahead-below}

pub graded-returns-in-0 : goal.graded-returns-in-0
graded-returns-in-0 t c =
    subst (λ k. Reads boxed_of (graded (element c.args.depth) k c.args.cursor.now) c.marked.result c.marked.new.cursor) (sym c.in-0.is)
    (subst (λ o. Reads boxed_of o c.marked.result c.marked.new.cursor) (sym (graded_none (element c.args.depth) c.args.cursor.now)) c.marked.ensures)

pub graded-returns-in-2 : goal.graded-returns-in-2
graded-returns-in-2 t c =
    let atom = element c.args.depth in
    subst (λ k. Reads boxed_of (graded atom k c.args.cursor.now) c.rights.result c.rights.new.cursor) (sym c.in-2.is)
    (subst (λ o. Reads boxed_of o c.rights.result c.rights.new.cursor) (ap (λ n. rights (graded atom 1) 2 n c.args.cursor.now) c.len-turns.ensures ∙ sym (climb_start atom c.args.cursor.now)) c.rights.ensures)

pub assigned-returns-in_err-first : goal.assigned-returns-in_err-first
assigned-returns-in_err-first t c =
    let none = graded_none (element c.args.depth) c.args.cursor.now in
    let fails = graded_fails (element c.args.depth) 1 0 refl refl c.args.cursor.now in
    first_of (search rules, grind (arith, common_steps, none, fails))

-- ---- grades one above the other
pub climbed-returns-in_err-first : goal.climbed-returns-in_err-first
climbed-returns-in_err-first t c =
    let two = tight_none (element c.args.depth) c.args.cursor.now in
    let up : 2 + (c.args.grade - 2) ≡ c.args.grade = (let r = c.requires in omega (arith, r)) in
    let fails = subst (λ k. graded (element c.args.depth) 2 c.args.cursor.now ≡ None → graded (element c.args.depth) k c.args.cursor.now ≡ None) up (climb_fails (element c.args.depth) (c.args.grade - 2) 2 c.args.cursor.now (omega arith)) in
    first_of (search rules, grind (arith, common_steps, two, fails))

pub climbed-returns-in_err-found : goal.climbed-returns-in_err-found
climbed-returns-in_err-found t c =
    let two = tight_goes c.args.depth c.args.cursor.now (boxed_of c.in_ok-first.first) c.marked.new.cursor c.len-turns.result c.len-turns.ensures c.in_ok-first.ensures in
    let up : 2 + (c.args.grade - 2) ≡ c.args.grade = (let r = c.requires in omega (arith, r)) in
    let fails = subst (λ k. graded (element c.args.depth) 2 c.args.cursor.now ≡ None → graded (element c.args.depth) k c.args.cursor.now ≡ None) up (climb_fails (element c.args.depth) (c.args.grade - 2) 2 c.args.cursor.now (omega arith)) in
    first_of (search rules, grind (arith, common_steps, two, fails))

pub climbed-loop-below-init : goal.climbed-loop-below-init
climbed-loop-below-init t c =
    let ts = c.args.cursor.now in
    let e = boxed_of c.in_ok-first.first in
    let rest = c.marked.new.cursor in
    elim c.if-is_tight.branch [
      | climbed-then-is_tight+in_ok-found w ↦ rw (w.cursor-is, w.found-is, w.ahead-is) (tight_goes c.args.depth ts e rest c.len-turns.result c.len-turns.ensures c.in_ok-first.ensures ∙ w.in_ok-found.ensures, w.grade_ahead-ahead-then-is_tight.ensures)
      | climbed-else-is_tight w ↦
          let m = c.is_tight.ensures w.if-is_tight.false in
          rw (w.cursor-is, w.found-is, w.ahead-is) (tight_misses c.args.depth ts e rest c.in_ok-first.ensures (ahead_misses 1 (spec.next rest) (λ same. m.0 (c.grade_ahead-ahead.ensures ∙ same))) (ahead_misses 2 (spec.next rest) (λ same. m.1 (c.grade_ahead-ahead.ensures ∙ same))), c.grade_ahead-ahead.ensures)
    ]

climbing : (atom : _) (k : _) → 2 ≤ k → (ts : _) (e : _) (rest : _) → graded atom k ts ≡ Some (e, rest) → graded atom (k + 1) ts ≡ lefts (graded atom (k + 1 - 1)) (k + 1) (length rest) e rest
climbing atom k h ts e rest found =
    let back : k + 1 - 1 ≡ k = omega arith in
    rw back (graded_left atom (k + 1) k (omega arith) (grind (arith, h)) ts e rest found)

pub climbed-returns-in_err-found-2 : goal.climbed-returns-in_err-found-2
climbed-returns-in_err-found-2 t c =
    let k = c.loop-below.below in
    let at = climbing (element c.args.depth) k (omega (arith, c.loop-below.auto.below)) c.args.cursor.now (boxed_of c.loop-below.found) c.loop-below.cursor c.loop-below.invariant.0 in
    let up : (k + 1) + (c.args.grade - (k + 1)) ≡ c.args.grade = (let r = c.loop-below-test.true in omega (arith, r)) in
    let fails = subst (λ n. graded (element c.args.depth) (k + 1) c.args.cursor.now ≡ None → graded (element c.args.depth) n c.args.cursor.now ≡ None) up (climb_fails (element c.args.depth) (c.args.grade - (k + 1)) (k + 1) c.args.cursor.now (omega (arith, c.loop-below.auto.below))) in
    first_of (search rules, grind (arith, common_steps, at, fails))

pub climbed-loop-below-preserved : goal.climbed-loop-below-preserved
climbed-loop-below-preserved t c =
    let atom = element c.args.depth in
    let k = c.loop-below.below in
    let rest = c.loop-below.cursor in
    let e = boxed_of c.loop-below.found in
    let at = climbing atom k (omega (arith, c.loop-below.auto.below)) c.args.cursor.now e rest c.loop-below.invariant.0 in
    elim c.if-ahead-below.branch [
      | climbed-then-ahead-below+in_ok-found-2 w ↦ rw (w.cursor-is, w.found-is, w.ahead-is) (at ∙ w.in_ok-found-2.ensures, w.grade_ahead-ahead-then-ahead-below.ensures)
      | climbed-else-ahead-below w ↦
          let misses = ahead_misses (k + 1) (spec.next rest) (λ same. w.if-ahead-below.false (c.loop-below.invariant.1 ∙ same)) in
          rw (w.cursor-is, w.found-is, w.ahead-is) (at ∙ lefts_miss (graded atom (k + 1 - 1)) (k + 1) (length rest) e rest misses, c.loop-below.invariant.1)
    ]

pub assigned-returns-then-grade_ahead-ne1 : goal.assigned-returns-then-grade_ahead-ne1
assigned-returns-then-grade_ahead-ne1 t c =
    let atom = element c.args.depth in
    let rest = c.marked.new.cursor in
    let e = boxed_of c.in_ok-first.first in
    graded_left atom 1 0 refl refl c.args.cursor.now e rest (graded_none atom c.args.cursor.now ∙ c.in_ok-first.ensures)
    ∙ lefts_miss (graded atom 0) 1 (length rest) e rest (ahead_misses 1 (spec.next rest) (λ same. c.if-grade_ahead-ne1.true (c.grade_ahead.ensures ∙ same)))

-- ---- marks of unary operators
pub unary_marked-loop-turn-preserved : goal.unary_marked-loop-turn-preserved
unary_marked-loop-turn-preserved t c =
    let e = one_more (λ n. before c.loop-turn.marks.items (element n c.loop-turn.cursor)) c.args.depth c.loop-turn.turn c.loop-turn-test.true c.loop-turn.invariant in
    let s = c.in-Some.ensures in
    e ∙ marks_go (c.args.depth - (c.loop-turn.turn + 1)) c.loop-turn.marks.items c.in-Some.op c.loop-turn.cursor c.prefix.new.self s.0 s.1 s.2
    ∙ ap (λ us. before us (element (c.args.depth - (c.loop-turn.turn + 1)) c.prefix.new.self)) (sym c.in_ok-push-in-Some.ensures.items)

pub unary_marked-returns : goal.unary_marked-returns
unary_marked-returns t c =
    no_more (λ n. before c.loop-turn.marks.items (element n c.loop-turn.cursor)) c.args.depth c.loop-turn.turn c.loop-turn-test.false c.loop-turn.invariant
    ∙ marks_end c.loop-turn.marks.items c.loop-turn.cursor

pub assigned-returns : goal.assigned-returns
assigned-returns t c =
    subst (λ o. Reads boxed_of o c.lefts.result c.lefts.new.cursor)
    (sym (graded_left (element c.args.depth) 1 0 refl refl c.args.cursor.now (boxed_of c.in_ok-first.first) c.marked.new.cursor (graded_none (element c.args.depth) c.args.cursor.now ∙ c.in_ok-first.ensures))) c.lefts.ensures

-- ---- operators that group to the left
pub lefts-returns-in_default : goal.lefts-returns-in_default
lefts-returns-in_default t c =
    let e = one_more (λ n. lefts (graded (element c.args.depth) (c.args.grade - 1)) c.args.grade n (boxed_of c.loop-turn.found) c.loop-turn.cursor) c.len-turn-end.result c.loop-turn._turn c.loop-turn-test.true c.loop-turn.invariant in
    e ∙ lefts_stop (graded (element c.args.depth) (c.args.grade - 1)) c.args.grade (c.len-turn-end.result - (c.loop-turn._turn + 1)) (boxed_of c.loop-turn.found) c.loop-turn.cursor c.in_default.ensures.0
    ∙ ap (λ r. Some (boxed_of c.loop-turn.found, r)) (sym c.in_default.ensures.1)

pub lefts-returns-in-Err : goal.lefts-returns-in-Err
unfolding spec.lefts spec.on spec.bind
lefts-returns-in-Err t c =
    let e = one_more (λ n. lefts (graded (element c.args.depth) (c.args.grade - 1)) c.args.grade n (boxed_of c.loop-turn.found) c.loop-turn.cursor) c.len-turn-end.result c.loop-turn._turn c.loop-turn-test.true c.loop-turn.invariant in
    first_of (search rules, grind (arith, common_steps))

pub lefts-loop-turn-preserved : goal.lefts-loop-turn-preserved
lefts-loop-turn-preserved t c =
    let e = one_more (λ n. lefts (graded (element c.args.depth) (c.args.grade - 1)) c.args.grade n (boxed_of c.loop-turn.found) c.loop-turn.cursor) c.len-turn-end.result c.loop-turn._turn c.loop-turn-test.true c.loop-turn.invariant in
    e ∙ lefts_go (graded (element c.args.depth) (c.args.grade - 1)) c.args.grade (c.len-turn-end.result - (c.loop-turn._turn + 1)) (boxed_of c.loop-turn.found) c.loop-turn.cursor c.in-Some.op c.operator.new.self (boxed_of c.in-Ok.right) c.graded.new.cursor c.in-Some.ensures.0 c.in-Some.ensures.1 c.in-Ok.ensures
    ∙ ap (λ x. lefts (graded (element c.args.depth) (c.args.grade - 1)) c.args.grade (c.len-turn-end.result - (c.loop-turn._turn + 1)) x c.graded.new.cursor) (sym c.in_ok-found-in-Ok.ensures)

pub lefts-returns : goal.lefts-returns
lefts-returns t c =
    no_more (λ n. lefts (graded (element c.args.depth) (c.args.grade - 1)) c.args.grade n (boxed_of c.loop-turn.found) c.loop-turn.cursor) c.len-turn-end.result c.loop-turn._turn c.loop-turn-test.false c.loop-turn.invariant
    ∙ lefts_end (graded (element c.args.depth) (c.args.grade - 1)) c.args.grade 0 (boxed_of c.loop-turn.found) c.loop-turn.cursor

-- ---- calls, references and arguments
pub named-returns-in_ok-call : goal.named-returns-in_ok-call
unfolding spec.after_name spec.bind spec.expect
named-returns-in_ok-call t c = rw (c.in_ok-call.ensures) (grind (arith, common_steps))

pub named-returns-in_ok-reference : goal.named-returns-in_ok-reference
unfolding spec.after_name spec.bind spec.expect
named-returns-in_ok-reference t c = rw (c.in_ok-reference.ensures) (grind (arith, common_steps))

pub several-loop-turn-init : goal.several-loop-turn-init
several-loop-turn-init t c = several_start (spec.whole c.args.depth) c.args.turns (c.args.turns - 0) c.args.cursor.now c.list-found.result.items c.list-found.ensures (omega arith)

pub several-returns-then-not-eat : goal.several-returns-then-not-eat
several-returns-then-not-eat t c =
    let e = one_more (λ n. prepend (args_of c.loop-turn.found.items) (spec.several (spec.whole c.args.depth) n c.loop-turn.cursor)) c.args.turns c.loop-turn._turn c.loop-turn-test.true c.loop-turn.invariant in
    e ∙ several_end (spec.whole c.args.depth) (c.args.turns - (c.loop-turn._turn + 1)) c.loop-turn.cursor c.one.new.cursor c.loop-turn.found.items c.in_ok-one.field-0 c.in_ok-one.ensures (sym c.if-not-eat.ensures.found) ∙ rw (c.in_ok-push.ensures.items, c.if-not-eat.ensures.after) refl

pub several-loop-turn-preserved : goal.several-loop-turn-preserved
several-loop-turn-preserved t c =
    let e = one_more (λ n. prepend (args_of c.loop-turn.found.items) (spec.several (spec.whole c.args.depth) n c.loop-turn.cursor)) c.args.turns c.loop-turn._turn c.loop-turn-test.true c.loop-turn.invariant in
    e ∙ several_go (spec.whole c.args.depth) (c.args.turns - (c.loop-turn._turn + 1)) c.loop-turn.cursor c.one.new.cursor c.loop-turn.found.items c.in_ok-one.field-0 c.in_ok-one.ensures (sym c.if-not-eat.ensures.found) ∙ rw (c.in_ok-push.ensures.items, c.if-not-eat.ensures.after) refl

-- ---- `**`
pub powered-returns-in_default : goal.powered-returns-in_default
powered-returns-in_default t c =
    powered_stop (graded (element c.args.depth) 1) (c.args.turns - 1) (boxed_of c.args.first) c.args.cursor.now c.in_default.ensures.0
    ∙ ap (λ r. Some (boxed_of c.args.first, r)) (sym c.in_default.ensures.1)

pub powered-returns-in_ok-binary-in-Ok : goal.powered-returns-in_ok-binary-in-Ok
powered-returns-in_ok-binary-in-Ok t c =
    let operand = graded (element c.args.depth) 1 in
    powered_goes operand (c.args.turns - 1) (boxed_of c.args.first) c.args.cursor.now c.in-Some.op c.operator.new.self (boxed_of c.in-Ok.right) c.rights.new.cursor c.in-Some.ensures.0 c.in-Some.ensures.1
    (ap (λ n. rights operand 2 n c.operator.new.self) (sym c.saturating_sub.ensures) ∙ c.in-Ok.ensures)
    ∙ ap (λ x. Some (x, c.rights.new.cursor)) (sym c.in_ok-binary-in-Ok.ensures)

pub powered-returns-in-Err : goal.powered-returns-in-Err
powered-returns-in-Err t c =
    let operand = graded (element c.args.depth) 1 in
    let fails = powered_none operand (c.args.turns - 1) (boxed_of c.args.first) c.args.cursor.now c.in-Some.op c.operator.new.self c.in-Some.ensures.0 c.in-Some.ensures.1 in
    let same = c.saturating_sub.ensures in
    first_of (search rules, grind (arith, common_steps, fails, same))

pub rights-loop-turn-init : goal.rights-loop-turn-init
rights-loop-turn-init t c = rw c.new-operands.ensures.items (rights_start (graded (element c.args.depth) 1) c.args.turns (c.args.turns - 0) c.args.cursor.now (omega arith))

pub rights-returns-in_err-operand : goal.rights-returns-in_err-operand
rights-returns-in_err-operand t c =
    let e = one_more (λ n. onto (map boxed_of c.loop-turn.operands.items) (rights (graded (element c.args.depth) 1) 2 n c.loop-turn.cursor)) c.args.turns c.loop-turn._turn c.loop-turn-test.true c.loop-turn.invariant in
    let none = rights_none (graded (element c.args.depth) 1) (c.args.turns - (c.loop-turn._turn + 1)) c.loop-turn.cursor (map boxed_of c.loop-turn.operands.items) in
    first_of (search rules, grind (arith, common_steps, none, e))

pub rights-returns-then-is_none : goal.rights-returns-then-is_none
rights-returns-then-is_none t c =
    let e = one_more (λ n. onto (map boxed_of c.loop-turn.operands.items) (rights (graded (element c.args.depth) 1) 2 n c.loop-turn.cursor)) c.args.turns c.loop-turn._turn c.loop-turn-test.true c.loop-turn.invariant in
    let none : is_some c.operator.result ≡ false = c.is_none.ensures ∙ ap not c.if-is_none.true in
    let s = stopped 2 c.assigned.new.cursor c.operator.new.self c.operator.result c.operator.ensures none in
    e ∙ rights_stop (graded (element c.args.depth) 1) (c.args.turns - (c.loop-turn._turn + 1)) c.loop-turn.cursor (map boxed_of c.loop-turn.operands.items) (boxed_of c.in_ok-operand.operand) c.assigned.new.cursor c.in_ok-operand.ensures s.0
    ∙ rw (c.in_ok-power.ensures, s.1) refl

pub rights-loop-turn-preserved : goal.rights-loop-turn-preserved
rights-loop-turn-preserved t c =
    let e = one_more (λ n. onto (map boxed_of c.loop-turn.operands.items) (rights (graded (element c.args.depth) 1) 2 n c.loop-turn.cursor)) c.args.turns c.loop-turn._turn c.loop-turn-test.true c.loop-turn.invariant in
    let some : is_some c.operator.result ≡ true = c.is_none.ensures ∙ ap not c.if-is_none.false in
    let s = went_on 2 c.assigned.new.cursor c.operator.new.self c.operator.result c.operator.ensures some in
    let items : c.push.new.self.items ≡ c.loop-turn.operands.items ++ c.in_ok-operand.operand ∷ [] = c.in_ok-push.ensures.items in
    e ∙ rights_go (graded (element c.args.depth) 1) (c.args.turns - (c.loop-turn._turn + 1)) c.loop-turn.cursor (map boxed_of c.loop-turn.operands.items) (boxed_of c.in_ok-operand.operand) c.assigned.new.cursor s.0 c.operator.new.self c.in_ok-operand.ensures s.1 s.2
    ∙ ap (λ xs. onto xs (rights (graded (element c.args.depth) 1) 2 (c.args.turns - (c.loop-turn._turn + 1)) c.operator.new.self))
    (sym (map-append boxed_of c.loop-turn.operands.items (c.in_ok-operand.operand ∷ [])) ∙ ap (map boxed_of) (sym items))

pub rights-returns : goal.rights-returns
rights-returns t c =
    no_more (λ n. onto (map boxed_of c.loop-turn.operands.items) (rights (graded (element c.args.depth) 1) 2 n c.loop-turn.cursor)) c.args.turns c.loop-turn._turn c.loop-turn-test.false c.loop-turn.invariant
    ∙ rights_end (graded (element c.args.depth) 1) c.loop-turn.cursor (map boxed_of c.loop-turn.operands.items)
