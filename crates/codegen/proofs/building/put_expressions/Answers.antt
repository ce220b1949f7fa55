use Rattle.std.proofs.Common.{◌<◌, sym, ap, subst, arith, option_map, Some}
use Rattle.std.specs.List.{AllByRecursion}
use Rattle.model.specs.Deck.TreeViews.{expr_of}
use Rattle.model.specs.Deck.Weights as weights
use Rattle.expr_codegen.specs.Emitting.{Countable, Takes}
use Rattle.expr_codegen.specs.Views.{gen_of}
use Rattle.codegen.specs.Laying.{left}
use Rattle.codegen.proofs.Queue.{Kept, begins, step, ends, taken, turn}
use Rattle.codegen.proofs.building.put_expressions.Goals as goal

pub loop-offsets-init : goal.loop-offsets-init
loop-offsets-init c = subst (λ o. Kept (gen_of c.args.g.now) o (gen_of c.args.g.now)) (sym c.new-offsets.ensures.items) (begins (gen_of c.args.g.now) c.requires.countable)

pub value-requires-clause-countable : goal.value-requires-clause-countable
value-requires-clause-countable c =
    let e = expr_of c.as_ref.result.now.expr in
    let takes = subst (λ v. Takes (Some (expr_of v.expr)) (gen_of c.loop-offsets.g) (gen_of c.take.new.self)) (sym c.as_ref.ensures) (subst (λ o. Takes (option_map (λ e. expr_of e.value.expr) o) (gen_of c.loop-offsets.g) (gen_of c.take.new.self)) c.in-Some.is c.in_ok-e.ensures.taken) in
    let fits = taken e (gen_of c.loop-offsets.g) (gen_of c.take.new.self) takes in
    let all = subst (AllByRecursion Countable) fits.is c.loop-offsets.invariant.1 in
    all.0

pub value-requires-clause-room : goal.value-requires-clause-room
value-requires-clause-room c =
    let e = expr_of c.as_ref.result.now.expr in
    let takes = subst (λ v. Takes (Some (expr_of v.expr)) (gen_of c.loop-offsets.g) (gen_of c.take.new.self)) (sym c.as_ref.ensures) (subst (λ o. Takes (option_map (λ e. expr_of e.value.expr) o) (gen_of c.loop-offsets.g) (gen_of c.take.new.self)) c.in-Some.is c.in_ok-e.ensures.taken) in
    let fits = taken e (gen_of c.loop-offsets.g) (gen_of c.take.new.self) takes in
    let more = fits.room in
    let most = c.loop-offsets.invariant.2 in
    let room = c.requires.room in
    omega (arith, more, most, room)

pub put-requires : goal.put-requires
put-requires c =
    let e = expr_of c.as_ref.result.now.expr in
    let takes = subst (λ v. Takes (Some (expr_of v.expr)) (gen_of c.loop-offsets.g) (gen_of c.take.new.self)) (sym c.as_ref.ensures) (subst (λ o. Takes (option_map (λ e. expr_of e.value.expr) o) (gen_of c.loop-offsets.g) (gen_of c.take.new.self)) c.in-Some.is c.in_ok-e.ensures.taken) in
    let fits = taken e (gen_of c.loop-offsets.g) (gen_of c.take.new.self) takes in
    let more = fits.room in
    let most = c.loop-offsets.invariant.2 in
    let room = c.requires.room in
    let s = c.in_ok-value.ensures.size in
    omega (arith, more, most, room, s)

pub loop-offsets-smaller : goal.loop-offsets-smaller
loop-offsets-smaller c =
    let e = expr_of c.as_ref.result.now.expr in
    let takes = subst (λ v. Takes (Some (expr_of v.expr)) (gen_of c.loop-offsets.g) (gen_of c.take.new.self)) (sym c.as_ref.ensures) (subst (λ o. Takes (option_map (λ e. expr_of e.value.expr) o) (gen_of c.loop-offsets.g) (gen_of c.take.new.self)) c.in-Some.is c.in_ok-e.ensures.taken) in
    let fits = taken e (gen_of c.loop-offsets.g) (gen_of c.take.new.self) takes in
    let all = subst (AllByRecursion Countable) fits.is c.loop-offsets.invariant.1 in
    let done = turn e (gen_of c.take.new.self) (gen_of c.value.new.g) (gen_of c.put.new.self) fits.within all.0 all.1 c.in_ok-value.ensures.emits c.in_ok-put.ensures.put in
    let weight = ap (λ l. weights.total weights.of_expr l) fits.is in
    let lighter = done.lighter in
    let less : weights.total weights.of_expr (left (gen_of c.put.new.self)) < weights.total weights.of_expr (left (gen_of c.loop-offsets.g)) = omega (arith, weight, lighter) in
    less

pub loop-offsets-preserved : goal.loop-offsets-preserved
loop-offsets-preserved c =
    let e = expr_of c.as_ref.result.now.expr in
    let takes = subst (λ v. Takes (Some (expr_of v.expr)) (gen_of c.loop-offsets.g) (gen_of c.take.new.self)) (sym c.as_ref.ensures) (subst (λ o. Takes (option_map (λ e. expr_of e.value.expr) o) (gen_of c.loop-offsets.g) (gen_of c.take.new.self)) c.in-Some.is c.in_ok-e.ensures.taken) in
    step e c.loop-offsets.offsets.items _ c.at.result (gen_of c.args.g.now) (gen_of c.loop-offsets.g) (gen_of c.take.new.self) (gen_of c.value.new.g) (gen_of c.put.new.self) takes c.at.ensures c.in_ok-push.ensures.items c.loop-offsets.invariant
    c.in_ok-value.ensures.emits c.in_ok-put.ensures.put c.in_ok-value.ensures.size c.in_ok-put.ensures.size

pub returns-clause-laid : goal.returns-clause-laid
returns-clause-laid c =
    let takes = subst (λ o. Takes (option_map (λ e. expr_of e.value.expr) o) (gen_of c.loop-offsets.g) (gen_of c.take.new.self)) c.in_default.is c.in_ok-e.ensures.taken in
    ends c.loop-offsets.offsets.items (gen_of c.args.g.now) (gen_of c.loop-offsets.g) (gen_of c.take.new.self) takes c.loop-offsets.invariant
