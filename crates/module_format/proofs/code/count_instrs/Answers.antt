use Rattle.std.proofs.Common.{◌≡◌, ◌<◌, length, arith, refl, []}
use Rattle.std.proofs.lemmas.Bool.Decides.{nat_tests}
use Rattle.model.specs.Module.Reading.{code_from}
use Rattle.module_format.proofs.Loops.{code_stops, code_left, counted_all, counted_done, counted_long, counted_more, counted_none}
use Rattle.module_format.proofs.code.count_instrs.Goals as goal

pub loop-count-init : goal.loop-count-init
loop-count-init c = counted_none c.args.level c.args.n c.args.behind.now c.args.bytes.now

pub returns-then-is_empty-clause-read : goal.returns-then-is_empty-clause-read
returns-then-is_empty-clause-read c =
    let none : length c.loop-count.rest.now ≡ 0 = grind (arith, nat_tests, c.if-is_empty.ensures) in
    counted_done c.args.level c.args.n c.loop-count.count c.args.behind.now c.args.bytes.now c.loop-count.rest.now none c.loop-count.invariant

pub returns-then-is_empty-clause-count : goal.returns-then-is_empty-clause-count
returns-then-is_empty-clause-count c = counted_long c.args.level c.args.n c.loop-count.count c.args.behind.now c.args.bytes.now c.loop-count.rest.now c.loop-count.invariant

pub returns-in-None-clause-read : goal.returns-in-None-clause-read
returns-in-None-clause-read c =
    let some : 0 < length c.loop-count.rest.now = grind (arith, nat_tests, c.if-is_empty.ensures) in
    rw (c.bad_instr.ensures) (code_stops c.args.level c.loop-count.invariant.front c.args.n c.loop-count.count c.args.behind.now c.loop-count.rest.now _ (code_from c.args.level [] c.args.n c.args.behind.now c.args.bytes.now) c.loop-count-test.true some c.in-None.ensures refl c.loop-count.invariant.read)

pub loop-count-preserved : goal.loop-count-preserved
loop-count-preserved c =
    counted_more c.args.level c.args.n c.loop-count.count c.args.behind.now c.args.bytes.now c.loop-count.rest.now _ c.in-Some.after.now c.loop-count-test.true c.in-Some.ensures c.loop-count.invariant

pub returns-then-is_empty-2-clause-read : goal.returns-then-is_empty-2-clause-read
returns-then-is_empty-2-clause-read c =
    let none : length c.loop-count.rest.now ≡ 0 = grind (arith, nat_tests, c.if-is_empty-2.ensures) in
    let all = counted_all c.args.level c.args.n c.loop-count.count c.args.behind.now c.args.bytes.now c.loop-count.rest.now c.loop-count-test.false (omega (arith, c.loop-count.auto.count-end)) c.loop-count.invariant in
    counted_done c.args.level c.args.n c.args.n c.args.behind.now c.args.bytes.now c.loop-count.rest.now none all

pub returns-then-is_empty-2-clause-count : goal.returns-then-is_empty-2-clause-count
returns-then-is_empty-2-clause-count c =
    let all = counted_all c.args.level c.args.n c.loop-count.count c.args.behind.now c.args.bytes.now c.loop-count.rest.now c.loop-count-test.false (omega (arith, c.loop-count.auto.count-end)) c.loop-count.invariant in
    counted_long c.args.level c.args.n c.args.n c.args.behind.now c.args.bytes.now c.loop-count.rest.now all

pub returns-clause-read : goal.returns-clause-read
returns-clause-read c =
    let some : 0 < length c.loop-count.rest.now = grind (arith, nat_tests, c.if-is_empty-2.ensures) in
    rw (c.bad_instr-2.ensures) (code_left c.args.level c.loop-count.invariant.front c.args.n c.loop-count.count c.args.behind.now c.loop-count.rest.now _ (code_from c.args.level [] c.args.n c.args.behind.now c.args.bytes.now) c.loop-count-test.false some refl c.loop-count.invariant.read)
