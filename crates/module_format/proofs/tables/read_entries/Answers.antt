use Rattle.std.proofs.lemmas.Result.{err_from_is_err_and}
use Rattle.std.proofs.Common.{[]}
use Rattle.model.specs.Module.Reading.{entries_from}
use Rattle.module_format.proofs.Loops.{goes_on, ends, is_done}
use Rattle.module_format.proofs.tables.read_entries.Goals as goal

pub returns-in_err-item : goal.returns-in_err-item
returns-in_err-item g c =
    let p = err_from_is_err_and c.from_residual.result c.from_residual.ensures.1 in
    rw (p.1, p.2) (ends g.T.Table.entry c.in_err-item.field-0.0 c.loop.items.items c.args.n c.loop.counter c.loop.rest.now (entries_from g.T.Table.entry [] c.args.n c.args.bytes.now) c.as_slice.result.now c.as_slice.ensures.value c.loop-test.true c.in_err-item.ensures c.loop.invariant)

pub loop-preserved : goal.loop-preserved
loop-preserved g c =
    rw (c.in_ok-push.ensures.items) (goes_on g.T.Table.entry c.loop.items.items c.args.n c.loop.counter c.loop.rest.now c.in_ok-item.item c.in_ok-item.behind.now (entries_from g.T.Table.entry [] c.args.n c.args.bytes.now) c.as_slice.result.now c.as_slice.ensures.value c.loop-test.true c.in_ok-item.ensures c.loop.invariant)

pub returns : goal.returns
returns g c = rw (c.from_vec.ensures) (is_done g.T.Table.entry c.loop.items.items c.args.n c.loop.counter c.loop.rest.now (entries_from g.T.Table.entry [] c.args.n c.args.bytes.now) c.loop-test.false c.loop.invariant)
