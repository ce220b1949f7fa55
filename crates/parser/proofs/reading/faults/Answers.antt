use Rattle.std.proofs.Common.{◌≡◌, ◌∙◌, ap, take, arith}
use Rattle.std.proofs.lemmas.Grind.{common_steps}
use Rattle.parser.specs.Reads.{noted_faults}
use Rattle.parser.proofs.Noting.{told_more}
use Rattle.parser.proofs.reading.faults.Goals as goal

pub loop-one-preserved : goal.loop-one-preserved
loop-one-preserved c =
    told_more c.args.all.now c.args.noted.now c.loop-one.one-index c.one-item.result c.loop-one.faults _ _ c.loop-one-test.true c.one-item.is c.in_ok-tell.ensures c.told.ensures c.loop-one.invariant

pub returns : goal.returns
returns c =
    let all : take c.loop-one.one-index c.args.noted.now ≡ c.args.noted.now = grind (arith, common_steps, c.loop-one-test.false) in
    c.loop-one.invariant ∙ ap (noted_faults c.args.all.now) all
