use Rattle.pattern_compiler.specs.View.{code_of}
use Rattle.prefilter.proofs.Filters.{front_alone, front_opens}
use Rattle.prefilter.proofs.prefilter.front.Goals as goal

pub returns-then-opens_at-clause-leads : goal.returns-then-opens_at-clause-leads
returns-then-opens_at-clause-leads c = front_opens (code_of c.args.instrs.now) (c.opens_at.ensures.opens c.if-opens_at.true)

pub returns-else-opens_at-clause-leads : goal.returns-else-opens_at-clause-leads
returns-else-opens_at-clause-leads c = front_alone (code_of c.args.instrs.now)
