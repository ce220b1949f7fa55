use Rattle.std.proofs.Common.{refl}
use Rattle.prefilter.proofs.ManyStarts.{fails_lit}
use Rattle.prefilter.proofs.search.lit_fails_for.Goals as goal

pub returns-in-len1-clause-fails : goal.returns-in-len1-clause-fails
returns-in-len1-clause-fails c =
    fails_lit c.args.subject.now c.args.text.now _ c.args.from _ c.break_at.result c.in-len1.len_at_least refl c.break_at.ensures.value
