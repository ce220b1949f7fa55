use Rattle.prefilter.proofs.look.misses_at.Goals as goal

pub returns-in-Some : goal.returns-in-Some
returns-in-Some c = λ t ns same. c.in-Some.ensures c.args.bytes.now c.args.cursor ns (c.misses.ensures t) same
