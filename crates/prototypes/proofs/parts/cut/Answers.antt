use Rattle.prototypes.proofs.Cuts.{cut_where, cut_nowhere}
use Rattle.prototypes.proofs.parts.cut.Goals as goal

pub returns-in-Some : goal.returns-in-Some
returns-in-Some c = cut_where c.args.mark c.args.text.now c.in-Some.place c.in-Some.ensures

pub returns-in-None : goal.returns-in-None
returns-in-None c = cut_nowhere c.args.mark c.args.text.now c.in-None.ensures
