use Rattle.loader.proofs.Numbers.{is_among}
use Rattle.loader.proofs.instrs.has_statement.Goals as goal

pub returns : goal.returns
returns c = is_among c.args.statements.now c.args.at c.binary_search.result c.is_ok.result c.requires c.binary_search.ensures.position c.is_ok.ensures.value
