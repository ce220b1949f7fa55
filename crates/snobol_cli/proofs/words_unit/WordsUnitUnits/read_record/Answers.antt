use Rattle.unit_io.proofs.Untold.{untold_read}
use Rattle.snobol_cli.proofs.words_unit.WordsUnitUnits.read_record.Goals as goal

pub returns-in-Ok-clause-ok : goal.returns-in-Ok-clause-ok
returns-in-Ok-clause-ok g c = untold_read c.args.unit c.in-Ok.got
