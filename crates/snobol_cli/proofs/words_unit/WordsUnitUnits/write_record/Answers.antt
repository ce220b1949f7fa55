use Rattle.unit_io.proofs.Untold.{untold_write}
use Rattle.snobol_cli.proofs.words_unit.WordsUnitUnits.write_record.Goals as goal

pub returns-in-Ok-clause-ok : goal.returns-in-Ok-clause-ok
returns-in-Ok-clause-ok g c = untold_write c.args.unit c.args.bytes.now
