use Rattle.unit_io.proofs.Untold.{untold_write}
use Rattle.page_calls.proofs.given.GivenUnitsUnits.write_record.Goals as goal

pub returns-in-Ok-clause-ok : goal.returns-in-Ok-clause-ok
returns-in-Ok-clause-ok c = untold_write c.args.unit c.args.bytes.now
