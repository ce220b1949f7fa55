use Rattle.unit_io.proofs.Untold.{untold_read}
use Rattle.page_calls.proofs.given.GivenUnitsUnits.read_record.Goals as goal

pub returns-in-Ok-clause-ok : goal.returns-in-Ok-clause-ok
returns-in-Ok-clause-ok c = untold_read c.args.unit c.in-Ok.got
