use Rattle.std.proofs.Common.{refl}
use Rattle.std.proofs.lemmas.Result.{IfErr-weaker}
use Rattle.unit_io.proofs.fail_at.FailAtUnits.read_record.Goals as goal

pub returns-clause-may : goal.returns-clause-may
returns-clause-may g c = IfErr-weaker c.read_record.result _ _ (λ fault may failed. refl) c.read_record.ensures.may
