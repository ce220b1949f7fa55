use Rattle.std.proofs.Common.{refl}
use Rattle.std.proofs.lemmas.Result.{IfErr-weaker}
use Rattle.unit_io.proofs.fail_at.FailAtUnits.write_record.Goals as goal

pub returns-clause-may : goal.returns-clause-may
returns-clause-may g c = IfErr-weaker c.write_record.result _ _ (λ fault may failed. refl) c.write_record.ensures.may
