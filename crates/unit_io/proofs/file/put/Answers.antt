use Rattle.std.proofs.Common.{rules, arith, [], ◌∷◌, ◌++◌}
use Rattle.std.proofs.lemmas.Grind.{common_steps}
use Rattle.unit_io.proofs.Holding.{begins_as}
use Rattle.unit_io.proofs.file.put.Goals as goal

pub returns-in-Some-clause-err : goal.returns-in-Some-clause-err
returns-in-Some-clause-err g c =
    begins_as c.write_record.result c.in-Some.file.written c.write_record.new.self.written _ _ (c.args.bytes.now ++ 10 ∷ [])
    (first_of (search rules, grind (arith, common_steps))) (first_of (search rules, grind (arith, common_steps))) c.write_record.ensures.err

pub returns-clause-err : goal.returns-clause-err
returns-clause-err g c =
    begins_as c.put_standard.result _ _ _ _ (c.args.bytes.now ++ 10 ∷ [])
    (first_of (search rules, grind (arith, common_steps))) (first_of (search rules, grind (arith, common_steps))) c.put_standard.ensures.err
