use Rattle.std.proofs.Common.{◌∙◌, ◌∷◌, [], length, sym, ap}
use Rattle.pattern_compiler.proofs.Sets.{first_by, is_one_of_two, number_or}
use Rattle.pattern_compiler.proofs.set.break_at_two.Goals as goal

pub returns-in-Some-clause-value : goal.returns-in-Some-clause-value
returns-in-Some-clause-value c =
    let xs = c.args.bytes.now in
    ap (number_or (length xs)) (sym c.in-Some.is) ∙ first_by (c.args.first ∷ c.args.second ∷ []) xs _ c.memchr2.result (is_one_of_two c.args.first c.args.second) c.memchr2.ensures

pub returns-in-None-clause-value : goal.returns-in-None-clause-value
returns-in-None-clause-value c =
    let xs = c.args.bytes.now in
    ap (number_or (length xs)) (sym c.in-None.is) ∙ first_by (c.args.first ∷ c.args.second ∷ []) xs _ c.memchr2.result (is_one_of_two c.args.first c.args.second) c.memchr2.ensures
