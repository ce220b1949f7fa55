use Rattle.std.proofs.Common.{◌∙◌, ◌∷◌, [], length, sym, ap}
use Rattle.pattern_compiler.proofs.Sets.{first_by, is_one_of_three, number_or}
use Rattle.pattern_compiler.proofs.set.break_at_three.Goals as goal

pub returns-in-Some-clause-value : goal.returns-in-Some-clause-value
returns-in-Some-clause-value c =
    let xs = c.args.bytes.now in
    ap (number_or (length xs)) (sym c.in-Some.is) ∙ first_by (c.args.first ∷ c.args.second ∷ c.args.third ∷ []) xs _ c.memchr3.result (is_one_of_three c.args.first c.args.second c.args.third) c.memchr3.ensures

pub returns-in-None-clause-value : goal.returns-in-None-clause-value
returns-in-None-clause-value c =
    let xs = c.args.bytes.now in
    ap (number_or (length xs)) (sym c.in-None.is) ∙ first_by (c.args.first ∷ c.args.second ∷ c.args.third ∷ []) xs _ c.memchr3.result (is_one_of_three c.args.first c.args.second c.args.third) c.memchr3.ensures
