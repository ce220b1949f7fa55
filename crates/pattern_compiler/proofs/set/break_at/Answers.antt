use Rattle.std.proofs.Common.{◌∙◌, ◌∷◌, [], length, sym, ap}
use Rattle.pattern_compiler.proofs.Sets.{first_by, is_one, number_or}
use Rattle.pattern_compiler.proofs.set.break_at.Goals as goal

pub returns-in-Some-clause-value : goal.returns-in-Some-clause-value
returns-in-Some-clause-value c =
    let xs = c.args.bytes.now in
    ap (number_or (length xs)) (sym c.in-Some.is) ∙ first_by (c.args.byte ∷ []) xs _ c.memchr.result (is_one c.args.byte) c.memchr.ensures

pub returns-in-None-clause-value : goal.returns-in-None-clause-value
returns-in-None-clause-value c =
    let xs = c.args.bytes.now in
    ap (number_or (length xs)) (sym c.in-None.is) ∙ first_by (c.args.byte ∷ []) xs _ c.memchr.result (is_one c.args.byte) c.memchr.ensures
