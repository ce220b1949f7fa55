use Rattle.std.proofs.lemmas.Result.{err_from_is_err_and}
use Rattle.parser.proofs.ReadTexts.{is_cause, parsed}
use Rattle.parser.proofs.reading.tree.Goals as goal

pub returns-in_err-lex : goal.returns-in_err-lex
returns-in_err-lex c =
    let p = err_from_is_err_and c.from_residual.result c.from_residual.ensures.1 in
    rw (p.1, p.2) (λ other. is_cause c.args.text.now c.in_err-lex.field-0.0 (c.in_err-lex.ensures.cause other))

pub returns : goal.returns
returns c =
    parsed c.args.text.now c.lex.new.tokens.items c.deref.result.now c.parse_statement.result c.deref.ensures.value c.in_ok-lex.ensures.fair c.in_ok-lex.ensures.cut c.parse_statement.ensures.tree c.parse_statement.ensures.cause
