use Rattle.std.proofs.Common.{sym, ◌∙◌, ap}
use Rattle.std.specs.Prelude.{Some}
use Rattle.stmt_parser.proofs.Labels.{no_label, a_label}
use Rattle.stmt_parser.proofs.statements.label.Goals as goal

pub returns-then-not-starts_word : goal.returns-then-not-starts_word
returns-then-not-starts_word c = no_label c.args.cursor.now (sym c.if-not-starts_word.ensures)

pub returns-in_ok-text-in-Some : goal.returns-in_ok-text-in-Some
returns-in_ok-text-in-Some c =
    a_label c.args.cursor.now c.in-Some.token.kind c.in-Some.token.text.now c.take.new.self c.in-Some.ensures.taken (sym c.if-not-starts_word.ensures)
    ∙ ap (λ items. Some (Some items, c.take.new.self)) (sym c.in_ok-text-in-Some.ensures)
