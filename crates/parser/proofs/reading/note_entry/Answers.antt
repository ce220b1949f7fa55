use Rattle.std.proofs.Common.{◌∙◌, ◌++◌, ap, sym, option_map}
use Rattle.model.specs.Deck.Faults.{fault_of}
use Rattle.model.specs.Deck.TreeViews.{stmt_of}
use Rattle.parser.specs.Reads.{noted_faults}
use Rattle.parser.proofs.Noting.{asked, nothing_noted, on_ok}
use Rattle.parser.proofs.reading.note_entry.Goals as goal

pub returns-in-Some : goal.returns-in-Some
returns-in-Some c = on_ok c.note_label.result _ _ c.note_label.ensures (λ put all.
    put all ∙ ap (λ o. noted_faults all c.args.noted.now.items ++ fault_of c.args.number o) (asked all (stmt_of c.args.tree.now) _ (sym (ap (option_map (λ l. l.now)) c.in-Some.is) ∙ c.entry_asked.ensures)))

pub returns-in-None : goal.returns-in-None
returns-in-None c = λ all. nothing_noted c.args.number all c.args.noted.now.items (stmt_of c.args.tree.now) (sym (ap (option_map (λ l. l.now)) c.in-None.is) ∙ c.entry_asked.ensures)
