use Rattle.std.proofs.Common.{◌≡◌, ◌∙◌, ◌++◌, ap, sym, subst, Bool, List, Option}
use Rattle.std.specs.Prelude.{option_to_list, ◌∷◌, [], Ok}
use Rattle.model.specs.Deck.Faults.{fault_of, is_taken, label_given, labels_given, labels_of_read, read}
use Rattle.model.specs.Deck.Trees.{Bytes, Stmt}
use Rattle.model.specs.Deck.TreeViews.{stmt_of}
use Rattle.model.specs.declared.causes.Cause.{Cause}
use Rattle.parser.specs.Labels.{AreSame}
use Rattle.parser.specs.Reads.{early_rule, entry_rule, noted_faults, rule_if}
use Rattle.parser.specs.declared.reading.Noted.TheVariants as noted
use Rattle.parser.proofs.Naming.{labels_are}
use Rattle.parser.proofs.Noting.{calls_kept, fine_more, faulty_given, faulty_more}
use Rattle.parser.proofs.reading.Reader.judge.Goals as goal

-- what is found by whether the label is taken is the early rule
early_is : (labels given : List Bytes) (text : Bytes) (s seen : Stmt) (taken : Bool) (found rule : Option Cause) → read text ≡ Ok s → given ≡ labels_of_read (read text) → taken ≡ is_taken labels given → seen ≡ s → found ≡ rule_if taken seen → found ≡ rule → early_rule labels s ≡ rule
early_is labels given text s seen taken found rule r g t same by is =
    ap (λ (ls : List Bytes). rule_if (is_taken labels ls) s) (sym (g ∙ ap labels_of_read r))
    ∙ ap (λ (b : Bool). rule_if b s) (sym t)
    ∙ ap (rule_if taken) (sym same)
    ∙ sym by
    ∙ is

pub returns-in_ok-push-in-Some-clause-read : goal.returns-in_ok-push-in-Some-clause-read
returns-in_ok-push-in-Some-clause-read c = λ ss h.
    let given = ap (λ o. option_to_list o) c.first_name.ensures ∙ labels_are c.args.statement.now.text c.text.result.now _ c.text.ensures c.requires in
    let early = early_is c.args.self.now.labels _ c.args.statement.now.text _ _ _ _ _ c.requires given c.in_ok-is_taken.ensures.taken (ap stmt_of c.deref.ensures) c.rule_broken-cause.ensures c.in-Some.is in
    faulty_more ss c.args.statement.now _ c.args.self.now _ c.in-Some.cause h c.requires early
    (subst (λ l. AreSame c.insert_given.new.self (labels_given ss ++ l)) given (c.in_ok-is_taken.ensures.put (labels_given ss) h.labels)) (c.in_ok-push-in-Some.ensures.items ∙ ap (λ n. c.args.self.now.noted.items ++ noted.Faulty (record { number = n; cause = c.in-Some.cause }) ∷ []) c.number-number.ensures)

pub returns-in_ok-push-in-Some-clause-given : goal.returns-in_ok-push-in-Some-clause-given
returns-in_ok-push-in-Some-clause-given c =
    let given = ap (λ o. option_to_list o) c.first_name.ensures ∙ labels_are c.args.statement.now.text c.text.result.now _ c.text.ensures c.requires in
    let early = early_is c.args.self.now.labels _ c.args.statement.now.text _ _ _ _ _ c.requires given c.in_ok-is_taken.ensures.taken (ap stmt_of c.deref.ensures) c.rule_broken-cause.ensures c.in-Some.is in
    faulty_given c.args.statement.now _ c.args.self.now c.in-Some.cause c.requires early

pub returns-in_ok-note_entry-in-None-clause-read : goal.returns-in_ok-note_entry-in-None-clause-read
returns-in_ok-note_entry-in-None-clause-read c = λ ss h.
    let given = ap (λ o. option_to_list o) c.first_name.ensures ∙ labels_are c.args.statement.now.text c.text.result.now _ c.text.ensures c.requires in
    let early = early_is c.args.self.now.labels _ c.args.statement.now.text _ _ _ _ _ c.requires given c.in_ok-is_taken.ensures.taken (ap stmt_of c.deref.ensures) c.rule_broken-cause.ensures c.in-None.is in
    fine_more ss c.args.statement.now _ c.args.self.now _ h c.requires early
    (subst (λ l. AreSame c.insert_given.new.self (labels_given ss ++ l)) given (c.in_ok-is_taken.ensures.put (labels_given ss) h.labels))
    (λ all. c.in_ok-note_entry-in-None.ensures all ∙ ap (λ t. noted_faults all c.args.self.now.noted.items ++ fault_of c.number-number.result (entry_rule all (stmt_of t))) c.deref-in-None.ensures ∙ ap (λ n. noted_faults all c.args.self.now.noted.items ++ fault_of n (entry_rule all (stmt_of c.args.tree.statement.value))) c.number-number.ensures)

pub returns-in_ok-note_entry-in-None-clause-given : goal.returns-in_ok-note_entry-in-None-clause-given
returns-in_ok-note_entry-in-None-clause-given c =
    let given = ap (λ o. option_to_list o) c.first_name.ensures ∙ labels_are c.args.statement.now.text c.text.result.now _ c.text.ensures c.requires in
    let early = early_is c.args.self.now.labels _ c.args.statement.now.text _ _ _ _ _ c.requires given c.in_ok-is_taken.ensures.taken (ap stmt_of c.deref.ensures) c.rule_broken-cause.ensures c.in-None.is in
    (c.requires, calls_kept c.args.self.now.labels (stmt_of c.args.tree.statement.value) early)
