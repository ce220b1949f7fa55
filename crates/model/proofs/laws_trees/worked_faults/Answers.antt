use Rattle.std.proofs.Common.{refl}
use Rattle.model.specs.Deck.Cards.{deck, ended, faults_of, pieces_of, kind_of}
use Rattle.model.specs.Deck.Cut.{class, least_lexical}
use Rattle.model.specs.Deck.Digits.{decimal_value}
use Rattle.model.specs.Deck.Pieces.{first_piece, pieces_from, pieces}
use Rattle.model.specs.Deck.Parse as parse
use Rattle.model.specs.Deck.ParseStatements as statements
use Rattle.model.specs.Language.Names.{named, key_named, prim_named}
use Rattle.model.specs.Deck.Faults.{read, faults, deck_trees, verdict}
use Rattle.model.proofs.laws_trees.worked_faults.Goals as goal

pub returns : goal.returns
unfolding class decimal_value first_piece pieces_from pieces parse.bind parse.next parse.skip parse.starts parse.sees parse.expect parse.one_argument parse.several parse.after_name parse.bracketed parse.element_step parse.on parse.lefts parse.rights parse.graded parse.element statements.sees_word statements.sees_spaced statements.starts_spaced statements.place_parser statements.in_brackets statements.second statements.exits statements.goto statements.object_parser statements.after_pattern statements.after_subject statements.body_parser statements.starts_word statements.word_spaced statements.after_label statements.after_end statements.statement_parser statements.stmt least_lexical deck ended faults_of pieces_of kind_of named key_named prim_named read faults deck_trees verdict
returns c = record { accepted = refl; stray_byte = refl; unclosed_literal = refl; too_large = refl; brackets = refl; marks = refl; no_tree = refl; return_as_label = refl; label_twice = refl; arguments = refl; absent_argument = refl; unknown_label = refl; keyword = refl; protected = refl; keyword_replaced = refl; literal_assigned = refl; no_target = refl; name_of_keyword = refl; entry = refl; lexical_before_tree = refl; label_before_arguments = refl; arguments_before_keyword = refl; keyword_before_target = refl; label_without_tree = refl; label_of_faulty = refl; entry_at_return = refl; two_faulty = refl; card_fault = refl }
