use Rattle.std.proofs.Common.{refl}
use Rattle.model.specs.Deck.Cut.{class}
use Rattle.model.specs.Deck.Digits.{decimal_value}
use Rattle.model.specs.Deck.Pieces.{first_piece, pieces_from, pieces}
use Rattle.model.specs.Deck.Parse as parse
use Rattle.model.specs.Deck.ParseStatements as statements
use Rattle.model.proofs.laws_trees.worked_trees.Goals as goal

pub returns : goal.returns
unfolding class decimal_value first_piece pieces_from pieces parse.bind parse.next parse.skip parse.starts parse.sees parse.expect parse.one_argument parse.several parse.after_name parse.bracketed parse.element_step parse.on parse.lefts parse.rights parse.graded parse.element statements.sees_word statements.sees_spaced statements.starts_spaced statements.place_parser statements.in_brackets statements.second statements.exits statements.goto statements.object_parser statements.after_pattern statements.after_subject statements.body_parser statements.starts_word statements.word_spaced statements.after_label statements.after_end statements.statement_parser statements.stmt
returns c = record { division = refl; power = refl; difference = refl; alternation = refl; assignments = refl; brackets = refl; brackets_around_all = refl; unaries = refl; keyword = refl; no_argument = refl; blank_argument = refl; absent_arguments = refl; arguments = refl; subscripts = refl; absent_subscript = refl; no_subscript = refl; name_apart_from_bracket = refl; no_blank_before_operator = refl; blank_after_unary = refl; two_literals = refl; digit_then_letter = refl; power_is_no_unary = refl; keyword_of_call = refl; empty = refl; only_label = refl; label_and_blanks = refl; label_and_subject = refl; label_without_blank = refl; matching = refl; match_of_unary = refl; operator_after_subject = refl; no_object = refl; blank_object = refl; no_blank_after_equal = refl; replacement = refl; deletion = refl; no_subject = refl; both_ways = refl; other_order = refl; always = refl; success = refl; failure = refl; blank_after_word = refl; success_twice = refl; no_place = refl; no_blank_before_colon = refl; end = refl; end_and_blanks = refl; entry = refl; end_and_more = refl; end_and_goto = refl; end_as_subject = refl }
