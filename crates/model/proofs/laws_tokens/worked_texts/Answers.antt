use Rattle.std.proofs.Common.{refl}
use Rattle.model.specs.Deck.Cut.{class, least_lexical}
use Rattle.model.specs.Deck.Digits.{decimal_value}
use Rattle.model.specs.Deck.Pieces.{first_piece, pieces_from, pieces}
use Rattle.model.proofs.laws_tokens.worked_texts.Goals as goal

pub returns : goal.returns
unfolding class least_lexical decimal_value first_piece pieces_from pieces
returns c = record { nothing = refl; statement = refl; all_marks = refl; three_stars = refl; digits_then_letter = refl; dot_first = refl; underscore_first = refl; quotes = refl; two_literals = refl; unclosed = refl; tokens = refl; fair = refl; stray = refl; open_literal = refl; open_literal_holds_all = refl; large = refl; leading_zeros = refl; deep = refl; not_too_deep = refl; both_kinds = refl; closed_between = refl; closed_before = refl; long_row = refl; not_too_long_row = refl; stars = refl; broken_row = refl; large_and_stray = refl; deep_and_open = refl }
