use Rattle.std.proofs.Common.{◌≡◌, refl, ℕ, ◌<◌, List, length, arith}
use Rattle.std.proofs.lemmas.Bool.Decides.{nat_tests}
use Rattle.std.specs.Prelude.{Err, nat_lt, true}
use Rattle.model.specs.declared.cards.CardRule.TheVariants as rule
use Rattle.model.specs.Deck.Cards.{deck, ended, faults_of, pieces_of, kind_of, fault}
use Rattle.model.proofs.laws_cards.worked_decks.Goals as goal

too_long : (text : List ℕ) → 16777216 < length text → deck text ≡ Err (fault 0 rule.DeckTooLong)
unfolding deck
too_long text h =
    let long : nat_lt 16777216 (length text) ≡ true = grind (arith, nat_tests) in
    rw long refl

pub returns : goal.returns
unfolding deck ended faults_of pieces_of kind_of
returns c = record { no_bytes = refl; end_alone = refl; end_without_line_feed = refl; no_end = refl; continuation_first = refl; continuation_after_comment = refl; unknown_control = refl; known_controls = refl; two_on_a_card = refl; joined = refl; comments_between = refl; semicolon_in_literal = refl; other_quote_inside = refl; open_literal = refl; blank_piece = refl; after_end = refl; bad_byte_after_end = refl; end_over_two_cards = refl; end_before_continuation = refl; not_yet_end = refl; past_column_72 = refl; bad_byte_past_column_72 = refl; bad_byte_in_comment = refl; two_on_one_card = refl; earlier_card = refl; four_thousand_bytes = refl; one_byte_more = refl; too_long = too_long }
