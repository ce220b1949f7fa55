use Rattle.std.proofs.Common.{◌∙◌, sym, ap, not, refl}
use Rattle.model.specs.Deck.Cards.{placed, split}
use Rattle.card_reader.proofs.Splitting.{dull_stop, split_some, glue_start}
use Rattle.card_reader.proofs.reader.piece_end.Goals as goal

pub loop-i-init : goal.loop-i-init
loop-i-init c = record {
  pieces = λ n. glue_start (split c.args.quote (placed n c.args.text.now)) (split_some c.args.quote (placed n c.args.text.now));
  quotes = λ n. refl;
}

pub returns-then-is_dull : goal.returns-then-is_dull
returns-then-is_dull c = dull_stop c.args.quote c.args.text.now (c.is_none.ensures ∙ ap not c.if-is_none.true) (c.is_dull.ensures c.if-is_dull.true)
