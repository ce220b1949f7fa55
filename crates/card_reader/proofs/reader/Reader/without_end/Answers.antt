use Rattle.card_reader.proofs.Answering.{closed_now, with_fault}
use Rattle.card_reader.proofs.reader.Reader.without_end.Goals as goal

pub returns : goal.returns
returns c = λ o e w. with_fault c.close_piece.new.self.fault _ _ _ c.lesser.ensures (closed_now c.args.self c.close_piece.new.self o e w c.in_ok-close_piece.ensures)
