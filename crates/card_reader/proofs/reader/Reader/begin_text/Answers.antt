use Rattle.std.proofs.Common.{refl}
use Rattle.card_reader.specs.Parts.{next_text}
use Rattle.card_reader.proofs.Carding.{begins}
use Rattle.card_reader.proofs.reader.Reader.begin_text.Goals as goal

pub returns-clause-read : goal.returns-clause-read
returns-clause-read c = λ o e w.
    c.append.ensures.read (next_text o) e
    (begins c.args.self.now c.close_piece.new.self _ o e w c.in_ok-close_piece.ensures (record { statements = refl; piece = refl; card = refl; fault = refl }) refl)
