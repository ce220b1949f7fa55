use Rattle.card_reader.proofs.Carding.{unknown_read, noted_is}
use Rattle.card_reader.proofs.reader.Reader.read_kind.Goals as goal

pub returns-in-UnknownControl-clause-read : goal.returns-in-UnknownControl-clause-read
returns-in-UnknownControl-clause-read c = λ o e w. rw c.in-UnknownControl.is (unknown_read c.args.self.now c.note.new.self o e c.args.card w (noted_is c.args.self.now c.note.new.self _ c.note.ensures))
