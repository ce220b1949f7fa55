use Rattle.unit_io.proofs.ToldLines.{keeps_if, takes_if}
use Rattle.unit_io.proofs.line_reader.LineReader.next_record.Goals as goal

pub returns-clause-first : goal.returns-clause-first
returns-clause-first g c =
    let left = g.R.Read.remaining in
    takes_if c.tell_next.result (left c.args.self.now.source) (left c.tell_next.new.self.source) c.args.self.now.held c.tell_next.new.self.held c.tell_next.ensures

pub returns-clause-err : goal.returns-clause-err
returns-clause-err g c =
    let left = g.R.Read.remaining in
    keeps_if c.tell_next.result (left c.args.self.now.source) (left c.tell_next.new.self.source) c.args.self.now.held c.tell_next.new.self.held c.tell_next.ensures
