use Rattle.unit_io.specs.Streams.{Took}
use Rattle.unit_io.proofs.line_reader.LineReader.tell_next.Given as goal

abbrev pub invariant-turns : goal.invariant-turns
invariant-turns g l = Took (g.R.Read.remaining l.initial.self.source) (g.R.Read.remaining l.self.source) l.initial.self.held l.self.held
