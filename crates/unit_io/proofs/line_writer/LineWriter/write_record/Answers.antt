use Rattle.std.proofs.Common.{[], ◌∷◌}
use Rattle.std.specs.Io.Buffered.{writer_contents}
use Rattle.unit_io.proofs.Appended.{longer, behind}
use Rattle.unit_io.proofs.line_writer.LineWriter.write_record.Goals as goal

pub returns-in-Err-clause-err : goal.returns-in-Err-clause-err
returns-in-Err-clause-err g c =
    let C = writer_contents g.W.Write.contents in
    longer (C c.args.self.now.target) (C c.write_whole.new.target) c.args.bytes.now (10 ∷ []) c.in-Err.ensures.err

pub returns-in-Ok-clause-err : goal.returns-in-Ok-clause-err
returns-in-Ok-clause-err g c =
    let C = writer_contents g.W.Write.contents in
    behind c.write_whole-in-Ok.result (C c.args.self.now.target) (C c.write_whole.new.target) (C c.write_whole-in-Ok.new.target) c.args.bytes.now (10 ∷ []) c.in-Ok.ensures.ok c.write_whole-in-Ok.ensures.err
