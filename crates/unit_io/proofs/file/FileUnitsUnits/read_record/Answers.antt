use Rattle.std.proofs.Common.{◌≡◌, subst, refl}
use Rattle.model.specs.Language.Units.{Reads}
use Rattle.unit_io.specs.Files.{FilesView, told_of}
use Rattle.unit_io.specs.Sides.{kept_by, left_by, written_by}
use Rattle.unit_io.proofs.Holding.{failed_read_kept, read_kept, reads, tells_still}
use Rattle.unit_io.proofs.file.FileUnitsUnits.read_record.Goals as goal

pub invariant_of-self : goal.invariant_of-self
invariant_of-self g c =
    read_kept g.S.UnitSystem.exposes _ _ refl c.self.invariant c.args.unit c.in-Ok.got c.in-Ok.ensures.ok c.take.ensures.others c.take.ensures.written refl refl

pub invariant_of-self-in-Err : goal.invariant_of-self-in-Err
invariant_of-self-in-Err g c =
    failed_read_kept g.S.UnitSystem.exposes _ _ refl c.self.invariant c.args.unit c.in-Err.ensures.err c.take.ensures.others c.take.ensures.written refl c.count.ensures.grows

pub returns-in-Ok-clause-ok : goal.returns-in-Ok-clause-ok
returns-in-Ok-clause-ok g c =
    let exposes = g.S.UnitSystem.exposes in
    let v : FilesView g.row.S.Denot = record {
      system = c.self.inside.system.now;
      input = left_by g.S.Input.Read.remaining c.self.inside.input;
      held = c.self.inside.input.held;
      output = written_by g.S.Output.Write.contents c.self.inside.output;
      back = kept_by c.self.inside.output;
      refused = c.self.inside.output.refused;
      given = c.self.inside.given.items;
      counts = c.self.inside.counts;
      records = c.self.inside.history.records;
    } in
    let w : FilesView g.row.S.Denot = record {
      system = c.self.inside.system.now;
      input = left_by g.S.Input.Read.remaining c.take.new.input;
      held = c.take.new.input.held;
      output = written_by g.S.Output.Write.contents c.take.new.output;
      back = kept_by c.take.new.output;
      refused = c.take.new.output.refused;
      given = c.take.new.given.items;
      counts = c.self.inside.counts;
      records = c.self.inside.history.records;
    } in
    subst (λ (x : FilesView g.row.S.Denot). Reads c.args.unit c.in-Ok.got (told_of exposes x) (told_of exposes w)) c.self.view_is
    (reads exposes v w refl c.self.invariant c.args.unit c.in-Ok.got c.in-Ok.ensures.ok c.take.ensures.others refl)

pub returns-in-Err-clause-err : goal.returns-in-Err-clause-err
returns-in-Err-clause-err g c =
    let exposes = g.S.UnitSystem.exposes in
    let v : FilesView g.row.S.Denot = record {
      system = c.self.inside.system.now;
      input = left_by g.S.Input.Read.remaining c.self.inside.input;
      held = c.self.inside.input.held;
      output = written_by g.S.Output.Write.contents c.self.inside.output;
      back = kept_by c.self.inside.output;
      refused = c.self.inside.output.refused;
      given = c.self.inside.given.items;
      counts = c.self.inside.counts;
      records = c.self.inside.history.records;
    } in
    let w : FilesView g.row.S.Denot = record {
      system = c.self.inside.system.now;
      input = left_by g.S.Input.Read.remaining c.take.new.input;
      held = c.take.new.input.held;
      output = written_by g.S.Output.Write.contents c.take.new.output;
      back = kept_by c.take.new.output;
      refused = c.take.new.output.refused;
      given = c.take.new.given.items;
      counts = c.count.new.counts;
      records = c.self.inside.history.records;
    } in
    subst (λ (x : FilesView g.row.S.Denot). told_of exposes w ≡ told_of exposes x) c.self.view_is
    (tells_still exposes v w refl c.self.invariant c.args.unit c.in-Err.ensures.err c.take.ensures.others refl)
