use Rattle.std.proofs.Common.{◌≡◌, ℕ, arith, subst, refl}
use Rattle.model.specs.Language.Units.{Writes}
use Rattle.unit_io.specs.Counts.{failures_at}
use Rattle.unit_io.specs.Files.{FilesView, told_of}
use Rattle.unit_io.specs.Sides.{kept_by, left_by, written_by}
use Rattle.unit_io.proofs.Holding.{more_kept, part_kept, writes}
use Rattle.unit_io.proofs.file.FileUnitsUnits.write_record.Goals as goal

pub invariant_of-self-in-Ok : goal.invariant_of-self-in-Ok
invariant_of-self-in-Ok g c =
    let none : failures_at c.self.inside.counts c.args.unit ≡ 0 = omega (arith, c.get-failures.ensures, c.if-failures-gt0.false) in
    let left = λ (u : ℕ). c.put.ensures.left u (left_by g.S.Input.Read.remaining c.self.inside.input) in
    more_kept g.S.UnitSystem.exposes _ _ refl c.self.invariant c.args.unit c.args.bytes.now none left c.put.ensures.others c.in-Ok.ensures.ok c.note.ensures refl

pub invariant_of-self-in-Err : goal.invariant_of-self-in-Err
invariant_of-self-in-Err g c =
    let none : failures_at c.self.inside.counts c.args.unit ≡ 0 = omega (arith, c.get-failures.ensures, c.if-failures-gt0.false) in
    let left = λ (u : ℕ). c.put.ensures.left u (left_by g.S.Input.Read.remaining c.self.inside.input) in
    part_kept g.S.UnitSystem.exposes _ _ refl c.self.invariant c.args.unit c.args.bytes.now none left c.put.ensures.others
    c.in-Err.fault c.in-Err.ensures.err c.in-Err.ensures.memory refl c.count.ensures.counted c.count.ensures.others

pub returns-in-Ok-clause-ok : goal.returns-in-Ok-clause-ok
returns-in-Ok-clause-ok g c =
    let left = λ (u : ℕ). c.put.ensures.left u (left_by g.S.Input.Read.remaining c.self.inside.input) in
    let exposes = g.S.UnitSystem.exposes in
    let v : FilesView g.row.S.Denot = record {
      system = c.self.inside.system.now;
      input = left_by g.S.Input.Read.remaining c.self.inside.input;
      held = c.self.inside.input.held;
      output = written_by g.S.Output.Write.contents c.self.inside.output;
      back = kept_by c.self.inside.output;
      refused = c.self.inside.output.refused;
      given = c.self.inside.given.items;
      counts = c.self.inside.counts;
      records = c.self.inside.history.records;
    } in
    let w : FilesView g.row.S.Denot = record {
      system = c.self.inside.system.now;
      input = left_by g.S.Input.Read.remaining c.self.inside.input;
      held = c.self.inside.input.held;
      output = written_by g.S.Output.Write.contents c.put.new.output;
      back = kept_by c.put.new.output;
      refused = c.put.new.output.refused;
      given = c.put.new.given.items;
      counts = c.self.inside.counts;
      records = c.note.new.self.records;
    } in
    subst (λ (x : FilesView g.row.S.Denot). Writes c.args.unit c.args.bytes.now (told_of exposes x) (told_of exposes w)) c.self.view_is
    (writes exposes v w refl c.self.invariant c.args.unit c.args.bytes.now left c.note.ensures)
