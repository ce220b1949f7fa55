use Rattle.std.proofs.Common.{ap, refl, ◌∙◌}
use Rattle.unit_io.specs.Files.{FilesView}
use Rattle.unit_io.specs.Views.{FileView}
use Rattle.unit_io.proofs.Holding.{given_kept}
use Rattle.unit_io.proofs.file.FileUnits.give.Goals as goal

pub invariant_of-self : goal.invariant_of-self
invariant_of-self g c =
    given_kept g.S.UnitSystem.exposes _ _ refl c.self.invariant c.args.unit (ap (λ (v : FilesView g.row.S.Denot). v.records) c.self.view_is ∙ c.requires) c.place_file.ensures.others refl refl refl refl
    c.place_file.result (g.S.UnitSystem.source_bytes c.self.inside.system.now c.args.path.now) c.new-file.result (ap (λ (f : FileView). f.left) c.new-file.ensures) (ap (λ (f : FileView). f.written) c.new-file.ensures)
    c.place_file.ensures.given c.place_file.ensures.err
