use Rattle.program.proofs.FreshUnits.{next_given, none_given}
use Rattle.program.proofs.jobs.units_of.Goals as goal

pub files-init : goal.files-init
files-init g c =
    none_given g.S.UnitSystem.exposes g.S.UnitSystem.input_bytes g.S.UnitSystem.source_bytes c.args.system.now c.in-Ok.units
    c.in-Ok.ensures.system c.in-Ok.ensures.input c.in-Ok.ensures.sound c.in-Ok.ensures.given c.in-Ok.ensures.counts c.in-Ok.ensures.records

pub files-preserved : goal.files-preserved
files-preserved g c =
    next_given g.S.UnitSystem.exposes g.S.UnitSystem.input_bytes g.S.UnitSystem.source_bytes c.args.system.now c.give.result c.args.files.now c.files.given-index _ c.files.units c.give.new.self c.files-test.true
    c.if-is_err.ensures.value c.files.invariant c.give.ensures.given c.give.ensures.others c.give.ensures.system c.give.ensures.input c.give.ensures.refused c.give.ensures.counts c.give.ensures.records
