use Rattle.std.proofs.Common.{[], ap, rules, sym, ◌∙◌}
use Rattle.model.specs.Language.Io.{Io}
use Rattle.model.specs.Language.Conversions.{Got}
use Rattle.model.specs.Language.Operators.{print_text}
use Rattle.model.specs.Language.Units.{after_write}
use Rattle.unit_io.specs.Service.{OfAny, OfThese}
use Rattle.world.specs.Held.{world_of}
use Rattle.operations.proofs.Telling.{told_kept, told_written}
use Rattle.operations.proofs.unit_calls.print.Goals as goal

none_held : Io
none_held = record { left = λ unit. []; printed = [] }

pub returns-in-Ok-write_record-clause-served : goal.returns-in-Ok-write_record-clause-served
returns-in-Ok-write_record-clause-served g c =
    let u = c.args.unit in
    let text = c.as_slice.result.now in
    record {
      told = told_written _ _ u text _ c.in-Ok-write_record.ensures.ok (λ io h. ap (λ t. print_text u t (world_of h io)) (c.in-Ok.ensures.text ∙ ap Got (sym c.as_slice.ensures)));
      some = OfThese none_held (after_write u text none_held) (λ h. ap (λ t. print_text u t (world_of h none_held)) (c.in-Ok.ensures.text ∙ ap Got (sym c.as_slice.ensures)));
      counts = search rules;
      sound = search rules;
    }

pub returns-clause-served : goal.returns-clause-served
returns-clause-served g c = record {
  told = told_kept _ _ _ c.in-Err-write_record.ensures.err (λ io h. tt);
  some = OfAny (λ io h. tt);
  counts = search rules;
  sound = search rules;
}
