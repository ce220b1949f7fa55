use Rattle.std.proofs.Common.{ap, w64, ◌∙◌}
use Rattle.std.proofs.lemmas.Int.{to_z_pos}
use Rattle.model.specs.Language.Conversions.{Got}
use Rattle.values.proofs.Integers.{digits_read, reads_text, refuses_text}
use Rattle.values.proofs.conversions.integer_of.Goals as goal

pub returns-in-Some : goal.returns-in-Some
returns-in-Some c = ap Got (to_z_pos w64 c.in-Some.n c.in-Some.ensures.2) ∙ digits_read c.args.text.now c.in-Some.n c.if-is_empty.ensures c.in-Some.ensures.0 c.in-Some.ensures.1 c.in-Some.ensures.2

pub returns-in-Some-read_int : goal.returns-in-Some-read_int
returns-in-Some-read_int c = reads_text c.args.text.now c.in-Some-read_int.n c.if-is_empty.ensures c.in-Some-read_int.ensures.0 c.in-Some-read_int.ensures.1

pub returns-in-None : goal.returns-in-None
returns-in-None c = refuses_text c.args.text.now c.if-is_empty.ensures c.in-None.ensures
