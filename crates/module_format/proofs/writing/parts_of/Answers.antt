use Rattle.std.proofs.Common.{refl, sym}
use Rattle.module_format.proofs.writing.parts_of.Goals as goal

pub returns : goal.returns
returns c = record {
  level = refl;
  entry = refl;
  strings = sym c.requires.strings;
  labels = sym c.as_slice.ensures;
  statements = sym c.as_slice-2.ensures;
  cards = sym c.as_slice-3.ensures;
  expressions = sym c.as_slice-4.ensures;
  patterns = sym c.as_slice-5.ensures;
  code = c.requires.code;
}
