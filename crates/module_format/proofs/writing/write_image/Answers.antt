use Rattle.std.proofs.Common.{◌∙◌, ap, map}
use Rattle.model.specs.Module.Spelling.{code_bytes}
use Rattle.module_format.proofs.Written.{if_spelt}
use Rattle.module_format.proofs.writing.write_image.Goals as goal

pub parts_of-parts-requires-clause-strings : goal.parts_of-parts-requires-clause-strings
parts_of-parts-requires-clause-strings c = ap (map (λ s. s.now)) c.deref.ensures.value ∙ c.in_ok-strings.ensures ∙ c.as_slice.ensures

pub parts_of-parts-requires-clause-code : goal.parts_of-parts-requires-clause-code
parts_of-parts-requires-clause-code c = c.deref-2.ensures.value ∙ c.in_ok-code.ensures ∙ ap code_bytes c.as_slice-2.ensures

pub write_parts-requires : goal.write_parts-requires
write_parts-requires c = (c.args.image.now, c.parts_of-parts.ensures, c.requires)

pub returns : goal.returns
returns c = if_spelt c.write_parts.result c.args.image.now _ c.parts_of-parts.ensures c.write_parts.ensures
