use Rattle.std.proofs.Common.{◌∙◌, map, refl}
use Rattle.codegen.specs.Labels.{name_of}
use Rattle.codegen.proofs.BuiltImages.{begins}
use Rattle.codegen.proofs.building.ImageBuilder.new.Goals as goal

pub returns : goal.returns
returns c = begins (map name_of c.args.names.now) _ c.in_ok-labels.ensures (c.reserve_strings.ensures ∙ c.new-generator.ensures) c.new.ensures.items refl
