-- The parts of an image that is to be written.
use Rattle.std.specs.Prelude.{◌≡◌, map}
use Rattle.model.specs.declared.image.Image.{Image}
use Rattle.model.specs.Module.Spelling.{code_bytes}
use Rattle.module_format.specs.declared.writing.ImageParts.{ImageParts}

-- these are the parts of an image
pub record IsMadeOf (m : Image) (p : ImageParts) : Type 0 where
  pub level : m.level ≡ p.level
  pub entry : m.entry ≡ p.entry
  pub strings : m.strings ≡ map (λ s. s.now) p.strings.now
  pub labels : m.labels ≡ p.labels.now
  pub statements : m.statements ≡ p.statements.now
  pub cards : m.cards ≡ p.cards.now
  pub expressions : m.expressions ≡ p.expressions.now
  pub patterns : m.patterns ≡ p.patterns.now
  pub code : p.code.now ≡ code_bytes m.code
