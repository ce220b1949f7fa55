-- Patterns as values have them, as the definitions see them.
use Rattle.std.specs.Prelude.{◌≡◌, [], ◌∷◌}
use Rattle.model.specs.Pattern.Patterns as p
use Rattle.model.specs.Pattern.Steps.{Code}
use Rattle.pattern_compiler.specs.declared.pattern.Counted.{Counted}
use Rattle.pattern_compiler.specs.declared.pattern.Counted.TheVariants as counted
use Rattle.pattern_compiler.specs.declared.pattern.Form.{Form}
use Rattle.pattern_compiler.specs.declared.pattern.Form.TheVariants as form

abbrev pub counted_of : Counted → p.Basic
counted_of (counted.Len n) = p.Len n
counted_of (counted.Pos n) = p.Pos n
counted_of (counted.RPos n) = p.RPos n
counted_of (counted.Tab n) = p.Tab n
counted_of (counted.RTab n) = p.RTab n

-- a literal that is kept as one isn't null
abbrev pub form_code : Form → Code
form_code (form.Lit w) = p.Do (p.Lit w) ∷ []
form_code (form.Long w) = p.Do (p.Lit w) ∷ []
form_code (form.Counted k) = p.Do (counted_of k) ∷ []
form_code (form.Break w) = p.Do (p.Break w) ∷ []
form_code (form.Code c) = c

-- one part without parts and without effect
abbrev pub IsPart : Code → Type 0
IsPart c = (b : p.Basic) × (c ≡ p.Do b ∷ [])
