-- What a match may begin with.
use Rattle.std.specs.Prelude.{◌≡◌, ◌≤◌, ℕ, List}
use Rattle.model.specs.Language.Strings.{flags_of}
use Rattle.model.specs.Pattern.Steps.{Code}
use Rattle.prefilter.specs.Looks.{FailsUnless}
use Rattle.prefilter.specs.declared.prefilter.Firsts.{Firsts}

-- a match fails in so many steps at each start where two bytes stand of another number
abbrev pub AreFirsts : Code → Firsts → Type 0
AreFirsts code firsts = ((ws : List ℕ) × (firsts.set ≡ flags_of ws) × FailsUnless code 0 firsts.factor ws firsts.steps) × (firsts.steps ≤ 97)
