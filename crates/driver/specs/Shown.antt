-- Why a module was not shown.
use Rattle.std.specs.Prelude.{ℕ, List, Err}
use Rattle.loader.specs.Answers.{IsAnswer}
use Rattle.driver.specs.declared.showing.ShowFault.{ShowFault}
use Rattle.driver.specs.declared.showing.ShowFault.TheVariants as shown

-- it was refused; or a line could not be written
abbrev pub OfShown : List ℕ → ShowFault → Type 0
OfShown bytes (shown.Module fault) = IsAnswer bytes (Err fault)
OfShown bytes (shown.Write error) = Unit {0}
