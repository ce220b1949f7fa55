-- What a run came out as to which a word led.
use Rattle.std.specs.Prelude.{◌≡◌, ℕ, List, Bool, Ok}
use Rattle.model.specs.declared.image.Image.{Image}
use Rattle.model.specs.Deck.Cards.{first_cards}
use Rattle.model.specs.Module.Reading.{read_image}
use Rattle.statement_machine.specs.Stopped.{IfRan}
use Rattle.unit_io.specs.Files.{FilesView}
use Rattle.unit_io.specs.Ways.{any_may_fail}
use Rattle.driver.specs.Cards.{card_told}
use Rattle.driver.specs.Compiled.{IsModuleOf}
use Rattle.driver.specs.OnFiles.{IsRunOnFiles, WritesMeaning}
use Rattle.driver.specs.Whole.{IsModuleRun, IsRunOf}
use Rattle.driver.specs.declared.running.Ran.{Ran}
use Rattle.driver.specs.declared.words.UnitFile.{UnitFile}
use Rattle.program.specs.Fresh.{AreFresh}

module _ {S : Type 0} (exposes : S → Bool) (input : S → List ℕ) (source : S → List ℕ → List ℕ) where
  -- on units that had just been made on some system, with these files, a run of a deck, of at most so many steps, wrote what
  -- the deck means and came out so, with the card of the statement at which it ended
  pub record HasRunDeck (deck : List ℕ) (steps : ℕ) (files : List UnitFile) (ran : Ran) : Type 0 where
    pub system : S
    pub fresh : FilesView S
    pub after : FilesView S
    pub made : AreFresh exposes input source system files fresh
    pub meaning : WritesMeaning exposes deck steps ran.status fresh after
    pub run : IsRunOnFiles exposes (IsRunOf deck steps any_may_fail) ran.status fresh after
    pub card : IfRan ran.status (ran.card ≡ card_told (first_cards deck) ran.status)

  -- the same of the module that bytes spell; of one that compile_deck wrote, it wrote what the deck means
  pub record HasRunModule (bytes : List ℕ) (steps : ℕ) (files : List UnitFile) (ran : Ran) : Type 0 where
    pub system : S
    pub fresh : FilesView S
    pub after : FilesView S
    pub made : AreFresh exposes input source system files fresh
    pub meaning : (deck : List ℕ) → IsModuleOf deck bytes → WritesMeaning exposes deck steps ran.status fresh after
    pub run : IsRunOnFiles exposes (IsModuleRun bytes steps any_may_fail) ran.status fresh after
    pub card : (m : Image) × (read_image bytes ≡ Ok m) × IfRan ran.status (ran.card ≡ card_told m.cards ran.status)
