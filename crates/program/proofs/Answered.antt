-- What came of the program's words.
use Rattle.std.proofs.Common.{ℕ, List, Bool, Option, Some, None, inl}
use Rattle.driver.specs.Exits.{IsOfBadWords}
use Rattle.driver.specs.declared.telling.FinalReport.{FinalReport}
use Rattle.driver.specs.declared.telling.FinalReport.TheVariants as told
use Rattle.program.specs.Words.{HasAnswered, HasPerformed, IsOfNoWord}

-- words that ask for nothing
pub no_word : (t : FinalReport) → IsOfBadWords t → IsOfNoWord t
no_word (told.CannotRead file) h = absurd h
no_word (told.CannotWrite file) h = absurd h
no_word t h = h

-- a word was done
pub answered : {F S : Type 0} (holds : F → List ℕ → List ℕ → Type 0) (input : F → List ℕ → Type 0) (writes : F → F → List ℕ → List ℕ → Type 0) (exposes : S → Bool) (input_bytes : S → List ℕ) (source_bytes : S → List ℕ → List ℕ) (old new : F) (t : Option FinalReport)
    → HasPerformed holds input writes exposes input_bytes source_bytes old new t → HasAnswered holds input writes exposes input_bytes source_bytes old new t
answered holds input writes exposes input_bytes source_bytes old new None h = h
answered holds input writes exposes input_bytes source_bytes old new (Some t) h = inl h
