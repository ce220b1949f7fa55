-- The lines of a deck, one by one.
use Rattle.std.specs.Prelude.{◌≡◌, ◌≤◌, ℕ, ◌+◌, ◌∷◌, List, [], length, Option, Some, None}
use Rattle.std.specs.Borrow.{Bor}
use Rattle.model.specs.Deck.Cards.{lines}

-- the first line and the others; the line and its line feed, or at least a byte, are gone
abbrev pub IsNextLine : List ℕ → Option (Bor (List ℕ) × Bor (List ℕ)) → Type 0
IsNextLine deck None = deck ≡ []
IsNextLine deck (Some p) = (lines deck ≡ p.0.now ∷ lines p.1.now) × (1 + length p.1.now ≤ length deck) × (length p.0.now + length p.1.now ≤ length deck)
