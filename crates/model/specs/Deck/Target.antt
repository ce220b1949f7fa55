-- What can be assigned to.
use Rattle.std.specs.Prelude.{ℕ, ℤ}
use Rattle.model.specs.Deck.Trees.{Bytes}

pub data Name : Type 0 where
  Variable : Bytes → Name
  -- an element of an array by its place, or a field of a record
  Element : (object index : ℕ) → Name
  -- the value that a table has for an integer, or for a string
  IntegerKey : (object : ℕ) → ℤ → Name
  StringKey : (object : ℕ) → Bytes → Name
