-- The labels of statements, before their trees are known.
use Rattle.std.specs.Prelude.{Option}
use Rattle.lexer.specs.Lexed.{name_in_front}
use Rattle.model.specs.declared.cards.Statement.{Statement}
use Rattle.model.specs.Deck.Pieces.{pieces}
use Rattle.model.specs.Deck.Trees.{Bytes}

-- the name that a statement's text begins with, which is its label if it has a tree
abbrev pub head_of : Statement → Option Bytes
head_of s = name_in_front (pieces s.text)
