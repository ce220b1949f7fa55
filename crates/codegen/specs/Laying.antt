-- Parts that were put one behind the other, with their offsets.
use Rattle.std.specs.Prelude.{◌≡◌, ℕ, List, [], length, drop}
use Rattle.model.specs.Deck.Trees.{Bytes, Expr}
use Rattle.expr_codegen.specs.Code.{Part}
use Rattle.expr_codegen.specs.Emitting.{Gen, Emits, Longer}
use Rattle.codegen.specs.Layout.{joined_parts, offsets}

-- nothing is put
abbrev pub empty : Gen
empty = record { code = []; texts = []; waiting = []; taken = 0 }

-- with so many expressions taken
abbrev pub retaken : ℕ → Gen → Gen
retaken n g = record { code = g.code; texts = g.texts; waiting = g.waiting; taken = n }

-- expressions may have been taken meanwhile
pub record Laid (ps : List Part) (os : List ℕ) (g h : Gen) : Type 0 where
  pub parts : Emits (joined_parts ps) (retaken h.taken g) h
  pub offsets : (texts : List Bytes) → Longer h.texts texts → os ≡ offsets ps texts (length g.waiting) (length g.code)

-- the unevaluated expressions that weren't taken yet
abbrev pub left : Gen → List Expr
left g = drop g.taken g.waiting
