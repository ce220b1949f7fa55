-- An image that is made statement by statement.
use Rattle.std.specs.Prelude.{◌≡◌, ◌≤◌, ℕ, suc, ◌+◌, ◌*◌, List, [], ◌∷◌, ◌++◌, length, Option, None, Some}
use Rattle.std.specs.List.{AllByRecursion}
use Rattle.model.specs.declared.image.Image.{Image}
use Rattle.model.specs.declared.image.Label as image
use Rattle.model.specs.declared.image.Level.TheVariants as levels
use Rattle.model.specs.Module.Spelling.{code_bytes}
use Rattle.model.specs.Deck.Trees.{Bytes, Stmt}
use Rattle.model.specs.Deck.Weights as weights
use Rattle.expr_codegen.specs.Emitting.{Gen, Numbered, size}
use Rattle.expr_codegen.specs.Texts.{number_of_text}
use Rattle.expr_codegen.specs.Views.{gen_of}
use Rattle.codegen.specs.Countable.{CountableStmt}
use Rattle.codegen.specs.Labels.{entry_noted, number_in, number_among}
use Rattle.codegen.specs.Laying.{Laid, empty}
use Rattle.codegen.specs.Layout as layout
use Rattle.codegen.specs.declared.building.Draft.{Draft}
use Rattle.codegen.specs.declared.building.ImageBuilder.{ImageBuilder}

-- these statements are put, of a program whose statements give these labels: their code stands, and that of others may
-- follow behind it
pub record HasPut (names : List (Option Bytes)) (ss : List Stmt) (b : ImageBuilder) : Type 0 where
  pub labels : (l : Bytes) → number_in b.labels l ≡ number_among 1 names l
  pub laid : (more : List Stmt) (j : Gen) (ps : List ℕ) → Laid (layout.statements (number_among 1 names) (1 + length ss) more) ps (gen_of b.generator) j
      → Laid (layout.statements (number_among 1 names) 1 (ss ++ more)) (b.offsets.items ++ ps) empty j
  pub taken : (gen_of b.generator).taken ≡ 0
  pub count : length b.offsets.items ≡ length ss
  pub entry : b.entry ≡ entry_noted (number_among 1 names) ss
  pub countable : AllByRecursion CountableStmt ss
  pub size : size (gen_of b.generator) ≤ 9 * weights.total weights.weight ss + 6 * length ss

-- ---- the table of labels

-- these labels, in order
abbrev pub own_texts : List (Option Bytes) → List Bytes
own_texts [] = []
own_texts (None ∷ ns) = own_texts ns
own_texts (Some l ∷ ns) = l ∷ own_texts ns

-- with the numbers of their statements, from statement n on
abbrev pub own_entries : List Bytes → ℕ → List (Option Bytes) → List image.Label
own_entries texts n [] = []
own_entries texts n (None ∷ ns) = own_entries texts (suc n) ns
own_entries texts n (Some l ∷ ns) = record { string = number_of_text l texts; statement = n } ∷ own_entries texts (suc n) ns

-- a label that statement n may give is put behind others
abbrev pub IsNamed : Option Bytes → ℕ → (ls ms : List image.Label) → (g h : Gen) → Type 0
IsNamed None n ls ms g h = (ms ≡ ls) × (h ≡ g)
IsNamed (Some l) n ls ms g h = (k : ℕ) × (ms ≡ ls ++ record { string = k; statement = n } ∷ []) × Numbered l k g h × (size h ≤ size g + 1)

-- ---- the end

-- what is ready to be written is this image
pub record IsDraftOf (m : Image) (d : Draft) : Type 0 where
  pub level : m.level ≡ levels.Two
  pub entry : m.entry ≡ d.entry
  pub strings : m.strings ≡ d.strings
  pub labels : m.labels ≡ d.labels.items
  pub statements : m.statements ≡ d.statements.items
  pub cards : m.cards ≡ d.cards
  pub expressions : m.expressions ≡ d.expressions.items
  pub patterns : m.patterns ≡ d.patterns
  pub code : d.code.items ≡ code_bytes m.code
