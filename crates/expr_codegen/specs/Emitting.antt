-- What a generator has put so far, and what it puts.
use Rattle.std.specs.Prelude.{◌≡◌, ◌≤◌, ⊤, ℕ, ◌+◌, List, [], ◌∷◌, ◌++◌, length, Option, Some, None, ◌*◌, drop, take}
use Rattle.model.specs.declared.instr.Instr.{Instr}
use Rattle.model.specs.declared.primitives.PrimId.{PrimId}
use Rattle.model.specs.Deck.Trees.{Bytes, Expr, Call, Reference, Apply, Combine, Args, Nil, More, Absent, Given}
use Rattle.model.specs.Deck.Faults.{count}
use Rattle.model.specs.Module.Spelling.{code_bytes, instr, u32}
use Rattle.model.specs.Language.Names.{prim_named}
use Rattle.model.specs.Deck.Weights.{of_expr}
use Rattle.expr_codegen.specs.Texts.{number_of_text, with_text, with_texts}
use Rattle.expr_codegen.specs.Code.{Part}

-- the bytes of the code so far, its strings, its unevaluated expressions by number, and how many of these were taken to be put
pub record Gen : Type 0 where
  pub code : List ℕ
  pub texts : List Bytes
  pub waiting : List Expr
  pub taken : ℕ

-- a list that begins with another
abbrev pub Longer : {A : Type 0} → List A → List A → Type 0
Longer {A} xs ys = (more : List A) × (ys ≡ xs ++ more)

-- a part was put: its code is the part's, whatever strings are still to come
pub record Emits (p : Part) (g h : Gen) : Type 0 where
  pub code : (texts : List Bytes) → Longer h.texts texts → h.code ≡ g.code ++ code_bytes (p.code texts (length g.waiting) (length g.code))
  pub texts : h.texts ≡ with_texts p.texts g.texts
  pub waiting : h.waiting ≡ g.waiting ++ p.later
  pub taken : h.taken ≡ g.taken

-- what was put stands, and further bytes, strings and expressions may stand at the ends
pub record Extends (g h : Gen) : Type 0 where
  pub code : Longer g.code h.code
  pub texts : Longer g.texts h.texts
  pub waiting : Longer g.waiting h.waiting
  pub taken : h.taken ≡ g.taken

-- ---- single steps

abbrev pub with_instr : Instr → Gen → Gen
with_instr i g = record { code = g.code ++ instr i; texts = g.texts; waiting = g.waiting; taken = g.taken }

-- a number of 4 bytes stands at an offset in place of another
abbrev pub overwritten : (at n : ℕ) → List ℕ → List ℕ
overwritten at n bytes = take at bytes ++ (u32 n ++ drop 4 (drop at bytes))

-- the number behind the first byte of the instruction at an offset is this one now
abbrev pub with_number : (at n : ℕ) → Gen → Gen
with_number at n g = record { code = overwritten (at + 1) n g.code; texts = g.texts; waiting = g.waiting; taken = g.taken }

abbrev pub with_waiting : Expr → Gen → Gen
with_waiting e g = record { code = g.code; texts = g.texts; waiting = g.waiting ++ e ∷ []; taken = g.taken }

-- a string got its number
pub record Numbered (s : Bytes) (k : ℕ) (g h : Gen) : Type 0 where
  pub code : h.code ≡ g.code
  pub waiting : h.waiting ≡ g.waiting
  pub taken : h.taken ≡ g.taken
  pub texts : h.texts ≡ with_text s g.texts
  pub at : k ≡ number_of_text s h.texts

-- ---- limits

-- the code of expressions has no more bytes
abbrev pub due : List Expr → ℕ
due [] = 0
due (e ∷ es) = 9 * of_expr e + 1 + due es

-- no offset and no number is larger, now and when all expressions are put
unfoldable pub size : Gen → ℕ
size g = length g.code + length g.texts + length g.waiting + due (drop g.taken g.waiting)

-- what was put makes it larger by so much at most
abbrev pub AddsAtMost : ℕ → Gen → Gen → Type 0
AddsAtMost n g h = size h ≤ size g + n

-- the next unevaluated expression was taken, if one is left
abbrev pub Takes : Option Expr → Gen → Gen → Type 0
Takes None g h = (h ≡ g) × (drop g.taken g.waiting ≡ [])
Takes (Some e) g h = (h ≡ record { code = g.code; texts = g.texts; waiting = g.waiting; taken = g.taken + 1 }) × (drop g.taken g.waiting ≡ e ∷ drop (g.taken + 1) g.waiting)

abbrev pub most_counted : Option PrimId → ℕ
most_counted None = 65535
most_counted (Some p) = 255

-- each call and each reference has as few arguments as its instruction can count
abbrev mutual
  pub Countable : Expr → Type 0
  Countable (Call f args) = (count args ≤ most_counted (prim_named f)) × AllCountable args
  Countable (Reference x args) = (count args ≤ 65535) × AllCountable args
  Countable (Apply u x) = Countable x
  Countable (Combine op x y) = Countable x × Countable y
  Countable _ = ⊤

  pub AllCountable : Args → Type 0
  AllCountable Nil = ⊤
  AllCountable (More Absent args) = AllCountable args
  AllCountable (More (Given x) args) = Countable x × AllCountable args
