-- The texts of the cards so far, cut into pieces as far as they are known.
use Rattle.std.specs.Prelude.{◌≡◌, ◌<◌, ℕ, ◌==◌, ◌||◌, true, ◌∷◌, ◌++◌, get_or, length, List, [], Option, Some, None, if◌then◌else◌}
use Rattle.model.specs.Deck.Cards.{CardKind, Continuation, Start, Column, placed, split}

-- the quote of the literal that is open behind these columns
abbrev pub after : Option ℕ → List Column → Option ℕ
after quote [] = quote
after None (c ∷ cs) = if c.byte == 59 then after None cs else (if c.byte == 39 || c.byte == 34 then after (Some c.byte) cs else after None cs)
after (Some q) (c ∷ cs) = if c.byte == q then after None cs else after (Some q) cs

-- the same behind one byte that is no semicolon outside literals
abbrev pub next_quote : Option ℕ → ℕ → Option ℕ
next_quote None b = if b == 39 || b == 34 then Some b else None
next_quote (Some q) b = if b == q then None else Some q

-- no byte is a semicolon or a quote
abbrev pub IsDull : List ℕ → Type 0
IsDull text = (k : ℕ) → k < length text → (get_or text k 0 == 59 || get_or text k 0 == 39 || get_or text k 0 == 34) ≡ true → ⊥

-- the last piece of the first list goes on with the first of the second
abbrev pub glue : List (List Column) → List (List Column) → List (List Column)
glue [] bs = bs
glue (a ∷ []) [] = a ∷ []
glue (a ∷ []) (b ∷ bs) = (a ++ b) ∷ bs
glue (a ∷ c ∷ as_) bs = a ∷ glue (c ∷ as_) bs

-- the pieces that are whole, the one that may go on, and the quote of the literal that is open there
pub record Parts : Type 0 where
  pub whole : List (List Column)
  pub last : List Column
  pub quote : Option ℕ

abbrev pub parts : List (List Column) → List Column → Option ℕ → Parts
parts whole last quote = record { whole = whole; last = last; quote = quote }

abbrev pub nothing : Parts
nothing = parts [] [] None

-- the last piece goes on with the first of these, and all but the last of them are whole
abbrev pub grown : List (List Column) → List Column → List (List Column) → Option ℕ → Parts
grown whole last [] quote = parts whole last quote
grown whole last (p ∷ []) quote = parts whole (last ++ p) quote
grown whole last (p ∷ r ∷ ps) quote = grown (whole ++ (last ++ p) ∷ []) [] (r ∷ ps) quote

-- these columns are appended to the last text
unfoldable pub appended : Parts → List Column → Parts
appended s cs = grown s.whole s.last (split s.quote cs) (after s.quote cs)

-- the last text ends
abbrev pub ended_text : Parts → Parts
ended_text s = parts (s.whole ++ s.last ∷ []) [] None

abbrev pub parts_of : Option Parts → Parts
parts_of None = nothing
parts_of (Some s) = s

abbrev pub next_text : Option Parts → Parts
next_text None = nothing
next_text (Some s) = ended_text s

-- one card more; None where no text has begun
abbrev pub step : Option Parts → CardKind → ℕ → Option Parts
step s (Start cs) n = Some (appended (next_text s) (placed n cs))
step (Some s) (Continuation cs) n = Some (appended s (placed n cs))
step s _ n = s

-- all pieces, if nothing follows
abbrev pub all_pieces : Parts → List (List Column)
all_pieces s = s.whole ++ s.last ∷ []
