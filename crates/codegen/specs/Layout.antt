-- The image of a program.
use Rattle.std.specs.Prelude.{ℕ, zero, suc, ◌+◌, List, [], ◌∷◌, ◌++◌, length, Option, Some, None}
use Rattle.model.specs.declared.image.Image.{Image}
use Rattle.model.specs.declared.image.Label as image
use Rattle.model.specs.declared.image.Level.TheVariants as levels
use Rattle.model.specs.declared.instr.Instr.{Instr}
use Rattle.model.specs.declared.instr.Instr.TheVariants as op
use Rattle.model.specs.declared.instr.ReturnKind.{ReturnKind}
use Rattle.model.specs.Deck.Trees.{Bytes, Expr, Place, Label, Computed, Goto, Next, Always, OnSuccess, OnFailure, Both, Body, Nothing, Evaluate, Match, Assign, Replace, Stmt, Plain, End}
use Rattle.model.specs.Language.Names.{key_named}
use Rattle.model.specs.Language.Calls.{return_of}
use Rattle.model.specs.Language.Meaning.{key_target}
use Rattle.model.specs.Language.Programs.{labelled_from, entry_in, entry_label}
use Rattle.model.specs.Module.Images.{code_size}
use Rattle.model.specs.Deck.Weights as weights
use Rattle.expr_codegen.specs.Texts.{number_of_text, with_texts}
use Rattle.expr_codegen.specs.Code.{Part, nothing, one, ◌>>◌, handled, with_key, value, name}

-- ---- bodies

-- an absent object is null
abbrev pub object : Option Expr → Part
object None = one op.Null
object (Some e) = value e

-- to a keyword, if the subject is one
abbrev pub assignment : Option Bytes → Expr → Option Expr → Part
assignment None x o = name x >> object o >> one op.Assign
assignment (Some k) x o = object o >> with_key op.KeySet (key_named k)

abbrev pub body : Body → Part
body Nothing = nothing
body (Evaluate e) = value e >> one op.Drop
body (Match e f) = value e >> value f >> one op.Match
body (Assign x o) = assignment (key_target x) x o
body (Replace x f o) = name x >> one op.FetchK >> value f >> one op.MatchR >> object o >> one op.Splice

-- ---- gotos

-- to a statement, or to none
abbrev pub goto_known : Option ℕ → Instr
goto_known (Some n) = op.Goto n
goto_known None = op.NoLabel

-- to a label's statement, unless the label leaves a function
abbrev pub goto_label : Option ReturnKind → Option ℕ → Instr
goto_label (Some r) n = op.Return r
goto_label None n = goto_known n

-- number_of: the statements of labels
module _ (number_of : Bytes → Option ℕ) where
  abbrev pub place : Place → Part
  place (Label l) = one (goto_label (return_of l) (number_of l))
  place (Computed e) = value e >> one op.GotoV

  -- after statement n: what stands before the offset at which a failed statement goes on
  abbrev pub after_success : ℕ → Goto → Part
  after_success n Next = nothing
  after_success n (Always p) = nothing
  after_success n (OnSuccess p) = place p
  after_success n (OnFailure p) = one (op.Goto (suc n))
  after_success n (Both p q) = place p

  -- and what stands there
  abbrev pub after_failure : Goto → Part
  after_failure Next = nothing
  after_failure (Always p) = place p
  after_failure (OnSuccess p) = nothing
  after_failure (OnFailure p) = place p
  after_failure (Both p q) = place q

  -- ---- statements

  -- statement n
  abbrev pub statement : ℕ → Stmt → Part
  statement n (Plain l b g) = handled op.Begin (body b >> one op.Body >> after_success n g) (after_failure g)
  statement n (End entry) = one op.End

  -- each statement, from statement n on
  abbrev pub statements : ℕ → List Stmt → List Part
  statements n [] = []
  statements n (s ∷ ss) = statement n s ∷ statements (suc n) ss

-- ---- unevaluated expressions

abbrev pub expression : Expr → Part
expression e = value e >> one op.Ret

-- each expression of a queue; those that it names queue behind the others. A queue ends before its fuel does if it is no
-- heavier.
abbrev pub expressions : ℕ → List Expr → List Part
expressions zero es = []
expressions (suc fuel) [] = []
expressions (suc fuel) (e ∷ es) = expression e ∷ expressions fuel (es ++ (expression e).later)

-- ---- the image

-- one part behind the other
abbrev pub joined_parts : List Part → Part
joined_parts [] = nothing
joined_parts (p ∷ ps) = p >> joined_parts ps

-- the offset of each part
abbrev pub offsets : List Part → (texts : List Bytes) → (k at : ℕ) → List ℕ
offsets [] texts k at = []
offsets (p ∷ ps) texts k at = at ∷ offsets ps texts (k + length p.later) (at + code_size (p.code texts k at))

-- the labels but END
abbrev pub label_texts : List Stmt → List Bytes
label_texts [] = []
label_texts (Plain (Some l) b g ∷ ss) = l ∷ label_texts ss
label_texts (_ ∷ ss) = label_texts ss

-- with the numbers of their statements, from statement n on
abbrev pub label_entries : List Bytes → ℕ → List Stmt → List image.Label
label_entries texts n [] = []
label_entries texts n (Plain (Some l) b g ∷ ss) = record { string = number_of_text l texts; statement = n } ∷ label_entries texts (suc n) ss
label_entries texts n (_ ∷ ss) = label_entries texts (suc n) ss

-- the parts of a program: statements, then unevaluated expressions
abbrev pub program_parts : List Stmt → List Part
program_parts ss = statements (labelled_from 1 ss) 1 ss

abbrev pub expressions_of : List Stmt → List Part
expressions_of ss = expressions (weights.total weights.weight ss) (joined_parts (program_parts ss)).later

abbrev pub code_of : List Stmt → Part
code_of ss = joined_parts (program_parts ss) >> joined_parts (expressions_of ss)

-- the strings by first use in the code; labels that it doesn't use stand last
abbrev pub texts_of : List Stmt → List Bytes
texts_of ss = with_texts (label_texts ss) (with_texts (code_of ss).texts [])

-- the image of a program whose statements begin at these cards
abbrev pub generated_image : (cards : List ℕ) → List Stmt → Image
generated_image cards ss =
    let texts : List Bytes = texts_of ss in
    let statements : Part = joined_parts (program_parts ss) in
    record {
      level = levels.Two;
      entry = entry_in ss (entry_label ss);
      strings = texts;
      labels = label_entries texts 1 ss;
      statements = offsets (program_parts ss) texts 0 0;
      cards = cards;
      expressions = offsets (expressions_of ss) texts (length statements.later) (code_size (statements.code texts 0 0));
      patterns = [];
      code = (code_of ss).code texts 0 0;
    }
